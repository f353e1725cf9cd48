use Rattle.rocchivanda.proofs.Laws.Calls.{run_done}
use Rattle.rocchivanda.proofs.rocchivanda_run.Goals as goal

pub returns : goal.returns
returns c = run_done _ _ _ c.if-answer-lt-COUNT.false c.decode.ensures c.in-Some.is c.used-used.ensures _ c.run-end.ensures (c.finish.ensures _ _ _)
