use Rattle.rocchivanda.proofs.Laws.Calls.{record_done}
use Rattle.rocchivanda.proofs.rocchivanda_step_recorded.Goals as goal

pub returns : goal.returns
returns c = record_done _ _ _ c.if-answer-lt-COUNT.false c.decode.ensures c.in-Some.is c.used-used.ensures _ c.step_recorded-done.ensures (c.ended.ensures _ _ _) (c.finish.ensures _ _ _)
