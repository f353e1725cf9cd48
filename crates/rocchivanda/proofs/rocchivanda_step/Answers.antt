use Rattle.rocchivanda.proofs.Laws.Calls.{step_done}
use Rattle.rocchivanda.proofs.rocchivanda_step.Goals as goal

pub returns : goal.returns
returns c = step_done _ _ _ c.if-answer-lt-COUNT.false c.decode.ensures c.in-Some.is c.used-used.ensures c.step-done.ensures (c.ended.ensures _ _ _) (c.finish.ensures _ _ _)
