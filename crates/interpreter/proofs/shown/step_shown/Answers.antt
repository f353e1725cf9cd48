use Rattle.interpreter.proofs.Laws.Shown.{shown_done}
use Rattle.interpreter.proofs.shown.step_shown.Goals as goal

pub returns-in-Ok : goal.returns-in-Ok
returns-in-Ok c = shown_done _ _ _ _ _ c.counted-n.ensures c.touch_of-t.ensures c.given.ensures c.ins_of.ensures c.kernel-effect.ensures c.in-Ok.is (c.complete.ensures _)
