use Rattle.interpreter.proofs.Laws.Turns.{after_some}
use Rattle.interpreter.proofs.quick.after.Goals as goal

pub returns : goal.returns
returns c = after_some _ _ c.with_core-cpu.ensures c.if-count-eq0.false c.plus.ensures
