use Rattle.interpreter.proofs.Laws.Plans.{offset_past, offset_in}
use Rattle.interpreter.proofs.machine.Machine.read_part.Goals as goal

pub returns-then-part-saturating_sub-clause-machine : goal.returns-then-part-saturating_sub-clause-machine
returns-then-part-saturating_sub-clause-machine c = offset_past _ _ _ _ _ _ _ _ _ _ c.saturating_sub.ensures c.if-part-saturating_sub.true

pub returns-clause-machine : goal.returns-clause-machine
returns-clause-machine c = offset_in _ _ _ _ _ _ _ _ _ _ c.saturating_sub.ensures c.if-part-saturating_sub.false c.read_bytes.ensures.machine
