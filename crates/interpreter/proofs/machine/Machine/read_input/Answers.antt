use Rattle.interpreter.proofs.Laws.Plans.{input_part}
use Rattle.interpreter.proofs.machine.Machine.read_input.Goals as goal

pub returns-clause-machine : goal.returns-clause-machine
returns-clause-machine c = input_part _ _ _ _ _ _ _ _ _ c.entry_of.ensures c.in-Some.is c.inside.ensures c.if-not-inside.false c.part_of-part.ensures c.read_part.ensures.machine
