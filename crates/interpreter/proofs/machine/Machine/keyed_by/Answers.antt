use Rattle.interpreter.proofs.Laws.Plans.{key_shifted}
use Rattle.interpreter.proofs.machine.Machine.keyed_by.Goals as goal

pub returns-clause-machine : goal.returns-clause-machine
returns-clause-machine c = key_shifted _ _ _ _ _ _ _ _ _ _ c.shifting-n.ensures c.shift_key.ensures c.reply.ensures.machine c.onward-self.ensures
