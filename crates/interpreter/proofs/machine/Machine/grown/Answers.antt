use Rattle.interpreter.proofs.Laws.Plans.{heap_done}
use Rattle.interpreter.proofs.machine.Machine.grown.Goals as goal

pub returns-clause-machine : goal.returns-clause-machine
returns-clause-machine c = heap_done _ _ _ _ _ _ _ _ _ _ c.reply.ensures.machine c.onward-self.ensures
