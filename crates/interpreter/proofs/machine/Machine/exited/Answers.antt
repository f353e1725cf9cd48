use Rattle.interpreter.proofs.Laws.Plans.{exit_done}
use Rattle.interpreter.proofs.machine.Machine.exited.Goals as goal

pub returns-clause-machine : goal.returns-clause-machine
returns-clause-machine c = exit_done _ _ _ _ _ _ _ _ _ _ c.leaving-self.ensures
