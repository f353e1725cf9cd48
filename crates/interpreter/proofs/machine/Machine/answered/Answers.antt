use Rattle.interpreter.proofs.Laws.Plans.{reply_done}
use Rattle.interpreter.proofs.machine.Machine.answered.Goals as goal

pub returns-clause-machine : goal.returns-clause-machine
returns-clause-machine c = reply_done _ _ _ _ _ _ _ _ _ _ _ c.reply.ensures.machine c.onward-self.ensures
