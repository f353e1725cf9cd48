use Rattle.interpreter.proofs.Laws.Plans.{write_done, write_refused}
use Rattle.interpreter.proofs.machine.Machine.wrote.Goals as goal

pub returns-then-self-a2-clause-machine : goal.returns-then-self-a2-clause-machine
returns-then-self-a2-clause-machine c = write_refused _ _ _ _ _ _ _ _ _ _ c.if-self-a2.true

pub returns-clause-machine : goal.returns-clause-machine
returns-clause-machine c = write_done _ _ _ _ _ _ _ _ _ _ c.if-self-a2.false c.copy_out.ensures c.reply.ensures.machine c.onward-self.ensures
