use Rattle.interpreter.proofs.Laws.Lent.{put_none}
use Rattle.interpreter.proofs.machine.Machine.store.Goals as goal

pub returns-in-Err-clause-machine : goal.returns-in-Err-clause-machine
returns-in-Err-clause-machine c = put_none _ _ _ c.set_doubleword.ensures c.in-Err.is
