use Rattle.interpreter.proofs.Laws.Windows.{covered_at}
use Rattle.interpreter.proofs.quick.settle.Goals as goal

pub put_doubleword-requires : goal.put_doubleword-requires
put_doubleword-requires c = (c.requires.0, covered_at c.args.w _ c.in-Some.is c.requires.1, c.requires.2 _ c.in-Some.is)

pub returns-in-None : goal.returns-in-None
returns-in-None c = (rw c.in-None.is, λ v s. s)

pub returns-in_default : goal.returns-in_default
returns-in_default c = (rw (c.in-Some.is, c.in_default.is), λ v s. s)
