use Rattle.interpreter.proofs.Laws.Windows.{covered_at}
use Rattle.interpreter.proofs.quick.touched.Goals as goal

pub doubleword-requires : goal.doubleword-requires
doubleword-requires c = (c.requires.0, covered_at c.args.w _ c.in-Some.is c.requires.1, c.requires.2 _ c.in-Some.is)
