use Rattle.std.proofs.Common.{◌-◌, arith}
use Rattle.interpreter.proofs.Laws.Powers.{one_shl}
use Rattle.interpreter.proofs.Laws.Words.{sext_sum}
use Rattle.interpreter.proofs.bits.sext.Goals as goal

pub returns : goal.returns
returns g c = let n = g.row.N in rw (c.minus.ensures, c.plus.ensures, one_shl n c.requires.1, one_shl (n - 1) (omega arith)) (sext_sum n _ c.requires.0 (omega arith))
