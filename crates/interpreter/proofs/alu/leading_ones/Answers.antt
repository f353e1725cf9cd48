use Rattle.std.proofs.Common.{ap, arith}
use Rattle.std.specs.Int.Count.{count_leading_zeros}
use Rattle.interpreter.specs.Alu.{leading_zeros32, leading_ones32}
use Rattle.interpreter.proofs.alu.leading_ones.Goals as goal

pub returns : goal.returns
unfolding leading_zeros32 leading_ones32
returns c = rw c.leading_zeros.ensures (ap (count_leading_zeros 32) (omega arith))
