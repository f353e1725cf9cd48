use Rattle.std.proofs.Common.{arith, add-zero}
use Rattle.pages.specs.Bytes.{big}
use Rattle.pages.proofs.number.U32Number.read.Goals as goal

pub returns : goal.returns
unfolding big
returns c = rw add-zero (omega arith)
