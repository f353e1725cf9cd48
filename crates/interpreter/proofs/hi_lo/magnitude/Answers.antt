use Rattle.std.proofs.Common.{◌-◌, arith}
use Rattle.interpreter.proofs.Laws.Powers.{one_shl}
use Rattle.interpreter.proofs.Laws.Signed.{magnitude_half, magnitude_low}
use Rattle.interpreter.proofs.hi_lo.magnitude.Goals as goal

pub returns-then-sign-x : goal.returns-then-sign-x
returns-then-sign-x g c =
    let n = g.row.N in
    let s = one_shl (n - 1) (omega arith) in
    rw s (magnitude_half n c.args.x (omega arith) (rw s at c.if-sign-x.true))

pub returns-else-sign-x : goal.returns-else-sign-x
returns-else-sign-x g c = let n = g.row.N in magnitude_low n _ (rw (one_shl (n - 1) (omega arith)) at c.if-sign-x.false)
