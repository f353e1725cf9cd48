use Rattle.std.proofs.Common.{◌-◌, arith, eq-eqb, ne_eqb}
use Rattle.interpreter.specs.HiLo.{overflows}
use Rattle.interpreter.proofs.Laws.Powers.{one_shl}
use Rattle.interpreter.proofs.Laws.Signed.{all_ones}
use Rattle.interpreter.proofs.hi_lo.overflows.Goals as goal

pub returns-then-x-least : goal.returns-then-x-least
unfolding overflows
returns-then-x-least g c =
    let s = one_shl (g.row.N - 1) (omega arith) in
    simp (c.in-Interpreter.is, ne_eqb _ _ (rw s at c.if-x-least.true))

pub returns-else-x-least : goal.returns-else-x-least
unfolding overflows
returns-else-x-least g c =
    let n = g.row.N in
    let s = one_shl (n - 1) (omega arith) in
    simp (c.in-Interpreter.is, eq-eqb _ _ (rw s at c.if-x-least.false), s, all_ones n (omega arith))

pub returns-in-Manual : goal.returns-in-Manual
unfolding overflows
returns-in-Manual g c = simp c.in-Manual.is
