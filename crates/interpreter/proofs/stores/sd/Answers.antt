use Rattle.std.proofs.Common.{◌-◌, ◌*◌, refl, arith}
use Rattle.interpreter.specs.Stores.{sd}
use Rattle.interpreter.proofs.Laws.Shifts.{shift, mask, raised_lt}
use Rattle.interpreter.proofs.stores.sd.Goals as goal

-- shifted by no byte it is rt
pub returns-then-o-eq0 : goal.returns-then-o-eq0
unfolding sd
returns-then-o-eq0 c = let h = c.ranges.t.fits in rw (c.in-Interpreter.is, c.if-o-eq0.true) (omega (arith, h))

pub overflow_add-result : goal.overflow_add-result
overflow_add-result c = let o = c.args.o in record { fits = raised_lt (8 * o) (8 - o) o refl (omega arith) c.requires _ _ }

pub returns-else-o-eq0 : goal.returns-else-o-eq0
unfolding sd
returns-else-o-eq0 c =
    let o = c.args.o in
    rw (c.in-Interpreter.is, mask (8 * o) o refl c.requires, shift (8 * o) o refl)

pub returns-in-Manual : goal.returns-in-Manual
unfolding sd
returns-in-Manual c = rw c.in-Manual.is
