use Rattle.std.proofs.Common.{◌-◌, ◌*◌, ◌/◌, arith, refl}
use Rattle.interpreter.specs.Stores.{part_put}
use Rattle.interpreter.proofs.Laws.Shifts.{mask}
use Rattle.interpreter.proofs.Laws.Puts.{replaced_is, replaced_lt}
use Rattle.interpreter.proofs.stores.part_put.Goals as goal

pub overflow_add-result : goal.overflow_add-result
overflow_add-result g c =
    let n = g.row.N in
    let k = c.args.o / n * n in
    rw (mask (8 * n) n refl c.requires.1) (record { fits = replaced_lt k n (8 - n - k) (64 - 8 * n - 8 * k) (omega arith) (omega arith) _ c.ranges.m.fits _ })

pub returns : goal.returns
unfolding part_put
returns g c =
    let n = g.row.N in
    let k = c.args.o / n * n in
    rw (mask (8 * n) n refl c.requires.1) (replaced_is k n (8 - n - k) (64 - 8 * n - 8 * k) (omega arith) (omega arith) _ c.ranges.m.fits _)
