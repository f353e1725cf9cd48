use Rattle.std.proofs.Common.{◌-◌, ◌*◌, ◌/◌, arith, refl, sym, mod-lt}
use Rattle.interpreter.specs.Loads.{part_at}
use Rattle.interpreter.proofs.Laws.Shifts.{shift, mask, bytes_pos}
use Rattle.interpreter.proofs.Laws.Bytes.{big_part}
use Rattle.interpreter.proofs.loads.part_at.Goals as goal

pub returns : goal.returns
unfolding part_at
returns g c =
    let n = g.row.N in
    let k = c.args.o / n * n in
    let l = 8 - n - k in
    rw (mask (8 * n) n refl c.requires.1, shift (64 - 8 * n - 8 * k) l (omega (arith, c.requires.2)))
    (sym (big_part 8 k n l _ (omega (arith, c.requires.2))), mod-lt _ (bytes_pos n))
