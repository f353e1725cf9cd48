use Rattle.std.proofs.Common.{◌-◌, ◌*◌, refl, arith}
use Rattle.interpreter.specs.Loads.{ldl}
use Rattle.interpreter.proofs.Laws.Shifts.{raised_is, raised_lt}
use Rattle.interpreter.proofs.Laws.Bytes.{big_end}
use Rattle.interpreter.proofs.loads.ldl.Goals as goal

pub overflow_add-result : goal.overflow_add-result
overflow_add-result c = let o = c.args.o in record { fits = raised_lt (8 * o) (8 - o) o refl (omega arith) c.requires _ _ }

pub returns : goal.returns
unfolding ldl
returns c =
    let o = c.args.o in
    rw (big_end 8 o (8 - o) c.args.m (omega arith)) (raised_is (8 * o) (8 - o) o refl (omega arith) c.requires _ _)
