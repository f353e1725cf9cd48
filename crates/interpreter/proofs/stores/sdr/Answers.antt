use Rattle.std.proofs.Common.{◌+◌, ◌-◌, ◌*◌, arith}
use Rattle.interpreter.proofs.Laws.Shifts.{raised_lt}
use Rattle.interpreter.proofs.stores.sdr.Goals as goal

pub overflow_add-result : goal.overflow_add-result
overflow_add-result c = let o = c.args.o in record { fits = raised_lt (56 - 8 * o) (o + 1) (7 - o) (omega arith) (omega arith) (omega arith) _ _ }
