use Rattle.interpreter.specs.Parts.{core_after}
use Rattle.std.proofs.Common.{refl}
use Rattle.interpreter.proofs.quick.finish.Goals as goal

pub returns : goal.returns
unfolding core_after
returns c p u = record { core = refl; window = refl; regs = c.set_reg.ensures; pages = refl; kept = λ v s. s }
