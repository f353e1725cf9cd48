use Rattle.interpreter.specs.Parts.{core_of}
use Rattle.std.proofs.Common.{refl}
use Rattle.interpreter.proofs.state.Cpu.core.Goals as goal

pub returns : goal.returns
unfolding core_of
returns c = refl
