use Rattle.interpreter.specs.Parts.{later, cpu_with}
use Rattle.std.proofs.Common.{refl}
use Rattle.interpreter.proofs.state.Cpu.with_core.Goals as goal

pub returns : goal.returns
unfolding later cpu_with
returns c = refl
