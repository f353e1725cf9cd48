use Rattle.std.proofs.Common.{◌≡◌, length}
use lib.Seq.{sets}
use Rattle.interpreter.specs.Layout.{eights}
use Rattle.interpreter.proofs.layout.put_registers.Given as goal

abbrev pub invariant-loop-i : goal.invariant-loop-i
invariant-loop-i l = (length l.buf ≡ length l.initial.buf) × (l.buf ≡ sets l.initial.buf l.at (eights l.regs l.i))
