use Rattle.std.proofs.Common.{◌≡◌, ℕ, ◌+◌, ◌*◌, ◌<◌, length}
use Rattle.pages.specs.Bytes.{cell}
use Rattle.interpreter.specs.Layout.{eight}
use Rattle.interpreter.proofs.layout.registers_at.Given as goal

abbrev pub invariant-loop-i : goal.invariant-loop-i
invariant-loop-i l = (length l.regs ≡ 32) × ((j : ℕ) → j < l.i → cell l.regs j ≡ eight l.b (l.k + 8 * j))
