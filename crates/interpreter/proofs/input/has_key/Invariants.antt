use Rattle.std.proofs.Common.{◌≡◌, ◌*◌, true}
use Rattle.pages.specs.Bytes.{cell}
use Rattle.interpreter.specs.Inputs.{same}
use Rattle.interpreter.proofs.input.has_key.Given as goal

abbrev pub invariant-loop-k : goal.invariant-loop-k
invariant-loop-k l = same (8 * l.k) (cell l.index) (l.i * 48) (cell l.key) 0 ≡ true
