use Rattle.std.proofs.Common.{◌≡◌, length}
use lib.Seq.{sets}
use Rattle.pages.specs.Bytes.{cell, row, bytes_of}
use Rattle.interpreter.specs.Inputs.{content}
use Rattle.interpreter.proofs.input.merge.Given as goal

abbrev pub invariant-loop-i : goal.invariant-loop-i
invariant-loop-i l = (length l.b ≡ 8) × (l.b ≡ sets (bytes_of 8 l.x) l.at (row (cell (content l.part)) l.offset l.i))
