use Rattle.std.proofs.Common.{◌≡◌, length}
use lib.Seq.{sets}
use Rattle.pages.specs.Bytes.{cell, row}
use Rattle.pages.proofs.spans.copy.Given as goal

abbrev pub invariant-loop-i : goal.invariant-loop-i
invariant-loop-i l = (length l.dst ≡ length l.initial.dst) × (l.dst ≡ sets l.initial.dst l.at (row (cell l.src) l.from l.i))
