use Rattle.std.proofs.Common.{◌≡◌, ◌%◌, List, ℕ, length}
use Rattle.std.specs.Io.KnownBytes.{Appends, Consumes}
use Rattle.check_records.specs.Lines.{lines_of, after}
use Rattle.check_records.proofs.stream.judge.Given as goal

-- the lines of what was read so far are written, and it is whole records
abbrev pub invariant-loop : goal.invariant-loop
invariant-loop g l = (bs : List ℕ) × Consumes (g.R.Read.remaining l.initial.input) (g.R.Read.remaining l.input) bs × Appends (g.W.Write.contents l.initial.output) (g.W.Write.contents l.output) (lines_of 0 bs) × (length bs % 752 ≡ 0) × (l.from ≡ after 0 bs) × (length l.records ≡ 65424)
