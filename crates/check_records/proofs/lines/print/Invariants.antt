use Rattle.std.proofs.Common.{◌≡◌, ◌+◌, ◌*◌, ◌≤◌, List, ℕ, ◌++◌}
use Rattle.std.specs.Slice.Iter.{chunks_rest, chunks_size}
use Rattle.check_records.specs.Lines.{count_of, lines_of}
use Rattle.check_records.specs.Parts.{Puts}
use Rattle.check_records.proofs.lines.print.Given as goal

-- the lines so far are put, with those of what is left they are all, and each of what is left has room
abbrev pub invariant-loop-record : goal.invariant-loop-record
invariant-loop-record l = (done : List ℕ) × Puts l.initial.out 0 done l.at l.out × (done ++ lines_of l.position (chunks_rest l.record-iterator) ≡ lines_of l.from l.records) × (chunks_size l.record-iterator ≡ 752) × (l.at + 32 * count_of (chunks_rest l.record-iterator) ≤ 32 * count_of l.records)
