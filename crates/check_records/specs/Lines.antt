-- What is printed of step records: a line for each record of 752 bytes, and one for a short remainder.
use Rattle.std.specs.Prelude.{ℕ, zero, suc, ◌+◌, ◌*◌, ◌/◌, ◌%◌, ◌^◌, cond, List, [], ◌++◌, length, take, drop, nat_le, Ok, Err, ◌-◌, codes, decimal}
use Rattle.std.proofs.lemmas.List.Edits.{sets}
use Rattle.checker.specs.Verdicts.{Verdict, fault_number}
use Rattle.checker.specs.Check.{check_def}

-- ---- a line, in ASCII

-- `accepted`, or `refused ` and the number
unfoldable pub said : Verdict → List ℕ
said (Ok u) = codes "accepted"
said (Err f) = codes "refused " ++ decimal (fault_number f)

-- the position, a space, the verdict and a line end
unfoldable pub line : ℕ → Verdict → List ℕ
line n v = decimal n ++ codes " " ++ said v ++ codes "\n"

-- ---- the lines of bytes, the first of which has the position `from`; positions wrap at 2 ^ 64

-- record k: 752 bytes, or what is left
abbrev pub record_at : ℕ → List ℕ → List ℕ
record_at k b = take 752 (drop (752 * k) b)

abbrev pub position_at : ℕ → ℕ → ℕ
position_at from k = (from + k) % 2 ^ 64

-- the line of record k
abbrev pub line_at : ℕ → ℕ → List ℕ → List ℕ
line_at from k b = line (position_at from k) (check_def (record_at k b))

-- the lines of the first k records
unfoldable pub lines_to : ℕ → ℕ → List ℕ → List ℕ
lines_to zero from b = []
lines_to (suc k) from b = lines_to k from b ++ line_at from k b

-- how many records there are, with a short one at the end
abbrev pub count_of : List ℕ → ℕ
count_of b = (length b + 751) / 752

unfoldable pub lines_of : ℕ → List ℕ → List ℕ
lines_of from b = lines_to (count_of b) from b

-- the position behind whole records
abbrev pub after : ℕ → List ℕ → ℕ
after from b = position_at from (length b / 752)

-- ---- what is judged after a failed read: whole records only

abbrev pub whole_records : List ℕ → List ℕ
whole_records b = take (length b - length b % 752) b

-- ---- what `print` leaves

-- how many bytes the lines have, and the output buffer
pub record Printed : Type 0 where
  pub count : ℕ
  pub out : List ℕ

abbrev pub printed : ℕ → List ℕ → Printed
printed n o = record { count = n; out = o }

-- the lines at the front of the buffer, where it has 32 bytes for each; otherwise it stays
unfoldable pub printed_def : ℕ → List ℕ → List ℕ → Printed
printed_def from b o = cond (nat_le (32 * count_of b) (length o)) (printed (length (lines_of from b)) (sets o 0 (lines_of from b))) (printed 0 o)
