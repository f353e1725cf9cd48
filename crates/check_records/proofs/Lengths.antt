-- How long lines are.
use Rattle.std.proofs.Common.{◌≡◌, ℕ, zero, suc, ◌+◌, ◌*◌, ◌/◌, ◌^◌, ◌<◌, ◌≤◌, List, ◌++◌, length, Ok, Err, min, codes, decimal, ap, ◌∙◌, arith, length-append}
use Rattle.std.proofs.lemmas.Fmt.{decimal_digit, decimal_step, length-decimal-le}
use Rattle.checker.specs.declared.verdict.Fault.{Fault}
use Rattle.checker.specs.declared.verdict.Fault.TheVariants.{Length, Form, AlreadyExited, StepRefused, WideStep, Touch, Result}
use Rattle.checker.specs.Verdicts.{Verdict, fault_number}
use Rattle.checker.specs.Check.{check_def}
use Rattle.check_records.specs.Lines.{said, line, record_at, position_at, lines_to, count_of, lines_of}

-- ---- of a number

pub length_digit : (n : ℕ) → n < 10 → length (decimal n) ≡ 1
length_digit n h = rw (decimal_digit n h)

pub length_more : (n : ℕ) → 10 ≤ n → n < 2 ^ 64 → length (decimal n) ≡ length (decimal (n / 10)) + 1
length_more n h small = rw (decimal_step n h small, length-append (decimal (n / 10)))

-- ---- of a line

fault_small : (f : Fault) → fault_number f < 100
unfolding fault_number
fault_small Length = omega arith
fault_small Form = omega arith
fault_small AlreadyExited = omega arith
fault_small StepRefused = omega arith
fault_small WideStep = omega arith
fault_small Touch = omega arith
fault_small Result = omega arith

length_fault : (f : Fault) → length (decimal (fault_number f)) ≤ 2
length_fault f =
    let small = fault_small f in
    length-decimal-le 2 (fault_number f) (omega arith) (omega arith) (omega arith)

length_said : (v : Verdict) → length (said v) ≤ 10
unfolding said
length_said (Ok u) = omega arith
length_said (Err f) = rw (length-append (codes "refused ")) (omega (arith, length_fault f))

pub line_parts : (n : ℕ) (v : Verdict) → length (line n v) ≡ length (decimal n) + length (said v) + 2
unfolding line
line_parts n v = simp length-append (omega arith)

-- a line has at most 32 bytes
pub length_line : (n : ℕ) (v : Verdict) → n < 2 ^ 64 → length (line n v) ≤ 32
length_line n v h = omega (arith, line_parts n v, length_said v, length-decimal-le 20 n (omega arith) (omega arith) h)

-- ---- of lines

pub length_lines : (k from : ℕ) (b : List ℕ) → length (lines_to k from b) ≤ 32 * k
unfolding lines_to
length_lines zero from b = omega arith
length_lines (suc k) from b = rw (length-append (lines_to k from b)) (omega (arith, length_lines k from b, length_line (position_at from k) (check_def (record_at k b)) (omega arith)))

pub length_all : (from : ℕ) (b : List ℕ) → length (lines_of from b) ≤ 32 * count_of b
unfolding lines_of
length_all from b = length_lines (count_of b) from b

-- behind a record's line the rest has room
pub next_room : (a b : List ℕ) {s : List ℕ} (at : ℕ) {next n room : ℕ} → s ≡ a ++ b → length a ≡ min 752 (length s) → 0 < length s → next ≡ at + n → n ≤ 32 → at + 32 * count_of s ≤ room → next + 32 * count_of b ≤ room
next_room a b at e size some p short room =
    let whole = ap length e ∙ length-append a b in
    omega arith
