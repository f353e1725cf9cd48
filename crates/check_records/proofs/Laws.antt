-- Lines behind lines.
use Rattle.std.proofs.Common.{◌≡◌, ℕ, zero, suc, ◌+◌, ◌-◌, ◌*◌, ◌/◌, ◌%◌, ◌^◌, ◌<◌, ◌≤◌, min, List, [], ◌∷◌, ◌++◌, length, take, drop, sym, refl, ap, subst, ◌∙◌, append_assoc, append-nil, add-zero, add-suc, arith, length-append, length-drop, length-take-le, take_all, le-leb}
use Rattle.std.proofs.lemmas.List.{take-append-drop}
use lib.Seq.{sets, length-sets, sets-eq, take-append_seam, take-append-le, drop-append-le, drop-append-add}
use borrow.Author.Tests.{lt-leb}
use Rattle.std.proofs.Math.Seq.{take-append-add}
use native.Mathlib.Decide.{dec_le}
use Rattle.std.specs.declared.option.Option.{Option}
use Rattle.std.specs.Io.KnownBytes.{Appends}
use Rattle.std.proofs.KnownBytes.{Appends-nil, Appends-trans}
use Rattle.checker.specs.Check.{check_def}
use Rattle.check_records.specs.Lines.{line, record_at, position_at, lines_to, count_of, lines_of, after, whole_records, Printed, printed, printed_def}
use Rattle.check_records.specs.Parts.{Puts}
use Rattle.check_records.proofs.Lengths.{length_all}

-- ---- chunk by chunk

record_front : (k : ℕ) (a b : List ℕ) → 752 * suc k ≤ length a → record_at k (a ++ b) ≡ record_at k a
record_front k a b h =
    let e : 752 ≤ length (drop (752 * k) a) = rw (length-drop (752 * k) a) (omega arith) in
    rw (drop-append-le (752 * k) a b (omega arith), take-append-le 752 (drop (752 * k) a) b e)

record_back : (n k : ℕ) (a b : List ℕ) → length a ≡ 752 * n → record_at (n + k) (a ++ b) ≡ record_at k b
record_back n k a b h =
    let e : 752 * (n + k) ≡ length a + 752 * k = omega arith in
    rw (e, drop-append-add a b (752 * k))

position_back : (from n k : ℕ) → position_at from (n + k) ≡ position_at (position_at from n) k
position_back from n k = omega arith

lines_front : (k from : ℕ) (a b : List ℕ) → 752 * k ≤ length a → lines_to k from (a ++ b) ≡ lines_to k from a
unfolding lines_to
lines_front zero from a b h = refl
lines_front (suc k) from a b h = rw (lines_front k from a b (omega arith), record_front k a b h)

lines_back : (n m from : ℕ) (a b : List ℕ) → length a ≡ 752 * n → lines_to (n + m) from (a ++ b) ≡ lines_to n from a ++ lines_to m (position_at from n) b
unfolding lines_to
lines_back n zero from a b h = rw (add-zero n, append-nil (lines_to n from a)) (lines_front n from a b (omega arith))
lines_back n (suc m) from a b h = rw (add-suc n m, lines_back n m from a b h, record_back n m a b h, position_back from n m, append_assoc (lines_to n from a))

-- behind whole records the lines go on with the position behind them: printing chunk by chunk prints the lines of the whole
pub lines_append : (from : ℕ) (a b : List ℕ) → length a % 752 ≡ 0 → lines_of from (a ++ b) ≡ lines_of from a ++ lines_of (after from a) b
unfolding lines_of
lines_append from a b h =
    let e : count_of (a ++ b) ≡ length a / 752 + count_of b = omega (arith, length-append a b) in
    let f : count_of a ≡ length a / 752 = omega arith in
    rw (e, f) (lines_back (length a / 752) (count_of b) from a b (omega arith))

-- ---- record by record

pub no_lines : (from : ℕ) (b : List ℕ) → length b ≡ 0 → lines_of from b ≡ []
unfolding lines_of lines_to
no_lines from b h =
    let e : count_of b ≡ 0 = omega arith in
    rw e

-- one record, which may be short
one_line : (from : ℕ) (b : List ℕ) → from < 2 ^ 64 → 0 < length b → length b ≤ 752 → lines_of from b ≡ line from (check_def b)
unfolding lines_of lines_to
one_line from b h some small =
    let e : count_of b ≡ 1 = omega arith in
    let p : position_at from 0 ≡ from = omega arith in
    rw (e, p, take_all 752 b small)

-- the first record's line, and those of the rest
first_whole : (from : ℕ) (a b : List ℕ) → from < 2 ^ 64 → length a ≡ 752 → lines_of from (a ++ b) ≡ line from (check_def a) ++ lines_of ((from + 1) % 2 ^ 64) b
first_whole from a b h whole =
    let p : after from a ≡ (from + 1) % 2 ^ 64 = omega arith in
    rw (lines_append from a b (omega arith), p, one_line from a h (omega arith) (omega arith))

first_short : (from : ℕ) (a b : List ℕ) → from < 2 ^ 64 → 0 < length a → length a ≤ 752 → length b ≡ 0 → lines_of from (a ++ b) ≡ line from (check_def a) ++ lines_of ((from + 1) % 2 ^ 64) b
first_short from a [] h some small none = rw (append-nil a, no_lines ((from + 1) % 2 ^ 64) [] none, append-nil (line from (check_def a)), one_line from a h some small)
first_short from a (x ∷ b) h some small none = absurd (omega (arith, none))

first_line : (from : ℕ) (a b : List ℕ) → from < 2 ^ 64 → 0 < length (a ++ b) → length a ≡ min 752 (length (a ++ b)) → Dec (752 ≤ length a) → lines_of from (a ++ b) ≡ line from (check_def a) ++ lines_of ((from + 1) % 2 ^ 64) b
first_line from a b h some size (yes g) = first_whole from a b h (omega (arith, length-append a b))
first_line from a b h some size (no g) = first_short from a b h (omega (arith, length-append a b)) (omega (arith, length-append a b)) (omega (arith, length-append a b))

-- the lines so far, and those of what is left, are all
pub next_line : (from : ℕ) (a b done all : List ℕ) {s : List ℕ} → from < 2 ^ 64 → s ≡ a ++ b → length a ≡ min 752 (length s) → 0 < length s → done ++ lines_of from s ≡ all → (done ++ line from (check_def a)) ++ lines_of ((from + 1) % 2 ^ 64) b ≡ all
next_line from a b done all {s} h e size some whole =
    let f = first_line from a b h (rw (← e) some) (rw (← e) size) (dec_le 752 (length a)) in
    append_assoc done (line from (check_def a)) (lines_of ((from + 1) % 2 ^ 64) b) ∙ ap (λ z. done ++ z) (sym f) ∙ ap (λ z. done ++ lines_of from z) (sym e) ∙ whole

-- ---- after a failed read

-- whole chunks, and the whole records of a part
pub whole_part : (a b : List ℕ) → length a % 752 ≡ 0 → whole_records (a ++ b) ≡ a ++ take (length b - length b % 752) b
whole_part a b h =
    let e : length (a ++ b) - length (a ++ b) % 752 ≡ length a + (length b - length b % 752) = omega (arith, length-append a b) in
    rw e (take-append-add a b (length b - length b % 752))

-- the front of a front
front_of : (m n : ℕ) (xs : List ℕ) → m ≤ n → n ≤ length xs → take m (take n xs) ≡ take m xs
front_of m n xs h within = sym (take-append-le m (take n xs) (drop n xs) (rw (length-take-le n xs within) h)) ∙ ap (take m) (take-append-drop n xs)

whole_front : (n : ℕ) (seen xs : List ℕ) → length seen % 752 ≡ 0 → n ≤ length xs → whole_records (seen ++ take n xs) ≡ seen ++ take (n - n % 752) xs
whole_front n seen xs h within =
    let size = length-take-le n xs within in
    whole_part seen (take n xs) h ∙ rw size (ap (λ z. seen ++ z) (front_of (n - n % 752) n xs (omega arith) within))

-- ---- chunk by chunk, as they are written

pub chunk_written : (a b c : Option (List ℕ)) (seen part : List ℕ) (from : ℕ) → from ≡ after 0 seen → length seen % 752 ≡ 0 → Appends a b (lines_of 0 seen) → Appends b c (lines_of from part) → Appends a c (lines_of 0 (seen ++ part))
chunk_written a b c seen part from e h p q =
    let r : Appends b c (lines_of (after 0 seen) part) = subst (λ n. Appends b c (lines_of n part)) e q in
    subst (Appends a c) (sym (lines_append 0 seen part h)) (Appends-trans a b c (lines_of 0 seen) (lines_of (after 0 seen) part) p r)

-- after a failed read
pub front_written : (a b c : Option (List ℕ)) (n : ℕ) (seen xs : List ℕ) (from : ℕ) → from ≡ after 0 seen → length seen % 752 ≡ 0 → n ≤ length xs → Appends a b (lines_of 0 seen) → Appends b c (lines_of from (take (n - n % 752) xs)) → Appends a c (lines_of 0 (whole_records (seen ++ take n xs)))
front_written a b c n seen xs from e h within p q =
    let r = chunk_written a b c seen (take (n - n % 752) xs) from e h p q in
    subst (λ z. Appends a c (lines_of 0 z)) (sym (whole_front n seen xs h within)) r

pub none_written : (a : Option (List ℕ)) → Appends a a (lines_of 0 [])
none_written a = subst (Appends a a) (sym (no_lines 0 [] refl)) (Appends-nil a)

-- the position behind a chunk of 87 records
pub chunk_after : (seen part chunk : List ℕ) (from : ℕ) → from ≡ after 0 seen → length seen % 752 ≡ 0 → length part ≡ 65424 → length chunk ≡ 65424 → after from chunk ≡ after 0 (seen ++ part)
chunk_after seen part chunk from e h size all = omega (arith, e, length-append seen part)

-- ---- what `print` leaves

pub prints : (from : ℕ) (b o : List ℕ) {e all : List ℕ} {n : ℕ} → 32 * count_of b ≤ length o → all ≡ lines_of from b → Puts o 0 all n e → printed n e ≡ printed_def from b o
unfolding printed_def
prints from b o {e} {all} {n} h whole p =
    let z : n ≡ length all = omega (arith, p.place) in
    rw (le-leb (32 * count_of b) (length o) h, z, p.bytes, ← whole)

pub prints_none : (from : ℕ) (b o : List ℕ) → length o < 32 * count_of b → printed 0 o ≡ printed_def from b o
unfolding printed_def
prints_none from b o h = rw (lt-leb (32 * count_of b) (length o) h)

-- what a caller with enough room has
module _ (from : ℕ) (b o : List ℕ) (room : 32 * count_of b ≤ length o) (e : List ℕ) (n : ℕ) (p : printed n e ≡ printed_def from b o) where
  lines_put : printed n e ≡ printed (length (lines_of from b)) (sets o 0 (lines_of from b))
  unfolding printed_def
  lines_put = p ∙ rw (le-leb (32 * count_of b) (length o) room)

  lines_fit : length (lines_of from b) ≤ length o
  lines_fit = omega (arith, length_all from b)

  pub printed_within : n ≤ length e
  printed_within = omega (arith, ap (λ (q : Printed). q.count) lines_put, ap (λ (q : Printed). length q.out) lines_put, length-sets o 0 (lines_of from b), lines_fit)

  -- the first n bytes are the lines
  pub printed_front : take n e ≡ lines_of from b
  printed_front =
      let c : n ≡ length (lines_of from b) = ap (λ (q : Printed). q.count) lines_put in
      let s = sets-eq (lines_of from b) o 0 (omega (arith, lines_fit)) in
      rw (c, ap (λ (q : Printed). q.out) lines_put, s) (take-append_seam (lines_of from b) _)
