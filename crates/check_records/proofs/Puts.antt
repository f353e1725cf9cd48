-- Texts put one behind another.
use Rattle.std.proofs.Common.{◌≡◌, ℕ, ◌+◌, ◌/◌, ◌%◌, ◌^◌, ◌<◌, ◌≤◌, List, [], ◌∷◌, ◌++◌, length, decimal, ap, ◌∙◌, arith, length-append}
use Rattle.std.proofs.lemmas.Fmt.{decimal_digit, decimal_step}
use borrow.Rule.Slice.PartMut.{put_mid}
use lib.Seq.{length-sets}
use Rattle.pages.proofs.Laws.Places.{sets_sets}
use Rattle.pages.proofs.Laws.Std.{put_mid-sets}
use Rattle.check_records.specs.Parts.{Puts}

-- a text copied whole
pub put_copied : (o t : List ℕ) (at k : ℕ) {ys : List ℕ} {next : ℕ} → length t ≡ k → at + k ≤ length o → ys ≡ t → next ≡ at + length t → Puts o at t next (put_mid at k o ys)
put_copied o t at k {ys} n h e p = record { place = p; bytes = put_mid-sets at k o ys t n h e }

pub puts_then : {o m e a b : List ℕ} {at next last : ℕ} → Puts o at a next m → Puts m next b last e → Puts o at (a ++ b) last e
puts_then {o} {m} {e} {a} {b} {at} {next} p q = record {
  place = omega (arith, length-append a b, p.place, q.place);
  bytes = q.bytes ∙ rw (p.bytes, p.place) (sets_sets o at a b);
}

pub puts_length : {o e a : List ℕ} {at next : ℕ} → Puts o at a next e → length e ≡ length o
puts_length {o} {e} {a} {at} p = ap length p.bytes ∙ length-sets o at a

-- ---- a number, digit by digit

pub puts_digit : {o e : List ℕ} {at next : ℕ} (n : ℕ) → n < 10 → Puts o at ((48 + n) ∷ []) next e → Puts o at (decimal n) next e
puts_digit n h p = rw (decimal_digit n h) p

pub puts_more : {o m e : List ℕ} {at next last : ℕ} (n : ℕ) → 10 ≤ n → n < 2 ^ 64 → Puts o at (decimal (n / 10)) next m → Puts m next ((48 + n % 10) ∷ []) last e → Puts o at (decimal n) last e
puts_more n h small p q = rw (decimal_step n h small) (puts_then p q)
