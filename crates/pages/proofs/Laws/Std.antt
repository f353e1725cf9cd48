-- std's words for runs and numbers, and this repository's.
use Rattle.std.proofs.Common.{◌≡◌, ℕ, zero, suc, ◌+◌, ◌/◌, ◌%◌, ◌≤◌, List, [], ◌∷◌, ◌++◌, length, take, drop, sym, refl, ap, ◌∙◌, append_assoc, add-one, arith}
use Rattle.std.specs.Prelude.{replicate}
use Rattle.std.proofs.Math.Nat.{div-div-eq-div-mul}
use Rattle.std.proofs.lemmas.List.{drop-drop, replicate-append-replicate}
use Rattle.std.proofs.lemmas.List.Edits.{sets-eq}
use borrow.Rule.Slice.PartMut.{put_mid}
use lib.Seq.{sets}
use Rattle.pages.specs.Bytes.{row, zeros, bytes_of}
use Rattle.pages.proofs.Laws.Runs.{length_row}
use Rattle.pages.proofs.Laws.Places.{length_part}
use Rattle.pages.proofs.Laws.Numbers.{length_bytes}

-- what a write to a part leaves
pub put_mid-sets : (a k : ℕ) (xs ys zs : List ℕ) → length zs ≡ k → a + k ≤ length xs → ys ≡ zs → put_mid a k xs ys ≡ sets xs a zs
put_mid-sets a k xs ys zs n h e = rw (e, sets-eq zs xs a (rw n h), n, drop-drop, append_assoc)

pub bytes_of-eight : (v : ℕ) → bytes_of 8 v ≡ v / 72057594037927936 % 256 ∷ v / 281474976710656 % 256 ∷ v / 1099511627776 % 256 ∷ v / 4294967296 % 256 ∷ v / 16777216 % 256 ∷ v / 65536 % 256 ∷ v / 256 % 256 ∷ v % 256 ∷ []
unfolding bytes_of
bytes_of-eight v = simp div-div-eq-div-mul

pub zeros-replicate : (n : ℕ) → replicate n 0 ≡ zeros n
unfolding row
zeros-replicate zero = refl
zeros-replicate (suc n) = rw add-one at (sym (replicate-append-replicate {A = ℕ} n 1 0)) ∙ ap (λ (l : List ℕ). l ++ 0 ∷ []) (zeros-replicate n)

pub zeros-part : (m n : ℕ) → m ≡ n → replicate m 0 ≡ zeros n
zeros-part m n e = rw e (zeros-replicate n)

-- ---- what the two writes to a part leave

module _ (s : List ℕ) (a k n : ℕ) {ys : List ℕ} (e : k ≡ n) (h : a + n ≤ length s) where
  pub filled : ys ≡ replicate (length (take k (drop a s))) 0 → put_mid a k s ys ≡ sets s a (zeros n)
  filled q = put_mid-sets a k s ys (zeros n) (length_row _ 0 n ∙ sym e) (omega arith) (q ∙ zeros-part _ n (rw e (length_part s a n h)))

  pub stored_part : (v : ℕ) → ys ≡ bytes_of n v → put_mid a k s ys ≡ sets s a (bytes_of n v)
  stored_part v q = put_mid-sets a k s ys (bytes_of n v) (length_bytes n v ∙ sym e) (omega arith) q

pub bytes_of-four : (v : ℕ) → bytes_of 4 v ≡ v / 16777216 % 256 ∷ v / 65536 % 256 ∷ v / 256 % 256 ∷ v % 256 ∷ []
unfolding bytes_of
bytes_of-four v = simp div-div-eq-div-mul
