-- Big-endian numbers, over the width.
use Rattle.std.proofs.Common.{◌≡◌, ℕ, zero, suc, ◌+◌, ◌-◌, ◌/◌, ◌%◌, ◌^◌, ◌<◌, List, [], ◌∷◌, ◌++◌, length, sym, refl, ◌∙◌, pow-suc, zero-add, add-one, arith, length-append, get_or-append-add}
use native.Mathlib.Nat.{one-le-pow}
use native.Mathlib.Decide.{dec_lt}
use lib.Arith.{mod-mul}
use lib.ListN.{get_or-append}
use lib.Seq.{get_or_at}
use Rattle.pages.specs.Bytes.{cell, big, bytes_of}
use Rattle.pages.proofs.Laws.Runs.{Bytes}

pub big_ext : (n : ℕ) (f g : ℕ → ℕ) (a b : ℕ) → ((k : ℕ) → k < n → f (a + k) ≡ g (b + k)) → big n f a ≡ big n g b
unfolding big
big_ext zero f g a b h = refl
big_ext (suc n) f g a b h =
    let ih : big n f a ≡ big n g b = big_ext n f g a b (λ k l. h k (omega arith)) in
    let e : f (a + n) ≡ g (b + n) = h n (omega arith) in
    rw (ih, e)

pub big_none : (n : ℕ) (f : ℕ → ℕ) (a : ℕ) → ((k : ℕ) → k < n → f (a + k) ≡ 0) → big n f a ≡ 0
unfolding big
big_none zero f a h = refl
big_none (suc n) f a h =
    let ih : big n f a ≡ 0 = big_none n f a (λ k l. h k (omega arith)) in
    rw (ih, h n (omega arith))

pub length_bytes : (n v : ℕ) → length (bytes_of n v) ≡ n
unfolding bytes_of
length_bytes zero v = refl
length_bytes (suc n) v = length-append (bytes_of n (v / 256)) _ ∙ rw (length_bytes n (v / 256), add-one)

-- the bytes of a number are that number
pub big_bytes : (n v : ℕ) → big n (cell (bytes_of n v)) 0 ≡ v % 256 ^ n
unfolding big bytes_of
big_bytes zero v = omega arith
big_bytes (suc n) v =
    let xs = bytes_of n (v / 256) in
    let ys : List ℕ = (v % 256) ∷ [] in
    let front : big n (cell (xs ++ ys)) 0 ≡ v / 256 % 256 ^ n =
    big_ext n (cell (xs ++ ys)) (cell xs) 0 0 (λ k h. get_or-append xs ys 0 (0 + k) (rw (zero-add, length_bytes n (v / 256)) h)) ∙ big_bytes n (v / 256) in
    let last : cell (xs ++ ys) (0 + n) ≡ v % 256 = rw zero-add (get_or_at xs (v % 256) [] 0 n (length_bytes n (v / 256))) in
    rw (front, last, pow-suc) (sym (mod-mul v (one-le-pow n 256 (omega arith)) (omega arith)))

pub bytes_bytes : (n v : ℕ) → Bytes (bytes_of n v)
unfolding bytes_of
bytes_bytes zero v k = omega arith
bytes_bytes (suc n) v k = go (dec_lt k n) (bytes_bytes n (v / 256) k)
  where
    front : List ℕ
    front = bytes_of n (v / 256)

    past : (j : ℕ) → cell ((v % 256) ∷ []) j < 256
    past zero = omega arith
    past (suc j) = omega arith

    go : Dec (k < n) → cell front k < 256 → cell (front ++ (v % 256) ∷ []) k < 256
    go (yes l) ih = rw (get_or-append front ((v % 256) ∷ []) 0 k (rw (length_bytes n (v / 256)) l)) ih
    go (no l) ih =
        let e : k ≡ length front + (k - n) = rw (length_bytes n (v / 256)) (omega arith) in
        rw (e, get_or-append-add front ((v % 256) ∷ []) (k - n) 0) (past (k - n))
