-- Numbers and bytes at a place of a slice, and lists put together from pieces.
use Rattle.std.proofs.Common.{◌≡◌, ℕ, zero, suc, ◌+◌, ◌-◌, ◌*◌, ◌/◌, ◌%◌, ◌^◌, ◌<◌, ◌≤◌, Bool, true, false, cond, leb, List, [], ◌∷◌, ◌++◌, length, take, drop, set, sym, refl, ap, ◌∙◌, append_assoc, append-nil, le_refl, add-zero, add-suc, suc-add, pow-suc, zero-add, arith, length-drop, take-append-drop, drop_of_length-le, length-take-le, get_or-drop, get_or-take, drop-drop, get_or-append-add, ext_get_or, le-leb, leb-false, leb-true}
use native.Mathlib.Decide.{dec_le}
use lib.ListN.{get_or-append}
use lib.Seq.{sets, sets-eq, length-sets}
use borrow.Author.Tests.{lt-leb}
use Rattle.pages.specs.Bytes.{cell, row, big, bytes_of}
use Rattle.pages.specs.Calls.{number_at, put_def, copy_def}
use Rattle.pages.proofs.Laws.Runs.{length_row, cell_row}
use Rattle.pages.proofs.Laws.Numbers.{big_ext}

-- ---- where it fits, and where it does not

module _ (n : ℕ) (s : List ℕ) (at : ℕ) where
  pub number_fits : at + n ≤ length s → number_at n s at ≡ big n (cell s) at
  unfolding number_at
  number_fits h = rw (le-leb _ _ h)

  pub number_out : length s < at + n → number_at n s at ≡ 0
  unfolding number_at
  number_out h = rw (lt-leb _ _ h)

module _ (s : List ℕ) (at : ℕ) (vs : List ℕ) where
  pub put_fits : at + length vs ≤ length s → put_def s at vs ≡ sets s at vs
  unfolding put_def
  put_fits h = rw (le-leb _ _ h)

  pub put_out : length s < at + length vs → put_def s at vs ≡ s
  unfolding put_def
  put_out h = rw (lt-leb _ _ h)

  pub length_put : length (put_def s at vs) ≡ length s
  unfolding put_def
  length_put = go (leb (at + length vs) (length s))
    where
      go : (b : Bool) → length (cond b (sets s at vs) s) ≡ length s
      go true = length-sets s at vs
      go false = refl

module _ (s : List ℕ) (from : ℕ) (d : List ℕ) (at count : ℕ) where
  pub copy_fits : from + count ≤ length s → at + count ≤ length d → copy_def s from d at count ≡ sets d at (row (cell s) from count)
  unfolding copy_def
  copy_fits h g = rw (le-leb _ _ h) (put_fits d at (row (cell s) from count) (rw length_row g))

-- a bound with a count taken to its other side, so that no sum wraps
pub leb_moved : (a n l : ℕ) → n ≤ l → leb a (l - n) ≡ leb (a + n) l
leb_moved a n l h = go (dec_le a (l - n))
  where
    go : Dec (a ≤ l - n) → leb a (l - n) ≡ leb (a + n) l
    go (yes k) = le-leb _ _ k ∙ sym (le-leb (a + n) l (omega arith))
    go (no k) = lt-leb a (l - n) (omega arith) ∙ sym (lt-leb (a + n) l (omega arith))

pub leb_short : (a n l : ℕ) → l < n → false ≡ leb (a + n) l
leb_short a n l h = sym (lt-leb (a + n) l (omega arith))

-- ---- the same by a test of the code

pub test_in : {b : Bool} {a l : ℕ} → b ≡ leb a l → b ≡ true → a ≤ l
test_in e t = leb-true _ _ (sym e ∙ t)

pub test_out : {b : Bool} {a l : ℕ} → b ≡ leb a l → b ≡ false → l < a
test_out e t = leb-false _ _ (sym e ∙ t)

module _ (s : List ℕ) (at : ℕ) (vs : List ℕ) (n : ℕ) (long : length vs ≡ n) {b : Bool} (e : b ≡ leb (at + n) (length s)) where
  pub put_in : b ≡ true → sets s at vs ≡ put_def s at vs
  put_in t = sym (put_fits s at vs (rw long (test_in e t)))

  pub put_not : b ≡ false → s ≡ put_def s at vs
  put_not t = sym (put_out s at vs (rw long (test_out e t)))

module _ (s : List ℕ) (from : ℕ) (d : List ℕ) (at count : ℕ) {b : Bool} (e : b ≡ leb (from + count) (length s)) where
  pub copy_not : b ≡ false → d ≡ copy_def s from d at count
  unfolding copy_def
  copy_not t = rw (lt-leb _ _ (test_out e t))

  pub copy_put : b ≡ true → put_def d at (row (cell s) from count) ≡ copy_def s from d at count
  unfolding copy_def
  copy_put t = rw (le-leb _ _ (test_in e t))

-- ---- lists put together

pub cell_left : (xs ys : List ℕ) (i : ℕ) → i < length xs → cell (xs ++ ys) i ≡ cell xs i
cell_left xs ys i h = get_or-append xs ys 0 i h

pub cell_right : (xs ys : List ℕ) (i : ℕ) → cell (xs ++ ys) (length xs + i) ≡ cell ys i
cell_right xs ys i = get_or-append-add xs ys i 0

-- the same where the seam's place is known by an equation
pub cell_past : (xs ys : List ℕ) (n i : ℕ) → length xs ≡ n → cell (xs ++ ys) (n + i) ≡ cell ys i
cell_past xs ys n i e = rw (← e) (cell_right xs ys i)

-- one store after another
pub sets_sets : (b : List ℕ) (at : ℕ) (xs ys : List ℕ) → sets (sets b at xs) (at + length xs) ys ≡ sets b at (xs ++ ys)
sets_sets b at [] ys = rw add-zero
sets_sets b at (x ∷ xs) ys = rw (add-suc, ← suc-add) (sets_sets (set b at x) (suc at) xs ys)

pub sets_then : (b : List ℕ) (at : ℕ) (xs ys : List ℕ) (k n : ℕ) → length xs ≡ n → k ≡ at + n → sets (sets b at xs) k ys ≡ sets b at (xs ++ ys)
sets_then b at xs ys k n e q = rw (q, ← e) (sets_sets b at xs ys)

-- a list that is stored over whole
pub sets_whole : (b xs : List ℕ) → length xs ≡ length b → sets b 0 xs ≡ xs
sets_whole b xs e =
    sets-eq xs b 0 (rw zero-add (omega arith))
    ∙ rw (drop_of_length-le b {i = 0 + length xs} (rw zero-add (omega arith))) (append-nil xs)

-- a part of a list, which is lent and comes back
module _ (s : List ℕ) (at n : ℕ) (fits : at + n ≤ length s) where
  pub length_part : length (take n (drop at s)) ≡ n
  length_part = length-take-le n (drop at s) (rw length-drop (omega arith))

  pub part_put : (vs : List ℕ) → length vs ≡ n → take at s ++ (vs ++ drop n (drop at s)) ≡ sets s at vs
  part_put vs e = rw (drop-drop, ← e) (sym (append_assoc (take at s) vs (drop (at + length vs) s)) ∙ sym (sets-eq vs s at (rw e fits)))

  pub part_kept : take at s ++ (take n (drop at s) ++ drop n (drop at s)) ≡ s
  part_kept = rw (take-append-drop, take-append-drop)

  pub cell_part : (k : ℕ) → k < n → cell (take n (drop at s)) k ≡ cell s (at + k)
  cell_part k h = get_or-take n (drop at s) k 0 h ∙ get_or-drop at s k 0

  -- a number that fills the part
  pub part_read : number_at n (take (at + n - at) (drop at s)) 0 ≡ big n (cell s) at
  part_read =
      let e : at + n - at ≡ n = omega arith in
      rw e (number_fits n (take n (drop at s)) 0 (rw (length_part, zero-add) (le_refl n)) ∙ big_ext n (cell (take n (drop at s))) (cell s) 0 at (λ k h. ap (cell (take n (drop at s))) (zero-add k) ∙ cell_part k h))

  -- bytes that fill the part
  pub part_write : (vs : List ℕ) → length vs ≡ n → {d : List ℕ} → d ≡ put_def (take (at + n - at) (drop at s)) 0 vs → take at s ++ (d ++ drop (at + n - at) (drop at s)) ≡ sets s at vs
  part_write vs e q =
      let m : at + n - at ≡ n = omega arith in
      let whole : put_def (take n (drop at s)) 0 vs ≡ vs = put_fits (take n (drop at s)) 0 vs (rw (length_part, zero-add, e) (le_refl n)) ∙ sets_whole (take n (drop at s)) vs (rw length_part e) in
      rw (q, m, whole) (part_put vs e)

-- ---- rows

pub row_join : (f : ℕ → ℕ) (a n k : ℕ) → row f a (n + k) ≡ row f a n ++ row f (a + n) k
unfolding row
row_join f a n zero = rw (add-zero, append-nil)
row_join f a n (suc k) =
    let e : a + n + k ≡ a + (n + k) = omega arith in
    rw (add-suc, row_join f a n k, e, append_assoc)

-- a list is the row of its own bytes
pub row_whole : (xs : List ℕ) (n : ℕ) → length xs ≡ n → row (cell xs) 0 n ≡ xs
row_whole xs n e =
    ext_get_or 0 (row (cell xs) 0 n) xs (length_row (cell xs) 0 n ∙ sym e) (λ i h. cell_row (cell xs) 0 n i (rw length_row at h) ∙ ap (cell xs) (zero-add i))

-- ---- numbers in lists put together, and the bytes of a number that was read

module _ (n : ℕ) (xs ys : List ℕ) where
  pub big_left : (i : ℕ) → i + n ≤ length xs → big n (cell (xs ++ ys)) i ≡ big n (cell xs) i
  big_left i h = big_ext n (cell (xs ++ ys)) (cell xs) i i (λ k l. cell_left xs ys (i + k) (omega arith))

  pub big_past : (m i : ℕ) → length xs ≡ m → big n (cell (xs ++ ys)) (m + i) ≡ big n (cell ys) i
  big_past m i e =
      big_ext n (cell (xs ++ ys)) (cell ys) (m + i) i (λ k l. let q : m + i + k ≡ m + (i + k) = omega arith in rw q (cell_past xs ys m (i + k) e))

pub bytes_big : (n : ℕ) (f : ℕ → ℕ) (a : ℕ) → ((k : ℕ) → k < n → f (a + k) < 256) → bytes_of n (big n f a) ≡ row f a n
unfolding bytes_of big row
bytes_big zero f a h = refl
bytes_big (suc n) f a h =
    let l : f (a + n) < 256 = h n (omega arith) in
    let d : (big n f a * 256 + f (a + n)) / 256 ≡ big n f a = omega arith in
    let m : (big n f a * 256 + f (a + n)) % 256 ≡ f (a + n) = omega arith in
    rw (d, m, bytes_big n f a (λ k j. h k (omega arith)))

pub big_bound : (n : ℕ) (f : ℕ → ℕ) (a : ℕ) → ((k : ℕ) → k < n → f (a + k) < 256) → big n f a < 256 ^ n
unfolding big
big_bound zero f a h = omega arith
big_bound (suc n) f a h =
    let ih : big n f a < 256 ^ n = big_bound n f a (λ k j. h k (omega arith)) in
    let l : f (a + n) < 256 = h n (omega arith) in
    rw pow-suc (omega arith)
