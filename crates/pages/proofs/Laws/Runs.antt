-- Runs of bytes: rows of a function's values, and stores of several bytes into a list.
use Rattle.std.proofs.Common.{◌≡◌, ℕ, zero, suc, ◌+◌, ◌<◌, ◌≤◌, List, [], ◌∷◌, ◌++◌, length, set, sym, refl, ◌∙◌, add-zero, add-suc, suc-add, add-one, arith, length-append, length-set, get_or-set_other, get_or-set_same}
use native.Mathlib.Decide.{dec_lt, ℕ_discrete}
use lib.ListN.{get_or-append, get_or-eq_default}
use lib.Seq.{sets, set_out, get_or_at}
use Rattle.pages.specs.Bytes.{cell, row}

-- ---- where an index is: below n places from a on, above them, or among them

pub data Where (a n b : ℕ) : Type 0 where
  below : b < a → Where a n b
  above : a + n ≤ b → Where a n b
  among : a ≤ b → b < a + n → Where a n b

pub where_is : (a n b : ℕ) → Where a n b
where_is a n b = go (dec_lt b a) (dec_lt b (a + n))
  where
    go : Dec (b < a) → Dec (b < a + n) → Where a n b
    go (yes h) d = below h
    go (no h) (yes k) = among (omega arith) k
    go (no h) (no k) = above (omega arith)

-- ---- rows

pub length_row : (f : ℕ → ℕ) (a n : ℕ) → length (row f a n) ≡ n
unfolding row
length_row f a zero = refl
length_row f a (suc n) = rw (length-append, length_row f a n) (omega arith)

pub row_ext : (n : ℕ) (f g : ℕ → ℕ) (a b : ℕ) → ((k : ℕ) → k < n → f (a + k) ≡ g (b + k)) → row f a n ≡ row g b n
unfolding row
row_ext zero f g a b h = refl
row_ext (suc n) f g a b h =
    let ih : row f a n ≡ row g b n = row_ext n f g a b (λ k l. h k (omega arith)) in
    let e : f (a + n) ≡ g (b + n) = h n (omega arith) in
    rw (ih, e)

pub cell_row : (f : ℕ → ℕ) (a n k : ℕ) → k < n → cell (row f a n) k ≡ f (a + k)
unfolding row
cell_row f a zero k h = absurd (omega arith)
cell_row f a (suc n) k h = go (dec_lt k n) (cell_row f a n k)
  where
    front : List ℕ
    front = row f a n

    go : Dec (k < n) → (k < n → cell front k ≡ f (a + k)) → cell (front ++ f (a + n) ∷ []) k ≡ f (a + k)
    go (yes l) ih = get_or-append front (f (a + n) ∷ []) 0 k (rw (length_row f a n) l) ∙ ih l
    go (no l) ih =
        let e : k ≡ n = omega arith in
        rw e (get_or_at front (f (a + n)) [] 0 n (length_row f a n))

-- ---- several bytes stored into a list

pub sets_snoc : (l : List ℕ) (i : ℕ) (vs : List ℕ) (v : ℕ) → sets l i (vs ++ v ∷ []) ≡ set (sets l i vs) (i + length vs) v
sets_snoc l i [] v = rw add-zero
sets_snoc l i (x ∷ vs) v = rw (add-suc, ← suc-add) (sets_snoc (set l i x) (suc i) vs v)

-- one byte more of a row
pub sets_more : (l : List ℕ) (i : ℕ) (f : ℕ → ℕ) (a n : ℕ) → sets l i (row f a (n + 1)) ≡ set (sets l i (row f a n)) (i + n) (f (a + n))
unfolding row
sets_more l i f a n = rw (add-one, sets_snoc, length_row f a n)

-- the same of a list d that holds the row so far: a copying loop's turn
pub sets_next : (l d : List ℕ) (i : ℕ) (f : ℕ → ℕ) (a n v : ℕ) → d ≡ sets l i (row f a n) → v ≡ f (a + n) → set d (i + n) v ≡ sets l i (row f a (n + 1))
sets_next l d i f a n v p q = rw (p, q) (sym (sets_more l i f a n))

-- a row in two pieces
pub sets_join : (l : List ℕ) (i : ℕ) (f : ℕ → ℕ) (a n k : ℕ) → sets (sets l i (row f a n)) (i + n) (row f (a + n) k) ≡ sets l i (row f a (n + k))
unfolding row
sets_join l i f a n zero = rw add-zero
sets_join l i f a n (suc k) =
    let e : i + n + k ≡ i + (n + k) = omega arith in
    let d : a + n + k ≡ a + (n + k) = omega arith in
    rw (sets_snoc, length_row f (a + n) k, sets_join l i f a n k, e, d, add-suc, sets_snoc, length_row f a (n + k))

pub sets_below : (l : List ℕ) (i : ℕ) (vs : List ℕ) (j : ℕ) → j < i → cell (sets l i vs) j ≡ cell l j
sets_below l i [] j h = refl
sets_below l i (v ∷ vs) j h = sets_below (set l i v) (suc i) vs j (omega arith) ∙ get_or-set_other l i j v 0 (omega arith)

pub sets_above : (l : List ℕ) (i : ℕ) (vs : List ℕ) (j : ℕ) → i + length vs ≤ j → cell (sets l i vs) j ≡ cell l j
sets_above l i [] j h = refl
sets_above l i (v ∷ vs) j h = sets_above (set l i v) (suc i) vs j (omega arith) ∙ get_or-set_other l i j v 0 (omega arith)

pub sets_among : (l : List ℕ) (i : ℕ) (vs : List ℕ) (k : ℕ) → i + length vs ≤ length l → k < length vs → cell (sets l i vs) (i + k) ≡ cell vs k
sets_among l i [] k h n = absurd (omega arith)
sets_among l i (v ∷ vs) zero h n =
    rw add-zero (sets_below (set l i v) (suc i) vs i (omega arith) ∙ get_or-set_same l i v 0 (omega arith))
sets_among l i (v ∷ vs) (suc k) h n =
    let e : suc i + k ≡ i + suc k = omega arith in
    rw e at (sets_among (set l i v) (suc i) vs k (rw length-set (omega arith)) (omega arith))

-- ---- lists of bytes

abbrev pub Bytes : List ℕ → Type 0
Bytes l = (k : ℕ) → cell l k < 256

pub row_bytes : (f : ℕ → ℕ) (a n : ℕ) → ((k : ℕ) → f k < 256) → Bytes (row f a n)
row_bytes f a n h k = go (dec_lt k n)
  where
    go : Dec (k < n) → cell (row f a n) k < 256
    go (yes l) = rw (cell_row f a n k l) (h (a + k))
    go (no l) = rw (get_or-eq_default (row f a n) 0 {n = k} (rw (length_row f a n) (omega arith))) (omega arith)

pub sets_bytes : (l : List ℕ) (i : ℕ) (vs : List ℕ) → Bytes l → Bytes vs → Bytes (sets l i vs)
sets_bytes l i [] h g = h
sets_bytes l i (v ∷ vs) h g = sets_bytes (set l i v) (suc i) vs (λ k. go k (ℕ_discrete k i) (dec_lt i (length l))) (λ k. g (suc k))
  where
    go : (k : ℕ) → Dec (k ≡ i) → Dec (i < length l) → cell (set l i v) k < 256
    go k (yes e) (yes r) = rw (e, get_or-set_same l i v 0 r) (g 0)
    go k (yes e) (no r) = rw (set_out l i v (omega arith)) (h k)
    go k (no n) d = rw (get_or-set_other l i k v 0 n) (h k)
