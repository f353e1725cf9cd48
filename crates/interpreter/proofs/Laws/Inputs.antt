-- The input: records of the index, parts of the data, and the bytes that a read or a write moves.
use Rattle.std.proofs.Common.{◌≡◌, ℕ, zero, suc, ◌+◌, ◌-◌, ◌*◌, ◌/◌, ◌%◌, ◌<◌, ◌≤◌, Bool, true, false, leb, List, [], ◌++◌, length, take, drop, sym, refl, ap, ◌∙◌, zero-add, add-one, arith, ext_get_or, eq-eqb, leb-true, Option, Some, None, eqb-true}
use native.Mathlib.Nat.{sub-zero}
use native.Mathlib.Decide.{dec_lt}
use lib.Seq.{sets, length-sets}
use borrow.Author.Tests.{lt-leb}
use Rattle.pages.specs.Bytes.{cell, row, big, bytes_of}
use Rattle.pages.proofs.Laws.Runs.{length_row, cell_row, row_ext, sets_below, sets_among}
use Rattle.pages.proofs.Laws.Numbers.{length_bytes, big_ext}
use Rattle.std.proofs.Math.Nat.{div-div-eq-div-mul}
use Rattle.std.specs.Int.{to_be_bytes, from_be_bytes, w64}
use Rattle.pages.specs.Calls.{number_at, copy_def}
use Rattle.pages.proofs.Laws.Places.{number_fits, copy_fits, cell_left, cell_past, length_part, cell_part, row_whole, bytes_big}
use Rattle.interpreter.proofs.Laws.Tests.{both, leb_rest}
use Rattle.interpreter.proofs.Laws.Layout.{row_is}
use Rattle.interpreter.specs.Inputs.{same, has_key, entry_at, first_entry, entry_of, inside, part_def, content, moving, moved, merged, shifted}
use Rattle.interpreter.specs.declared.input.Entry.{Entry}

-- ---- keys

-- the same bytes one after the other: each is the same, and where the lists are as long they are one
module _ (f g : ℕ → ℕ) where
  same_out : (n a : ℕ) → same n f a g 0 ≡ true → (i : ℕ) → i < n → f (a + i) ≡ g (0 + i)
  unfolding same
  same_out zero a e i h = absurd (omega arith)
  same_out (suc n) a e i h = let q = both e in go (dec_lt i n) (same_out n a q.0 i) (eqb-true _ _ q.1)
    where
      go : Dec (i < n) → (i < n → f (a + i) ≡ g (0 + i)) → f (a + n) ≡ g (0 + n) → f (a + i) ≡ g (0 + i)
      go (yes l) p q = p l
      go (no l) p q = let k : i ≡ n = omega arith in rw k q

  same_in : (n a : ℕ) → ((i : ℕ) → i < n → f (a + i) ≡ g (0 + i)) → same n f a g 0 ≡ true
  unfolding same
  same_in zero a h = refl
  same_in (suc n) a h = rw (same_in n a (λ i l. h i (omega arith)), eq-eqb _ _ (h n (omega arith)))

pub same_self : (n : ℕ) (f : ℕ → ℕ) → same n f 0 f 0 ≡ true
same_self n f = same_in f f n 0 (λ i l. refl)

pub same_list : (n : ℕ) (xs ys : List ℕ) → length xs ≡ n → length ys ≡ n → same n (cell xs) 0 (cell ys) 0 ≡ true → xs ≡ ys
same_list n xs ys p q e = sym (row_whole xs n p) ∙ row_ext n (cell xs) (cell ys) 0 0 (same_out (cell xs) (cell ys) n 0 e) ∙ row_whole ys n q

-- ---- keys by doublewords

module _ (f g : ℕ → ℕ) (u : (k : ℕ) → f k < 256) (v : (k : ℕ) → g k < 256) where
  -- equal doublewords have equal bytes
  eight_out : (a b : ℕ) → big 8 f a ≡ big 8 g b → (r : ℕ) → r < 8 → f (a + r) ≡ g (b + r)
  eight_out a b e r h =
      let z : row f a 8 ≡ row g b 8 = sym (bytes_big 8 f a (λ k l. u (a + k))) ∙ ap (bytes_of 8) e ∙ bytes_big 8 g b (λ k l. v (b + k)) in
      sym (cell_row f a 8 r h) ∙ ap (λ (t : List ℕ). cell t r) z ∙ cell_row g b 8 r h

  same_more : (n a : ℕ) → same n f a g 0 ≡ true → big 8 f (a + n) ≡ big 8 g n → same (n + 8) f a g 0 ≡ true
  same_more n a s e = same_in f g (n + 8) a (λ i h. go i h (dec_lt i n))
    where
      go : (i : ℕ) → i < n + 8 → Dec (i < n) → f (a + i) ≡ g (0 + i)
      go i h (yes l) = same_out f g n a s i l
      go i h (no l) =
          let j : a + i ≡ a + n + (i - n) = omega arith in
          let k : n + (i - n) ≡ 0 + i = omega arith in
          ap f j ∙ eight_out (a + n) n e (i - n) (omega arith) ∙ ap g k

  same_apart : (m n a : ℕ) → n + 8 ≤ m → (big 8 f (a + n) ≡ big 8 g n → ⊥) → same m f a g 0 ≡ false
  same_apart m n a l h = go (same m f a g 0) refl
    where
      each : same m f a g 0 ≡ true → (k : ℕ) → k < 8 → f (a + n + k) ≡ g (n + k)
      each q k b =
          let j : a + n + k ≡ a + (n + k) = omega arith in
          ap f j ∙ same_out f g m a q (n + k) (omega arith) ∙ ap g (zero-add (n + k))

      go : (b : Bool) → same m f a g 0 ≡ b → b ≡ false
      go true q = absurd (h (big_ext 8 f g (a + n) n (each q)))
      go false q = refl

-- at record i, once its first k doublewords are the key's
module _ (x key : List ℕ) (i k : ℕ) (u : (j : ℕ) → cell x j < 256) (v : (j : ℕ) → cell key j < 256) (room : i * 48 + 32 ≤ length x) (long : length key ≡ 32) (few : k < 4) {m p q : ℕ} (part : m ≡ 32) (e : p ≡ number_at 8 (take m (drop (i * 48) x)) (8 * k)) (d : q ≡ number_at 8 key (8 * k)) where
  there : p ≡ big 8 (cell x) (i * 48 + 8 * k)
  there =
      let f = rw part at e in
      f
      ∙ number_fits 8 (take 32 (drop (i * 48) x)) (8 * k) (omega (arith, length_part x (i * 48) 32 room))
      ∙ big_ext 8 (cell (take 32 (drop (i * 48) x))) (cell x) (8 * k) (i * 48 + 8 * k) (λ j l. cell_part x (i * 48) 32 room (8 * k + j) (omega arith) ∙ ap (cell x) (omega arith))

  here : q ≡ big 8 (cell key) (8 * k)
  here = d ∙ number_fits 8 key (8 * k) (omega arith)

  pub key_more : same (8 * k) (cell x) (i * 48) (cell key) 0 ≡ true → p ≡ q → same (8 * (k + 1)) (cell x) (i * 48) (cell key) 0 ≡ true
  key_more s z =
      let n : 8 * (k + 1) ≡ 8 * k + 8 = omega arith in
      rw n (same_more (cell x) (cell key) u v (8 * k) (i * 48) s (sym there ∙ z ∙ here))

  pub key_apart : (p ≡ q → ⊥) → has_key x key i ≡ false
  unfolding has_key
  key_apart z = same_apart (cell x) (cell key) u v 32 (8 * k) (i * 48) (omega arith) (λ w. z (there ∙ w ∙ sym here))

-- ---- the index, record by record

module _ (x key : List ℕ) (n : ℕ) where
  pub entry_here : (i : ℕ) → i < n → has_key x key i ≡ true → first_entry x key (n - i) i ≡ Some (entry_at x i)
  unfolding first_entry
  entry_here i h e =
      let s : n - i ≡ suc (n - suc i) = omega arith in
      rw (s, e)

  pub entry_next : (i : ℕ) → i < n → has_key x key i ≡ false → first_entry x key (n - i) i ≡ first_entry x key (n - (i + 1)) (i + 1)
  unfolding first_entry
  entry_next i h e =
      let s : n - i ≡ suc (n - (i + 1)) = omega arith in
      rw (s, e, add-one)

  pub entry_none : (i : ℕ) → n ≤ i → first_entry x key (n - i) i ≡ None
  unfolding first_entry
  entry_none i h =
      let s : n - i ≡ 0 = omega arith in
      rw s

pub entry_all : (x key : List ℕ) → entry_of x key ≡ first_entry x key (length x / 48 - 0) 0
unfolding entry_of
entry_all x key = rw sub-zero

-- what a whole record that has the key says
pub entry_read : (x key : List ℕ) (i r s : ℕ) {e : Option Entry} → i < length x / 48 → has_key x key i ≡ true
    → r ≡ number_at 8 x (i * 48 + 32) → s ≡ number_at 8 x (i * 48 + 32 + 8) → e ≡ first_entry x key (length x / 48 - i) i
    → Some (record { start = r; length = s }) ≡ e
entry_read x key i r s l h p q t =
    let m : i * 48 + 32 + 8 ≤ length x = omega arith in
    let k : i * 48 + 32 + 8 + 8 ≤ length x = omega arith in
    let o : i * 48 + 32 + 8 ≡ i * 48 + 40 = omega arith in
    let p2 : r ≡ big 8 (cell x) (i * 48 + 32) = p ∙ number_fits 8 x (i * 48 + 32) m in
    let q2 : s ≡ big 8 (cell x) (i * 48 + 40) = q ∙ number_fits 8 x (i * 48 + 32 + 8) k ∙ ap (big 8 (cell x)) o in
    rw (p2, q2) (sym (t ∙ entry_here x key (length x / 48) i l h))

-- ---- parts of the data

module _ (d : List ℕ) (s n : ℕ) where
  pub inside_out : length d < s → false ≡ inside d s n
  inside_out h =
      let l : length d < s + n = omega arith in
      sym (lt-leb _ _ l)

  pub inside_rest : s ≤ length d → leb n (length d - s) ≡ inside d s n
  inside_rest h = leb_rest (length d) s n h

  pub part_take : s + n ≤ length d → take (s + n - s) (drop s d) ≡ row (cell d) s n
  part_take h =
      let e : s + n - s ≡ n = omega arith in
      rw e (ext_get_or 0 (take n (drop s d)) (row (cell d) s n) (l ∙ sym (length_row (cell d) s n)) each)
    where
      l : length (take n (drop s d)) ≡ n
      l = length_part d s n h

      each : (i : ℕ) → i < length (take n (drop s d)) → cell (take n (drop s d)) i ≡ cell (row (cell d) s n) i
      each i m = let k : i < n = omega (arith, l) in cell_part d s n h i k ∙ sym (cell_row (cell d) s n i k)

  pub part_in : inside d s n ≡ true → take (s + n - s) (drop s d) ≡ part_def d s n
  unfolding part_def
  part_in h = part_take (leb-true _ _ h) ∙ rw h

  pub part_out : inside d s n ≡ false → [] ≡ part_def d s n
  unfolding part_def
  part_out h = rw h

-- ---- how many bytes are moved

-- what is moved lies in the doubleword and in what the program reads
pub moving_fits : (n offset a1 a2 : ℕ) {g : ℕ} → offset ≤ 8 + n → g ≡ moving n offset a1 a2 → (a1 % 8 + g ≤ 8) × (offset + g ≤ 8 + n)
unfolding moving
moving_fits n offset a1 a2 h e = (omega arith, omega arith)

-- ---- bytes behind others

-- behind the seam
back_cell : (xs ys : List ℕ) (n i : ℕ) → length xs ≡ n → n ≤ i → cell ys (i - n) ≡ cell (xs ++ ys) i
back_cell xs ys n i e h = sym (cell_past xs ys n (i - n) e) ∙ ap (cell (xs ++ ys)) (omega arith)

module _ (d : List ℕ) (i : ℕ) where
  pub content_front : i < 8 → cell (bytes_of 8 (length d)) i ≡ cell (content d) i
  content_front h = sym (cell_left (bytes_of 8 (length d)) d i (rw (length_bytes 8 (length d)) h))

  pub content_back : 8 ≤ i → cell d (i - 8) ≡ cell (content d) i
  content_back h = back_cell (bytes_of 8 (length d)) d 8 i (length_bytes 8 (length d)) h

module _ (key vs : List ℕ) (i : ℕ) where
  pub key_front : i < 32 → cell key i ≡ cell (row (cell key) 0 32 ++ vs) i
  key_front h = sym (cell_left (row (cell key) 0 32) vs i (rw (length_row (cell key) 0 32) h) ∙ rw (cell_row (cell key) 0 32 i h, zero-add))

  pub key_back : 32 ≤ i → cell vs (i - 32) ≡ cell (row (cell key) 0 32 ++ vs) i
  key_back h = back_cell (row (cell key) 0 32) vs 32 i (length_row (cell key) 0 32) h

-- ---- bytes put in

-- a number's eight bytes, and the number in eight bytes
pub bytes_eight : (v : ℕ) → to_be_bytes w64 v ≡ bytes_of 8 v
unfolding bytes_of
bytes_eight v = simp div-div-eq-div-mul

big_eight : (s : List ℕ) → from_be_bytes w64 s ≡ big 8 (cell s) 0
unfolding big
big_eight s = rw zero-add (omega arith)

pub row_start : (l : List ℕ) (i : ℕ) (f : ℕ → ℕ) (a : ℕ) → l ≡ sets l i (row f a 0)
unfolding row
row_start l i f a = refl

pub merged_by : (b d : List ℕ) (x at offset count i r : ℕ) → i ≡ count → b ≡ sets (bytes_of 8 x) at (row (cell (content d)) offset i) → r ≡ from_be_bytes w64 b
    → r ≡ merged x at (moved d offset count)
unfolding merged moved
merged_by b d x at offset count i r e p q = q ∙ big_eight b ∙ ap (λ (t : List ℕ). big 8 (cell t) 0) (rw e at p)

-- the key moved to the front, each byte named as std's `copy_within` names it (i - 0), and the bytes of x put behind it
pub shifted_by : (key m b d : List ℕ) (x at n : ℕ) → length key ≡ 32 → length m ≡ 32 → at + n ≤ 8 → b ≡ to_be_bytes w64 x
    → ((i : ℕ) → i < 32 - n → cell m i ≡ cell key (n + (i - 0))) → d ≡ copy_def b at m (32 - n) n → d ≡ shifted key (row (cell (bytes_of 8 x)) at n)
unfolding shifted
shifted_by key m b d x at n k l f p h q =
    q ∙ copy_fits b at m (32 - n) n (rw lb (omega arith)) (omega (arith, l)) ∙ rw e (rw lv (row_is whole n 32 (sets m (32 - n) vs) (length-sets m (32 - n) vs ∙ l) each))
  where
    e : b ≡ bytes_of 8 x
    e = p ∙ bytes_eight x

    lb : length b ≡ 8
    lb = ap length e ∙ length_bytes 8 x

    vs : List ℕ
    vs = row (cell (bytes_of 8 x)) at n

    lv : length vs ≡ n
    lv = length_row (cell (bytes_of 8 x)) at n

    whole : ℕ → ℕ
    whole = cell (row (cell key) 0 32 ++ vs)

    each : (i : ℕ) → i < 32 → cell (sets m (32 - n) vs) i ≡ whole (n + i)
    each i b = go (dec_lt i (32 - n))
      where
        go : Dec (i < 32 - n) → cell (sets m (32 - n) vs) i ≡ whole (n + i)
        go (yes c) = sets_below m (32 - n) vs i c ∙ (rw sub-zero at (h i c)) ∙ key_front key vs (n + i) (omega arith)
        go (no c) =
            let j : i ≡ 32 - n + (i - (32 - n)) = omega arith in
            let o : n + i - 32 ≡ i - (32 - n) = omega arith in
            let g : i - (32 - n) < length vs = omega (arith, lv) in
            let u : 32 - n + length vs ≤ length m = omega (arith, lv, l) in
            ap (cell (sets m (32 - n) vs)) j ∙ sets_among m (32 - n) vs (i - (32 - n)) u g ∙ ap (cell vs) (sym o) ∙ key_back key vs (n + i) (omega arith)

-- the same where the front is a copy of the key's rest
pub shifted_by_copy : (key m b d : List ℕ) (x at n : ℕ) → length key ≡ 32 → at + n ≤ 8 → m ≡ copy_def key n key 0 (32 - n) → b ≡ to_be_bytes w64 x
    → d ≡ copy_def b at m (32 - n) n → d ≡ shifted key (row (cell (bytes_of 8 x)) at n)
shifted_by_copy key m b d x at n k f s p q = shifted_by key m b d x at n k l f p h q
  where
    front : m ≡ sets key 0 (row (cell key) n (32 - n))
    front = s ∙ copy_fits key n key 0 (32 - n) (omega arith) (omega arith)

    l : length m ≡ 32
    l = ap length front ∙ length-sets key 0 (row (cell key) n (32 - n)) ∙ k

    h : (i : ℕ) → i < 32 - n → cell m i ≡ cell key (n + (i - 0))
    h i c =
        let long = length_row (cell key) n (32 - n) in
        rw sub-zero
        (ap (λ (t : List ℕ). cell t i) front
        ∙ ap (cell (sets key 0 (row (cell key) n (32 - n)))) (sym (zero-add i))
        ∙ sets_among key 0 (row (cell key) n (32 - n)) i (omega (arith, long)) (omega (arith, long))
        ∙ cell_row (cell key) n (32 - n) i c)

-- of a key of 32 bytes, these are the last 32 bytes of the key with vs behind it
pub shifted_key : (key vs : List ℕ) → length key ≡ 32 → shifted key vs ≡ row (cell (key ++ vs)) (length vs) (length key)
unfolding shifted
shifted_key key vs e = rw (e, row_whole key 32 e)
