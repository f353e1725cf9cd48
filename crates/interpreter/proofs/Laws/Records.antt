-- A step record from its parts.
use Rattle.std.proofs.Common.{◌≡◌, ℕ, zero, suc, ◌+◌, ◌*◌, ◌/◌, ◌%◌, ◌^◌, ◌<◌, ◌≤◌, true, List, ◌++◌, length, sym, refl, ◌∙◌, append_assoc, pow-suc, zero-add, arith, length-append, Option, Some, None}
use lib.Arith.{mod-mul}
use lib.Seq.{sets, length-sets}
use Rattle.pages.specs.Bytes.{cell, zeros, big, bytes_of}
use Rattle.pages.specs.Calls.{put_def}
use Rattle.pages.proofs.Laws.Runs.{Bytes, length_row, cell_row, row_bytes}
use Rattle.pages.proofs.Laws.Numbers.{length_bytes, big_bytes, big_none, bytes_bytes}
use Rattle.pages.proofs.Laws.Places.{cell_left, cell_past, big_left, big_past, put_fits, sets_then, sets_whole}
use Rattle.interpreter.specs.declared.state.State.{State}
use Rattle.interpreter.specs.Layout.{encode, decode_at, formed_at, Fits}
use Rattle.interpreter.specs.Records.{touch_bytes, rest_of, record_of}
use Rattle.interpreter.proofs.Laws.Shifts.{bytes_pos}
use Rattle.interpreter.proofs.Laws.Layout.{length_encode}
use Rattle.interpreter.proofs.Laws.Codec.{at_encode, append_bytes, encode_bytes}

-- ---- lengths

pub length_touch : (t : Option ℕ) (x y : ℕ) → length (touch_bytes t x y) ≡ 24
length_touch None x y = length_row (λ _. 0) 0 24
length_touch (Some a) x y = simp (length-append, length_bytes 8 a, length_bytes 8 x, length_bytes 8 y)

pub length_rest : (w : ℕ) (t : Option ℕ) (x y : ℕ) → length (rest_of w t x y) ≡ 32
unfolding rest_of
length_rest w t x y = simp (length-append, length_bytes 4 w, length_row (λ _. 0) 0 4, length_touch t x y)

pub length_record : (s n : State) (w : ℕ) (t : Option ℕ) (x y : ℕ) → length (record_of s n w t x y) ≡ 752
unfolding record_of
length_record s n w t x y = simp (length-append, length_encode s, length_encode n, length_rest w t x y)

-- and those of the pieces
both_long : (s n : State) → length (encode s ++ encode n) ≡ 720
both_long s n = length-append (encode s) (encode n) ∙ rw (length_encode s, length_encode n)

head_long : (w : ℕ) → length (bytes_of 4 w ++ zeros 4) ≡ 8
head_long w = length-append (bytes_of 4 w) (zeros 4) ∙ rw (length_bytes 4 w, length_row (λ _. 0) 0 4)

eights_long : (a x : ℕ) → length (bytes_of 8 a ++ bytes_of 8 x) ≡ 16
eights_long a x = length-append (bytes_of 8 a) (bytes_of 8 x) ∙ rw (length_bytes 8 a, length_bytes 8 x)

-- ---- what is written

-- a run of bytes that fits
pub put_run : (b : List ℕ) (k : ℕ) (vs : List ℕ) (n : ℕ) {d : List ℕ} → length vs ≡ n → k + n ≤ length b → d ≡ put_def b k vs → d ≡ sets b k vs
put_run b k vs n e h p = p ∙ put_fits b k vs (rw e h)

-- and one behind another run
pub put_behind : (b : List ℕ) (at : ℕ) (us vs : List ℕ) (m n k : ℕ) {d e : List ℕ} → length us ≡ m → length vs ≡ n → k ≡ at + m → k + n ≤ length b → d ≡ sets b at us
    → e ≡ put_def d k vs → e ≡ sets b at (us ++ vs)
put_behind b at us vs m n k {d = d} p q r h g w =
    let long : length d ≡ length b = rw g (length-sets b at us) in
    put_run d k vs n q (rw long h) w ∙ rw g (sets_then b at us vs k m p r)

pub put_touched : (b : List ℕ) (a x y : ℕ) {d e f : List ℕ} → length b ≡ 752 → d ≡ put_def b 728 (bytes_of 8 a) → e ≡ put_def d 736 (bytes_of 8 x) → f ≡ put_def e 744 (bytes_of 8 y)
    → f ≡ sets b 728 (touch_bytes (Some a) x y)
put_touched b a x y h p q r =
    let e1 = put_run b 728 (bytes_of 8 a) 8 (length_bytes 8 a) (omega arith) p in
    let e2 = put_behind b 728 (bytes_of 8 a) (bytes_of 8 x) 8 8 736 (length_bytes 8 a) (length_bytes 8 x) refl (omega arith) e1 q in
    put_behind b 728 (bytes_of 8 a ++ bytes_of 8 x) (bytes_of 8 y) 16 8 744 (eights_long a x) (length_bytes 8 y) refl (omega arith) e2 r

pub put_untouched : (b : List ℕ) (x y : ℕ) {t : Option ℕ} {d : List ℕ} → t ≡ None → length b ≡ 752 → d ≡ put_def b 728 (zeros 24) → d ≡ sets b 728 (touch_bytes t x y)
put_untouched b x y e h p = put_run b 728 (zeros 24) 24 (length_row (λ _. 0) 0 24) (omega arith) p ∙ rw e

-- n bytes hold no more of a number than its remainder
pub bytes_low : (n v : ℕ) → bytes_of n (v % 256 ^ n) ≡ bytes_of n v
unfolding bytes_of
bytes_low zero v = refl
bytes_low (suc n) v =
    let e : v % (256 ^ n * 256) ≡ v / 256 % 256 ^ n * 256 + v % 256 = mod-mul v (bytes_pos n) (omega arith) in
    let d : (v / 256 % 256 ^ n * 256 + v % 256) / 256 ≡ v / 256 % 256 ^ n = omega arith in
    let m : (v / 256 % 256 ^ n * 256 + v % 256) % 256 ≡ v % 256 = omega arith in
    rw (pow-suc, e, d, m, bytes_low n (v / 256))

pub put_rest : (b : List ℕ) (w : ℕ) (t : Option ℕ) (x y : ℕ) {d e f : List ℕ} → length b ≡ 752 → d ≡ put_def b 720 (bytes_of 4 (w % 2 ^ 32)) → e ≡ put_def d 724 (zeros 4)
    → f ≡ sets e 728 (touch_bytes t x y) → f ≡ sets b 720 (rest_of w t x y)
unfolding rest_of
put_rest b w t x y h p q r =
    let e1 = put_run b 720 (bytes_of 4 w) 4 (length_bytes 4 w) (omega arith) (p ∙ rw (bytes_low 4 w)) in
    let e2 = put_behind b 720 (bytes_of 4 w) (zeros 4) 4 4 724 (length_bytes 4 w) (length_row (λ _. 0) 0 4) refl (omega arith) e1 q in
    r ∙ rw e2 (sets_then b 720 (bytes_of 4 w ++ zeros 4) (touch_bytes t x y) 728 8 (head_long w) refl)

-- the three parts are the record
pub record_whole : (b : List ℕ) (s n : State) (w : ℕ) (t : Option ℕ) (x y : ℕ) → length b ≡ 752
    → sets (sets (sets b 0 (encode s)) 360 (encode n)) 720 (rest_of w t x y) ≡ record_of s n w t x y
unfolding record_of
record_whole b s n w t x y h =
    rw (sets_then b 0 (encode s) (encode n) 360 360 (length_encode s) refl, sets_then b 0 (encode s ++ encode n) (rest_of w t x y) 720 720 (both_long s n) refl)
    (sets_whole b (encode s ++ encode n ++ rest_of w t x y) (length_record s n w t x y ∙ sym h))

-- the record as document 01 lists it
pub record_flat : (s n : State) (w : ℕ) (t : Option ℕ) (x y : ℕ) → record_of s n w t x y ≡ encode s ++ encode n ++ bytes_of 4 w ++ zeros 4 ++ touch_bytes t x y
unfolding record_of rest_of
record_flat s n w t x y = simp append_assoc

-- ---- what a record's bytes say

big_zeros : (k i n : ℕ) → i + k ≤ n → big k (cell (zeros n)) i ≡ 0
big_zeros k i n h = big_none k (cell (zeros n)) i (λ j l. cell_row (λ _. 0) 0 n (i + j) (omega arith))

module _ (s n : State) (w : ℕ) (t : Option ℕ) (x y : ℕ) where
  old_cells : (j : ℕ) → j < 360 → cell (record_of s n w t x y) (0 + j) ≡ cell (encode s) j
  unfolding record_of
  old_cells j h =
      rw zero-add (cell_left (encode s ++ encode n) (rest_of w t x y) j (rw (both_long s n) (omega arith)) ∙ cell_left (encode s) (encode n) j (rw (length_encode s) h))

  new_cells : (j : ℕ) → j < 360 → cell (record_of s n w t x y) (360 + j) ≡ cell (encode n) j
  unfolding record_of
  new_cells j h =
      cell_left (encode s ++ encode n) (rest_of w t x y) (360 + j) (rw (both_long s n) (omega arith)) ∙ cell_past (encode s) (encode n) 360 j (length_encode s)

  -- the states
  pub record_old : Fits s → (decode_at (record_of s n w t x y) 0 ≡ s) × (formed_at (record_of s n w t x y) 0 ≡ true)
  record_old f = at_encode (record_of s n w t x y) 0 s f old_cells

  pub record_new : Fits n → (decode_at (record_of s n w t x y) 360 ≡ n) × (formed_at (record_of s n w t x y) 360 ≡ true)
  record_new f = at_encode (record_of s n w t x y) 360 n f new_cells

  rest_number : (k i : ℕ) → big k (cell (record_of s n w t x y)) (720 + i) ≡ big k (cell (rest_of w t x y)) i
  unfolding record_of
  rest_number k i = big_past k (encode s ++ encode n) (rest_of w t x y) 720 i (both_long s n)

  -- the instruction, and four zeros
  pub record_word : big 4 (cell (record_of s n w t x y)) 720 ≡ w % 2 ^ 32
  unfolding rest_of
  record_word =
      rest_number 4 0
      ∙ big_left 4 (bytes_of 4 w ++ zeros 4) (touch_bytes t x y) 0 (rw (head_long w) (omega arith))
      ∙ big_left 4 (bytes_of 4 w) (zeros 4) 0 (rw (length_bytes 4 w) (omega arith))
      ∙ big_bytes 4 w

  pub record_spare : big 4 (cell (record_of s n w t x y)) 724 ≡ 0
  unfolding rest_of
  record_spare =
      rest_number 4 4
      ∙ big_left 4 (bytes_of 4 w ++ zeros 4) (touch_bytes t x y) 4 (rw (head_long w) (omega arith))
      ∙ big_past 4 (bytes_of 4 w) (zeros 4) 4 0 (length_bytes 4 w)
      ∙ big_zeros 4 0 4 (omega arith)

  -- the touched eight
  pub record_touch : (i : ℕ) → big 8 (cell (record_of s n w t x y)) (728 + i) ≡ big 8 (cell (touch_bytes t x y)) i
  unfolding rest_of
  record_touch i =
      let e : 728 + i ≡ 720 + (8 + i) = omega arith in
      rw e (rest_number 8 (8 + i) ∙ big_past 8 (bytes_of 4 w ++ zeros 4) (touch_bytes t x y) 8 i (head_long w))

pub touch_none : (x y i : ℕ) → i + 8 ≤ 24 → big 8 (cell (touch_bytes None x y)) i ≡ 0
touch_none x y i h = big_zeros 8 i 24 h

module _ (a x y : ℕ) where
  pub touch_address : big 8 (cell (touch_bytes (Some a) x y)) 0 ≡ a % 2 ^ 64
  touch_address =
      big_left 8 (bytes_of 8 a ++ bytes_of 8 x) (bytes_of 8 y) 0 (rw (eights_long a x) (omega arith))
      ∙ big_left 8 (bytes_of 8 a) (bytes_of 8 x) 0 (rw (length_bytes 8 a) (omega arith))
      ∙ big_bytes 8 a

  pub touch_old : big 8 (cell (touch_bytes (Some a) x y)) 8 ≡ x % 2 ^ 64
  touch_old =
      big_left 8 (bytes_of 8 a ++ bytes_of 8 x) (bytes_of 8 y) 8 (rw (eights_long a x) (omega arith))
      ∙ big_past 8 (bytes_of 8 a) (bytes_of 8 x) 8 0 (length_bytes 8 a)
      ∙ big_bytes 8 x

  pub touch_new : big 8 (cell (touch_bytes (Some a) x y)) 16 ≡ y % 2 ^ 64
  touch_new = big_past 8 (bytes_of 8 a ++ bytes_of 8 x) (bytes_of 8 y) 16 0 (eights_long a x) ∙ big_bytes 8 y

-- ---- a record's bytes are bytes

touch_bytes_lem : (t : Option ℕ) (x y : ℕ) → Bytes (touch_bytes t x y)
touch_bytes_lem None x y = row_bytes (λ _. 0) 0 24 (λ i. omega arith)
touch_bytes_lem (Some a) x y =
    append_bytes (bytes_of 8 a ++ bytes_of 8 x) (bytes_of 8 y) (append_bytes (bytes_of 8 a) (bytes_of 8 x) (bytes_bytes 8 a) (bytes_bytes 8 x)) (bytes_bytes 8 y)

rest_bytes : (w : ℕ) (t : Option ℕ) (x y : ℕ) → Bytes (rest_of w t x y)
unfolding rest_of
rest_bytes w t x y =
    append_bytes (bytes_of 4 w ++ zeros 4) (touch_bytes t x y) (append_bytes (bytes_of 4 w) (zeros 4) (bytes_bytes 4 w) (row_bytes (λ _. 0) 0 4 (λ i. omega arith))) (touch_bytes_lem t x y)

pub record_bytes : (s n : State) (w : ℕ) (t : Option ℕ) (x y : ℕ) → Fits s → Fits n → Bytes (record_of s n w t x y)
unfolding record_of
record_bytes s n w t x y f g =
    append_bytes (encode s ++ encode n) (rest_of w t x y) (append_bytes (encode s) (encode n) (encode_bytes s f) (encode_bytes n g)) (rest_bytes w t x y)
