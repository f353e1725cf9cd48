-- Big-endian numbers by their parts, over the width.
use Rattle.std.proofs.Common.{◌≡◌, ℕ, zero, suc, ◌+◌, ◌*◌, ◌/◌, ◌%◌, ◌^◌, ◌<◌, ◌≤◌, [], ◌∷◌, sym, ◌∙◌, add-zero, add-suc, mod-eq_of_lt, mul_assoc, pow-suc, div-one, arith}
use native.Mathlib.Nat.{pow-succ', div-div-eq-div-mul}
use lib.Arith.{digits_div, digits_mod, mod-mul}
use lib.ListN.{get_or-append}
use lib.Seq.{get_or_at}
use Rattle.pages.specs.Bytes.{cell, big, bytes_of}
use Rattle.pages.proofs.Laws.Numbers.{big_ext, length_bytes, bytes_bytes}
use Rattle.pages.proofs.Laws.Places.{big_bound}
use Rattle.interpreter.specs.Loads.{byte, part_at}
use Rattle.interpreter.proofs.Laws.Shifts.{bytes_pos, shr_lt}

-- ---- a big-endian number by its first a bytes and the b after them

pub big_split : (a b : ℕ) (f : ℕ → ℕ) (o : ℕ) → big (a + b) f o ≡ big a f o * 256 ^ b + big b f (o + a)
unfolding big
big_split a zero f o = rw (add-zero a) (omega arith)
big_split a (suc b) f o =
    let e : o + (a + b) ≡ o + a + b = omega arith in
    rw (add-suc a b, big_split a b f o, e, pow-suc) (omega (arith, mul_assoc (big a f o) (256 ^ b) 256))

pub big_lt : (n : ℕ) (f : ℕ → ℕ) (o : ℕ) → ((k : ℕ) → f k < 256) → big n f o < 256 ^ n
big_lt n f o h = big_bound n f o (λ k l. h (o + k))

pub big_high : (a b : ℕ) (f : ℕ → ℕ) (o : ℕ) → ((k : ℕ) → f k < 256) → big (a + b) f o / 256 ^ b ≡ big a f o
big_high a b f o h = rw (big_split a b f o) (digits_div (big a f o) (big_lt b f (o + a) h))

pub big_low : (a b : ℕ) (f : ℕ → ℕ) (o : ℕ) → ((k : ℕ) → f k < 256) → big (a + b) f o % 256 ^ b ≡ big b f (o + a)
big_low a b f o h = rw (big_split a b f o) (digits_mod (big a f o) (big_lt b f (o + a) h))

-- ---- the bytes of a number, as parts of it

-- all but the last byte are those of the rest
big_front : (n v j o : ℕ) → o + j ≤ n → big j (cell (bytes_of (suc n) v)) o ≡ big j (cell (bytes_of n (v / 256))) o
unfolding bytes_of
big_front n v j o h =
    let l = length_bytes n (v / 256) in
    big_ext j _ _ o o (λ k m. get_or-append (bytes_of n (v / 256)) ((v % 256) ∷ []) 0 (o + k) (rw l (omega arith)))

-- the last j bytes
big_last : (j o v : ℕ) → big j (cell (bytes_of (o + j) v)) o ≡ v % 256 ^ j
unfolding big
big_last zero o v = omega arith
big_last (suc j) o v =
    rw (add-suc o j, big_front (o + j) v j o (omega arith), big_last j o (v / 256), last (o + j), pow-suc)
    (sym (mod-mul v (bytes_pos j) (omega arith)))
  where
    last : (n : ℕ) → cell (bytes_of (suc n) v) n ≡ v % 256
    last n = unfold bytes_of in get_or_at (bytes_of n (v / 256)) (v % 256) [] 0 n (length_bytes n (v / 256))

pub big_end : (n o j v : ℕ) → o + j ≡ n → big j (cell (bytes_of n v)) o ≡ v % 256 ^ j
big_end n o j v e = rw (← e) (big_last j o v)

-- the j bytes from byte o on, before the last l
big_before : (o j l v : ℕ) → big j (cell (bytes_of (o + j + l) v)) o ≡ v / 256 ^ l % 256 ^ j
big_before o j zero v = rw (add-zero (o + j), div-one v) (big_last j o v)
big_before o j (suc l) v =
    rw (add-suc (o + j) l, big_front (o + j + l) v j o (omega arith), big_before o j l (v / 256), div-div-eq-div-mul, pow-succ')

pub big_part : (n o j l v : ℕ) → o + j + l ≡ n → big j (cell (bytes_of n v)) o ≡ v / 256 ^ l % 256 ^ j
big_part n o j l v e = rw (← e) (big_before o j l v)

-- the first j bytes
pub big_start : (n j l v : ℕ) → j + l ≡ n → v < 256 ^ n → big j (cell (bytes_of n v)) 0 ≡ v / 256 ^ l
big_start n j l v e h = big_part n 0 j l v (omega arith) ∙ mod-eq_of_lt (shr_lt j l v (rw e h))

-- ---- the word that an offset is in, by its first a bytes and the b after them

module _ (m o a b : ℕ) (e : a + b ≡ 4) where
  pub word_high : part_at 4 m o / 256 ^ b ≡ big a (byte m) (o / 4 * 4)
  unfolding part_at
  word_high = rw e at (big_high a b (byte m) (o / 4 * 4) (bytes_bytes 8 m))

  pub word_low : part_at 4 m o % 256 ^ b ≡ big b (byte m) (o / 4 * 4 + a)
  unfolding part_at
  word_low = rw e at (big_low a b (byte m) (o / 4 * 4) (bytes_bytes 8 m))
