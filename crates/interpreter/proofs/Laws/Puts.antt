-- The eight bytes with some of them written, as a number.
use Rattle.std.proofs.Common.{◌≡◌, ℕ, ◌+◌, ◌-◌, ◌*◌, ◌/◌, ◌%◌, ◌^◌, ◌<◌, ◌≤◌, sym, ap, ◌∙◌, add_assoc, mod-lt, mod-eq_of_lt, mul_assoc, add-mul, div-add-mod', zero-add, arith, pow-add}
use native.Mathlib.Nat.{div-div-eq-div-mul}
use lib.Arith.{mod-mul}
use Rattle.pages.specs.Bytes.{big, bytes_of}
use Rattle.pages.specs.Memory.{write}
use Rattle.pages.proofs.Laws.Numbers.{big_ext, length_bytes, big_bytes, bytes_bytes}
use Rattle.pages.proofs.Laws.Meaning.{write_below, write_above, write_lt, write_number}
use Rattle.interpreter.specs.Loads.{byte}
use Rattle.interpreter.specs.Stores.{put}
use Rattle.interpreter.proofs.Laws.Shifts.{bytes_pos, shift, join_lt, shr_lt}
use Rattle.interpreter.proofs.Laws.Bytes.{big_split, big_lt, big_part, big_end}

pub put_lt : (m k n v : ℕ) → put m k (bytes_of n v) < 2 ^ 64
unfolding put
put_lt m k n v = big_lt 8 _ 0 (write_lt (byte m) k (bytes_of n v) (bytes_bytes 8 m) (bytes_bytes n v))

-- ---- k bytes that stay, n bytes of v, l bytes that stay

module _ (k n l : ℕ) (e : k + n + l ≡ 8) (m v : ℕ) where
  put_top : big k (write (byte m) k (bytes_of n v)) 0 ≡ m / 256 ^ (n + l) % 256 ^ k
  put_top =
      big_ext k _ _ 0 0 (λ i h. write_below (byte m) k (bytes_of n v) (0 + i) (omega arith))
      ∙ big_part 8 0 k (n + l) m (omega arith)

  put_middle : big n (write (byte m) k (bytes_of n v)) k ≡ v % 256 ^ n
  put_middle = write_number (byte m) k (bytes_of n v) n (length_bytes n v) ∙ big_bytes n v

  put_rest : big l (write (byte m) k (bytes_of n v)) (k + n) ≡ m % 256 ^ l
  put_rest =
      let d = length_bytes n v in
      big_ext l _ _ (k + n) (k + n) (λ i h. write_above (byte m) k (bytes_of n v) (k + n + i) (omega arith))
      ∙ big_end 8 (k + n) l m e

  pub put_is : m < 2 ^ 64 → put m k (bytes_of n v) ≡ m / 256 ^ (n + l) * 256 ^ (n + l) + (v % 256 ^ n * 256 ^ l + m % 256 ^ l)
  unfolding put
  put_is h =
      let w : ℕ → ℕ = write (byte m) k (bytes_of n v) in
      let t : ℕ = m / 256 ^ (n + l) in
      let d : k + (n + l) ≡ 8 = omega arith in
      let f : t % 256 ^ k ≡ t = mod-eq_of_lt (shr_lt k (n + l) m (rw d h)) in
      let a : big 8 w 0 ≡ big (k + n) w 0 * 256 ^ l + big l w (0 + (k + n)) = rw e at (big_split (k + n) l w 0) in
      let g : (t * 256 ^ n + v % 256 ^ n) * 256 ^ l ≡ t * 256 ^ (n + l) + v % 256 ^ n * 256 ^ l =
      rw (add-mul (t * 256 ^ n), mul_assoc t, pow-add 256 n l) in
      a ∙ rw (big_split k n w 0, zero-add k, zero-add (k + n), put_top, put_middle, put_rest, f) (omega (arith, g))

-- ---- fewer bytes written: the others are written as they are

-- q bytes that stay, and then n bytes of v
pub put_after : (b q n l : ℕ) → b + q + n + l ≡ 8 → (m v : ℕ) → m < 2 ^ 64
    → put m b (bytes_of (q + n) (big q (byte m) b * 256 ^ n + v % 256 ^ n)) ≡ put m (b + q) (bytes_of n v)
put_after b q n l e m v h =
    let r : ℕ = 256 ^ (n + l) in
    let t : ℕ = m / r in
    let x : ℕ = t % 256 ^ q * 256 ^ n + v % 256 ^ n in
    let i : big q (byte m) b ≡ t % 256 ^ q = big_part 8 b q (n + l) m (omega arith) in
    let d : q + n + l ≡ n + l + q = omega arith in
    let s : x % 256 ^ (q + n) ≡ x = mod-eq_of_lt (join_lt q n (t % 256 ^ q) (v % 256 ^ n) (mod-lt t (bytes_pos q)) (mod-lt v (bytes_pos n))) in
    let u : m / 256 ^ (q + n + l) ≡ t / 256 ^ q = rw (d, pow-add 256 (n + l) q) (sym (div-div-eq-div-mul m r (256 ^ q))) in
    let w : t / 256 ^ q * 256 ^ (q + n + l) + t % 256 ^ q * r ≡ t * r =
    rw (add_assoc q n l, pow-add 256 q (n + l), ← mul_assoc (t / 256 ^ q), ← add-mul (t / 256 ^ q * 256 ^ q) (t % 256 ^ q) r, div-add-mod' t (256 ^ q)) in
    let y : x * 256 ^ l ≡ t % 256 ^ q * r + v % 256 ^ n * 256 ^ l = rw (add-mul (t % 256 ^ q * 256 ^ n), mul_assoc (t % 256 ^ q), pow-add 256 n l) in
    rw i (put_is b (q + n) l (omega arith) m x h ∙ rw (s, u) (omega (arith, w, y)) ∙ sym (put_is (b + q) n l (omega arith) m v h))

-- n bytes of v, and then q bytes that stay
pub put_before : (b n q l : ℕ) → b + n + q + l ≡ 8 → (m v : ℕ) → m < 2 ^ 64
    → put m b (bytes_of (n + q) (v % 256 ^ n * 256 ^ q + big q (byte m) (b + n))) ≡ put m b (bytes_of n v)
put_before b n q l e m v h =
    let t : ℕ = m / 256 ^ l % 256 ^ q in
    let x : ℕ = v % 256 ^ n * 256 ^ q + t in
    let i : big q (byte m) (b + n) ≡ t = big_part 8 (b + n) q l m e in
    let s : x % 256 ^ (n + q) ≡ x = mod-eq_of_lt (join_lt n q (v % 256 ^ n) t (mod-lt v (bytes_pos n)) (mod-lt (m / 256 ^ l) (bytes_pos q))) in
    let u : m % 256 ^ (q + l) ≡ t * 256 ^ l + m % 256 ^ l = rw (pow-add 256 q l) (mod-mul m (bytes_pos q) (bytes_pos l)) in
    let y : x * 256 ^ l ≡ v % 256 ^ n * 256 ^ (q + l) + t * 256 ^ l = rw (add-mul (v % 256 ^ n * 256 ^ q), mul_assoc (v % 256 ^ n), pow-add 256 q l) in
    rw i (put_is b (n + q) l (omega arith) m x h ∙ rw (s, add_assoc n q l) (omega (arith, u, y)) ∙ sym (put_is b n (q + l) (omega arith) m v h))

-- ---- the n bytes of m above s bits taken out, and those of v put in their place

abbrev pub replaced : ℕ → ℕ → ℕ → ℕ → ℕ
replaced n s m v = m - m / 2 ^ s % 256 ^ n * 2 ^ s % 2 ^ 64 + v % 256 ^ n * 2 ^ s % 2 ^ 64

module _ (k n l s : ℕ) (e : k + n + l ≡ 8) (f : s ≡ 8 * l) (m : ℕ) (h : m < 2 ^ 64) where
  old_is : m ≡ m / 256 ^ (n + l) * 256 ^ (n + l) + (m / 256 ^ l % 256 ^ n * 256 ^ l + m % 256 ^ l)
  old_is = sym (div-add-mod' m (256 ^ (n + l))) ∙ ap (λ (z : ℕ). m / 256 ^ (n + l) * 256 ^ (n + l) + z) (rw (pow-add 256 n l) (mod-mul m (bytes_pos n) (bytes_pos l)))

  old_exact : m / 2 ^ s % 256 ^ n * 2 ^ s % 2 ^ 64 ≡ m / 256 ^ l % 256 ^ n * 256 ^ l
  old_exact = rw (shift s l f) (mod-eq_of_lt (omega (arith, old_is)))

  pub old_le : m / 2 ^ s % 256 ^ n * 2 ^ s % 2 ^ 64 ≤ m
  old_le = rw old_exact (omega (arith, old_is))

  new_exact : (v : ℕ) → v % 256 ^ n * 2 ^ s % 2 ^ 64 ≡ v % 256 ^ n * 256 ^ l
  new_exact v = rw (shift s l f) (mod-eq_of_lt (omega (arith, put_is k n l e m v h, put_lt m k n v)))

  pub replaced_is : (v : ℕ) → replaced n s m v ≡ put m k (bytes_of n v)
  replaced_is v = rw (old_exact, new_exact v, put_is k n l e m v h) (omega (arith, old_is))

  pub replaced_lt : (v : ℕ) → replaced n s m v < 2 ^ 64
  replaced_lt v = rw (replaced_is v) (put_lt m k n v)
