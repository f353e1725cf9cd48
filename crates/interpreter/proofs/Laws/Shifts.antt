-- Shifts by whole bytes: powers of 256, and the sums that the loads and stores make of shifted numbers.
use Rattle.std.proofs.Common.{◌≡◌, ℕ, zero, suc, ◌+◌, ◌*◌, ◌/◌, ◌%◌, ◌^◌, ◌<◌, sym, refl, ap, ◌∙◌, lt_of_le_of_lt, add-zero, mod-lt, mod-eq_of_lt, div-lt_iff_lt-mul, pow-suc, div-mul-le_self, mul-div_cancel, arith, pow_pos, pow-add}
use native.Mathlib.Nat.{one-le-pow, mul-mod_left}
use lib.Arith.{digits_lt, digits_mod, mod-mul}
use Rattle.interpreter.proofs.Laws.Powers.{one_shl}

-- ---- powers of 256

pub bytes_pos : (k : ℕ) → 0 < 256 ^ k
bytes_pos k = one-le-pow k 256 (omega arith)

pow_bits : (k : ℕ) → 2 ^ (8 * k) ≡ 256 ^ k
pow_bits zero = refl
pow_bits (suc k) =
    let e : 8 * suc k ≡ 8 * k + 8 = omega arith in
    rw (e, pow-add 2 (8 * k) 8, pow_bits k) (sym (pow-suc 256 k))

-- a shift by k bytes, which the code writes as s bits
pub shift : (s k : ℕ) → s ≡ 8 * k → 2 ^ s ≡ 256 ^ k
shift s k e = rw e (pow_bits k)

-- ---- numbers of j bytes and k bytes

-- x in j bytes, shifted up by k bytes
pub shl_cut : (j k x : ℕ) → x * 256 ^ k % 256 ^ (j + k) ≡ x % 256 ^ j * 256 ^ k
shl_cut j k x =
    rw (pow-add 256 j k, mod-mul (x * 256 ^ k) (bytes_pos j) (bytes_pos k), mul-div_cancel x (bytes_pos k), mul-mod_left x (256 ^ k)) (add-zero _)

pub shr_lt : (j k x : ℕ) → x < 256 ^ (j + k) → x / 256 ^ k < 256 ^ j
shr_lt j k x h = (div-lt_iff_lt-mul (bytes_pos k)).1 (rw (pow-add 256 j k) at h)

pub join_lt : (j k x y : ℕ) → x < 256 ^ j → y < 256 ^ k → x * 256 ^ k + y < 256 ^ (j + k)
join_lt j k x y h l = rw (pow-add 256 j k) (digits_lt h l)

pub mod_mod : (j k x : ℕ) → x % 256 ^ (j + k) % 256 ^ k ≡ x % 256 ^ k
mod_mod j k x = rw (pow-add 256 j k, mod-mul x (bytes_pos j) (bytes_pos k)) (digits_mod (x / 256 ^ k % 256 ^ j) (mod-lt x (bytes_pos k)))

-- ---- x << s, and below it the low s bits of y: in 64 bits, and in 32

abbrev pub raised : ℕ → ℕ → ℕ → ℕ
raised s x y = x * 2 ^ s % 2 ^ 64 + y % (1 * 2 ^ s % 2 ^ 64)

abbrev pub raised_word : ℕ → ℕ → ℕ → ℕ
raised_word s x y = x * 2 ^ s % 2 ^ 64 % 2 ^ 32 + y % (1 * 2 ^ s % 2 ^ 64)

pub mask_pos : (s : ℕ) → s < 64 → 0 < 1 * 2 ^ s % 2 ^ 64
mask_pos s h = rw (one_shl s h) (pow_pos s)

pub mask : (s k : ℕ) → s ≡ 8 * k → k < 8 → 1 * 2 ^ s % 2 ^ 64 ≡ 256 ^ k
mask s k e h = one_shl s (omega arith) ∙ shift s k e

parts_lt : (j k n x y : ℕ) → j + k ≡ n → x % 256 ^ j * 256 ^ k + y % 256 ^ k < 256 ^ n
parts_lt j k n x y d = rw d at (join_lt j k (x % 256 ^ j) (y % 256 ^ k) (mod-lt x (bytes_pos j)) (mod-lt y (bytes_pos k)))

module _ (s j k : ℕ) (e : s ≡ 8 * k) where
  pub raised_is : j + k ≡ 8 → k < 8 → (x y : ℕ) → raised s x y ≡ x % 256 ^ j * 256 ^ k + y % 256 ^ k
  raised_is d h x y = rw (mask s k e h, shift s k e) (ap (λ (z : ℕ). z + y % 256 ^ k) (rw d at (shl_cut j k x)))

  pub raised_lt : j + k ≡ 8 → k < 8 → (x y : ℕ) → raised s x y < 2 ^ 64
  raised_lt d h x y = rw (raised_is d h x y) (parts_lt j k 8 x y d)

  pub raised_word_lem : j + k ≡ 4 → (x y : ℕ) → raised_word s x y ≡ x % 256 ^ j * 256 ^ k + y % 256 ^ k
  raised_word_lem d x y =
      let c : x * 256 ^ k % 2 ^ 64 % 2 ^ 32 ≡ x * 256 ^ k % 2 ^ 32 = omega arith in
      rw (mask s k e (omega arith), shift s k e, c) (ap (λ (z : ℕ). z + y % 256 ^ k) (rw d at (shl_cut j k x)))

  pub raised_word_lt : j + k ≡ 4 → (x y : ℕ) → raised_word s x y < 2 ^ 32
  raised_word_lt d x y = rw (raised_word_lem d x y) (parts_lt j k 4 x y d)

-- ---- x with its low s bits cleared, and y >> r in their place

abbrev pub merged : ℕ → ℕ → ℕ → ℕ → ℕ
merged s r x y = x / 2 ^ s * 2 ^ s % 2 ^ 64 + y / 2 ^ r

pub kept_is : (s k : ℕ) → s ≡ 8 * k → (x : ℕ) → x < 2 ^ 64 → x / 2 ^ s * 2 ^ s % 2 ^ 64 ≡ x / 256 ^ k * 256 ^ k
kept_is s k e x h = rw (shift s k e) (mod-eq_of_lt (lt_of_le_of_lt (div-mul-le_self x (256 ^ k)) h))

module _ (s r k l : ℕ) (e : s ≡ 8 * k) (f : r ≡ 8 * l) (x y : ℕ) (h : x < 2 ^ 64) where
  pub merged_is : merged s r x y ≡ x / 256 ^ k * 256 ^ k + y / 256 ^ l
  merged_is = rw (kept_is s k e x h, shift r l f)

  pub merged_lt : (n : ℕ) → k + l ≡ n → x < 256 ^ n → y < 256 ^ n → merged s r x y < 256 ^ n
  merged_lt n d a b =
      let g : l + k ≡ n = omega arith in
      rw merged_is (rw g at (join_lt l k (x / 256 ^ k) (y / 256 ^ l) (shr_lt l k x (rw g a)) (shr_lt k l y (rw d b))))
