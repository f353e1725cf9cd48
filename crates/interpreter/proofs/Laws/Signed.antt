-- Distances from 0 and signed results, over the width.
use Rattle.std.proofs.Common.{◌≡◌, ℕ, ◌+◌, ◌-◌, ◌*◌, ◌/◌, ◌%◌, ◌^◌, ◌<◌, ◌≤◌, Bool, true, false, sym, refl, ap, le_trans, mul-le-mul, div-le_self, arith, pow_pos, pow_mono, pow-add, le-leb}
use native.Mathlib.Nat.{add-mul-mod_self_right, mod-mod, mod-le}
use native.Mathlib.Decide.{dec_lt}
use lib.Pow.{mod-mod-pow}
use borrow.Author.Tests.{lt-leb}
use Rattle.interpreter.specs.Words.{sext, magnitude, signed, negative, differ, quotient, remainder}
use Rattle.interpreter.proofs.Laws.Words.{sext_mod}

-- ---- the distance from 0, by the sign

pub magnitude_high : (n x : ℕ) → 2 ^ (n - 1) ≤ x → 2 ^ n - x ≡ magnitude n x
unfolding magnitude
magnitude_high n x h = sym (rw (le-leb _ _ h))

pub magnitude_low : (n x : ℕ) → x < 2 ^ (n - 1) → x ≡ magnitude n x
unfolding magnitude
magnitude_low n x h = sym (rw (lt-leb _ _ h))

halves : (n : ℕ) → 0 < n → 2 ^ n ≡ 2 ^ (n - 1) + 2 ^ (n - 1)
halves n p =
    let e : 1 + (n - 1) ≡ n = omega arith in
    omega (arith, rw e at (pow-add 2 1 (n - 1)))

-- by halves, none of which is above 64 bits
pub magnitude_half : (n x : ℕ) → 0 < n → 2 ^ (n - 1) ≤ x → 2 ^ (n - 1) - (x - 2 ^ (n - 1)) ≡ magnitude n x
magnitude_half n x p h = omega (arith, halves n p, magnitude_high n x h)

pub all_ones : (n : ℕ) → 0 < n → 2 ^ (n - 1) - 1 + 2 ^ (n - 1) ≡ 2 ^ n - 1
all_ones n p = let h : 0 < 2 ^ (n - 1) = pow_pos (n - 1) in omega (arith, halves n p, h)

-- ---- its bounds

pub magnitude_le : (n : ℕ) → 0 < n → (x : ℕ) → magnitude n x ≤ 2 ^ (n - 1)
magnitude_le n p x = go (dec_lt x (2 ^ (n - 1)))
  where
    go : Dec (x < 2 ^ (n - 1)) → magnitude n x ≤ 2 ^ (n - 1)
    go (yes d) = omega (arith, magnitude_low n x d)
    go (no d) = omega (arith, halves n p, magnitude_high n x (omega arith))

pub magnitude_fits : (n : ℕ) → 0 < n → (x : ℕ) → magnitude n x ≤ 2 ^ n
magnitude_fits n p x = le_trans (magnitude_le n p x) (pow_mono {i = n - 1} {j = n} (omega arith))

pub magnitude_pos : (n x : ℕ) → 0 < x → x < 2 ^ n → 0 < magnitude n x
magnitude_pos n x p h = go (dec_lt x (2 ^ (n - 1)))
  where
    go : Dec (x < 2 ^ (n - 1)) → 0 < magnitude n x
    go (yes d) = omega (arith, magnitude_low n x d)
    go (no d) = omega (arith, magnitude_high n x (omega arith))

pub product_le : (n : ℕ) → 0 < n → (x y : ℕ) → magnitude n x * magnitude n y ≤ 2 ^ (n - 1) * 2 ^ (n - 1)
product_le n p x y = mul-le-mul (magnitude_le n p x) (magnitude_le n p y)

-- ---- a signed number's low n bits are the same in any width

pub signed_low : (j n : ℕ) (s : Bool) (m : ℕ) → m ≤ 2 ^ n → signed (j + n) s m % 2 ^ n ≡ signed n s m % 2 ^ n
unfolding signed
signed_low j n false m h = refl
signed_low j n true m h =
    let d : ℕ = 2 ^ j - 1 in
    let f : 2 ^ j ≡ d + 1 = omega (arith, pow_pos j) in
    let e : 2 ^ (j + n) - m ≡ (2 ^ n - m) + d * 2 ^ n = omega (arith, pow-add 2 j n, ap (λ (z : ℕ). z * 2 ^ n) f) in
    rw (mod-mod-pow (2 ^ (j + n) - m) j n, e, add-mul-mod_self_right (2 ^ n - m) d (2 ^ n), mod-mod (2 ^ n - m) (2 ^ n))

pub sext_signed : (j n : ℕ) (s : Bool) (m : ℕ) → m ≤ 2 ^ n → sext n (signed (j + n) s m) ≡ sext n (signed n s m)
sext_signed j n s m h = sext_mod n _ _ (signed_low j n s m h)

-- ---- a remainder and a quotient of n bits, sign-extended from more bits

pub sext_remainder : (j n : ℕ) → 0 < n → (x y : ℕ) → sext n (signed (j + n) (negative n x) (magnitude n x % magnitude n y)) ≡ sext n (remainder n x y)
unfolding remainder
sext_remainder j n p x y = sext_signed j n _ _ (le_trans (mod-le (magnitude n x) (magnitude n y)) (magnitude_fits n p x))

pub sext_quotient : (j n : ℕ) → 0 < n → (x y : ℕ) → sext n (signed (j + n) (differ (negative n x) (negative n y)) (magnitude n x / magnitude n y)) ≡ sext n (quotient n x y)
unfolding quotient
sext_quotient j n p x y = sext_signed j n _ _ (le_trans (div-le_self (magnitude n x) (magnitude n y)) (magnitude_fits n p x))
