-- Products of 64 bits by 64 bits, and the negative of 128 bits, each in two digits.
use Rattle.std.proofs.Common.{◌≡◌, ℕ, ◌+◌, ◌-◌, ◌*◌, ◌/◌, ◌%◌, ◌^◌, ◌<◌, ◌≤◌, true, false, sym, ap, ◌∙◌, mod-eq_of_lt, mul-le-mul, zero-add, arith, pow-add}
use native.Mathlib.Nat.{mul-mod_left}
use lib.Arith.{digits_div, digits_mod}
use lib.Pow.{le_ones, split, mod-pow-add, shl-shr}
use Rattle.interpreter.specs.Words.{minus, magnitude, signed, negative, differ, product}
use Rattle.interpreter.specs.HiLo.{pair, doublewords, negated, dmultu}
use Rattle.interpreter.specs.declared.hi_lo.Pair.{Pair}

-- two digits are the doublewords of the number that they make
pub digits : (h l n : ℕ) → l < 2 ^ 64 → h * 2 ^ 64 + l ≡ n → pair h l ≡ doublewords n
digits h l n s e = rw (← e, digits_div h s, digits_mod h s)

-- ---- the product, by columns of 32 bits

-- over any base P, given each column's carry and digit
columns : (P a0 a1 b0 b1 q0 r0 q r q1 r1 : ℕ) → a0 * b0 ≡ q0 * P + r0 → a1 * b0 + q0 ≡ q * P + r → r + a0 * b1 ≡ q1 * P + r1 → (a1 * b1 + q + q1) * (P * P) + (r1 * P + r0) ≡ (a1 * P + a0) * (b1 * P + b0)
columns P a0 a1 b0 b1 q0 r0 q r q1 r1 e0 e e1 = omega (arith, ap (λ (z : ℕ). z * P) e, ap (λ (z : ℕ). z * P) e1)

-- a product of two words leaves room for a carry
abbrev Small : ℕ → ℕ → Type 0
Small a b = a * b ≤ (2 ^ 32 - 1) * (2 ^ 32 - 1)

small : {a b : ℕ} → a < 2 ^ 32 → b < 2 ^ 32 → Small a b
small h k = mul-le-mul (le_ones 32 h) (le_ones 32 k)

-- and so does each product of a half of x by a half of y
abbrev pub Room : ℕ → ℕ → Type 0
Room x y =
    Small (x % 2 ^ 32) (y % 2 ^ 32) × Small (x / 2 ^ 32) (y % 2 ^ 32) × Small (x % 2 ^ 32) (y / 2 ^ 32) × Small (x / 2 ^ 32) (y / 2 ^ 32)

pub room : (x y : ℕ) → x < 2 ^ 64 → y < 2 ^ 64 → Room x y
room x y h k =
    (small (omega arith) (omega arith), small (omega arith) (omega arith), small (omega arith) (omega arith), small (omega arith) (omega arith))

-- the columns, as dmultu computes them
abbrev middle : ℕ → ℕ → ℕ
middle x y = x / 2 ^ 32 * (y % 2 ^ 32) + x % 2 ^ 32 * (y % 2 ^ 32) / 2 ^ 32

abbrev next : ℕ → ℕ → ℕ
next x y = middle x y % 2 ^ 32 + x % 2 ^ 32 * (y / 2 ^ 32)

abbrev high : ℕ → ℕ → ℕ
high x y = x / 2 ^ 32 * (y / 2 ^ 32) + middle x y / 2 ^ 32 + next x y / 2 ^ 32

abbrev low : ℕ → ℕ → ℕ
low x y = next x y % 2 ^ 32 * 2 ^ 32 + x % 2 ^ 32 * (y % 2 ^ 32) % 2 ^ 32

pub by_columns : (x y : ℕ) → pair (high x y) (low x y) ≡ doublewords (x * y)
by_columns x y =
    digits (high x y) (low x y) (x * y) (omega arith)
    (columns (2 ^ 32) (x % 2 ^ 32) (x / 2 ^ 32) (y % 2 ^ 32) (y / 2 ^ 32) _ _ _ _ _ _
    (sym (split (x % 2 ^ 32 * (y % 2 ^ 32)) 32)) (sym (split (middle x y) 32)) (sym (split (next x y) 32))
    ∙ (λ i. split x 32 i * split y 32 i))

-- ---- the negative, over digits of k bits

negate_none : (k h : ℕ) → h < 2 ^ k → ((2 ^ k - h) % 2 ^ k) * 2 ^ k + 0 ≡ (2 ^ (k + k) - (h * 2 ^ k + 0)) % 2 ^ (k + k)
negate_none k h s =
    let d : ℕ = 2 ^ k - h in
    let f : 2 ^ k ≡ d + h = omega arith in
    let q : 2 ^ (k + k) ≡ (d + h) * 2 ^ k = pow-add 2 k k ∙ ap (λ (z : ℕ). z * 2 ^ k) f in
    let e : 2 ^ (k + k) - (h * 2 ^ k + 0) ≡ d * 2 ^ k = omega arith in
    sym (rw (e, mod-pow-add (d * 2 ^ k) k k, shl-shr d k, mul-mod_left d (2 ^ k)))

negate_some : (k h l : ℕ) → h < 2 ^ k → 0 < l → l < 2 ^ k → (2 ^ k - 1 - h) * 2 ^ k + (2 ^ k - 1 - l + 1) ≡ (2 ^ (k + k) - (h * 2 ^ k + l)) % 2 ^ (k + k)
negate_some k h l s p r =
    let d : ℕ = 2 ^ k - 1 - h in
    let f : 2 ^ k ≡ d + h + 1 = omega arith in
    let q : 2 ^ (k + k) ≡ (d + h + 1) * 2 ^ k = pow-add 2 k k ∙ ap (λ (z : ℕ). z * 2 ^ k) f in
    let e : 2 ^ (k + k) - (h * 2 ^ k + l) ≡ d * 2 ^ k + (2 ^ k - 1 - l + 1) = omega arith in
    let t : 2 ^ (k + k) - (h * 2 ^ k + l) < 2 ^ (k + k) = omega arith in
    sym (mod-eq_of_lt t ∙ e)

pub negated_none : (p : Pair) → p.hi < 2 ^ 64 → p.lo ≡ 0 → pair (minus 0 p.hi) 0 ≡ negated p
unfolding negated
negated_none p s e = rw (e, zero-add) (digits _ 0 _ (omega arith) (negate_none 64 p.hi s))

pub negated_some : (p : Pair) → p.hi < 2 ^ 64 → 0 < p.lo → p.lo < 2 ^ 64 → pair (2 ^ 64 - 1 - p.hi) (2 ^ 64 - 1 - p.lo + 1) ≡ negated p
unfolding negated
negated_some p s z t = digits _ _ _ (omega arith) (negate_some 64 p.hi p.lo s z t)

-- ---- the signed product, by whether the signs differ

pub product_minus : (x y : ℕ) → differ (negative 64 x) (negative 64 y) ≡ true → negated (dmultu (magnitude 64 x) (magnitude 64 y)) ≡ doublewords (product 64 x y)
unfolding negated dmultu product signed
product_minus x y e = rw (e, split (magnitude 64 x * magnitude 64 y) 64)

pub product_plus : (x y : ℕ) → differ (negative 64 x) (negative 64 y) ≡ false → dmultu (magnitude 64 x) (magnitude 64 y) ≡ doublewords (product 64 x y)
unfolding dmultu product signed
product_plus x y e = rw e
