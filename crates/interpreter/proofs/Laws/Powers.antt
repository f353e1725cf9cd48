-- Powers of two, shifts and complements.
use Rattle.std.proofs.Common.{◌≡◌, ℕ, ◌+◌, ◌-◌, ◌*◌, ◌/◌, ◌%◌, ◌^◌, ◌<◌, ◌≤◌, ap, ◌∙◌, lt_of_le_of_lt, le_of_lt, mod-lt, mul-le-mul_left, mul-lt-mul_of_pos_right, one-mul, arith, lit<, pow_pos, pow-add, shl_exact, shr_lt}
use lib.Arith.{digits_div}
use lib.Pow.{pow-lt, split, shr_mono, shl-shr}

-- 1 << k
pub one_shl : (k : ℕ) → k < 64 → 1 * 2 ^ k % 2 ^ 64 ≡ 2 ^ k
one_shl k h = shl_exact 1 k 64 (lit< tt) (omega arith) ∙ one-mul (2 ^ k)

pub pow_small : (k : ℕ) → k < 64 → 2 ^ k < 2 ^ 64
pow_small k h = pow-lt h

-- the complement of x, shifted down: over any number of bits
pub not_shr : (j k x : ℕ) → x < 2 ^ (j + k) → (2 ^ (j + k) - 1 - x) / 2 ^ k ≡ 2 ^ j - 1 - x / 2 ^ k
not_shr j k x h =
    let q : ℕ = x / 2 ^ k in
    let r : ℕ = x % 2 ^ k in
    let e : q * 2 ^ k + r ≡ x = split x k in
    let p : 2 ^ (j + k) ≡ 2 ^ j * 2 ^ k = pow-add 2 j k in
    let ql : q < 2 ^ j = shr_lt j k h in
    let rl : r < 2 ^ k = mod-lt x (pow_pos k) in
    let d : ℕ = 2 ^ j - 1 - q in
    let f : 2 ^ j ≡ d + q + 1 = omega arith in
    let m : 2 ^ j * 2 ^ k ≡ (d + q + 1) * 2 ^ k = ap (λ (z : ℕ). z * 2 ^ k) f in
    let s : 2 ^ (j + k) - 1 - x ≡ d * 2 ^ k + (2 ^ k - 1 - r) = omega (arith, m, e, p, rl) in
    ap (λ (z : ℕ). z / 2 ^ k) s ∙ digits_div d {m = 2 ^ k} {r = 2 ^ k - 1 - r} (omega (arith, rl))

-- a number of j + k bits or more, shifted down by k, has j bits or more
pub shr_ge : (j k x : ℕ) → 2 ^ (j + k) ≤ x → 2 ^ j ≤ x / 2 ^ k
shr_ge j k x h = rw (← shl-shr (2 ^ j) k, ← pow-add 2 j k) (shr_mono k h)

-- the product of two numbers of k bits has 2 k bits
pub product_small : (k : ℕ) {a b : ℕ} → a < 2 ^ k → b < 2 ^ k → a * b < 2 ^ (k + k)
product_small k {a} {b} ha hb = rw (pow-add 2 k k) (lt_of_le_of_lt (mul-le-mul_left a (le_of_lt hb)) (mul-lt-mul_of_pos_right ha (pow_pos k)))
