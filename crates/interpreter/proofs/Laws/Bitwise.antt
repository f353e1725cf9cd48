-- The bits of the definitions, one by one, are those of the code's |, & and ^.
use Rattle.std.proofs.Common.{◌≡◌, ℕ, zero, suc, ◌+◌, ◌*◌, ◌/◌, ◌%◌, ◌^◌, ◌<◌, min, max, ap, ◌∙◌, pow-suc, arith}
use lib.Bits.{differ, bit_and, bit_or, bit_xor, and_step, or_step, xor_step, and_zero_l, or_zero_l, xor_zero_l}
use Rattle.interpreter.specs.Words.{bitwise, and, or, xor}

-- an operation that goes by f on the lowest bits, and gives 0 of 0 and 0, over the number of bits
module _ (g f : ℕ → ℕ → ℕ) (none : g 0 0 ≡ 0) (step : (x y : ℕ) → g x y ≡ g (x / 2) (y / 2) * 2 + f (x % 2) (y % 2)) where
  bitwise_is : (n x y : ℕ) → x < 2 ^ n → y < 2 ^ n → g x y ≡ bitwise f n x y
  unfolding bitwise
  bitwise_is zero x y h l =
      let a : x ≡ 0 = omega arith in
      let b : y ≡ 0 = omega arith in
      rw (a, b) none
  bitwise_is (suc n) x y h l =
      let p = pow-suc 2 n in
      let ih : g (x / 2) (y / 2) ≡ bitwise f n (x / 2) (y / 2) = bitwise_is n (x / 2) (y / 2) (omega arith) (omega arith) in
      rw (step x y, ih)

pub and_is : (x y : ℕ) → x < 2 ^ 64 → y < 2 ^ 64 → bit_and x y ≡ and x y
and_is x y h l = bitwise_is bit_and min (and_zero_l 0) and_step 64 x y h l

pub or_is : (x y : ℕ) → x < 2 ^ 64 → y < 2 ^ 64 → bit_or x y ≡ or x y
or_is x y h l = bitwise_is bit_or max (or_zero_l 0) or_step 64 x y h l

pub xor_is : (x y : ℕ) → x < 2 ^ 64 → y < 2 ^ 64 → bit_xor x y ≡ xor x y
xor_is x y h l =
    bitwise_is bit_xor (λ a b. (a + b) % 2) (xor_zero_l 0)
    (λ a b. xor_step a b ∙ ap (λ (d : ℕ). bit_xor (a / 2) (b / 2) * 2 + d) (odd (a % 2) (b % 2) (omega arith) (omega arith))) 64 x y h l
  where
    odd : (a b : ℕ) → a < 2 → b < 2 → differ a b ≡ (a + b) % 2
    odd zero b h l = omega arith
    odd (suc zero) zero h l = omega arith
    odd (suc zero) (suc zero) h l = omega arith
    odd (suc zero) (suc (suc b)) h l = absurd (omega arith)
    odd (suc (suc a)) b h l = absurd (omega arith)
