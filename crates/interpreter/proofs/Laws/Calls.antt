-- Rounding up to a multiple of 4,096.
use Rattle.std.proofs.Common.{◌≡◌, ℕ, ◌+◌, ◌*◌, ◌/◌, ◌%◌, ◌^◌, arith}

-- the wrapped sum may be rounded, since 2^64 is a multiple of 4,096
pub rounding : (n : ℕ) → (n + 4095) % 2 ^ 64 / 4096 * 4096 ≡ (n + 4095) / 4096 * 4096 % 2 ^ 64
rounding n = omega arith
