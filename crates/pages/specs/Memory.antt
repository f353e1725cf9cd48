-- A memory: the byte at each address.
use Rattle.std.specs.Prelude.{ℕ, ◌-◌, ◌%◌, ◌^◌, cond, List, length, nat_le, nat_lt}
use Rattle.pages.specs.Bytes.{cell, row}

abbrev pub Memory : Type 0
Memory = ℕ → ℕ

-- the memory with the bytes vs written from address a on
unfoldable pub write : Memory → ℕ → List ℕ → Memory
write m a vs b = cond (nat_le a b) (cond (nat_lt (b - a) (length vs)) (cell vs (b - a)) (m b)) (m b)

-- the n bytes from address a on, where the address after 2^64 - 1 is 0
unfoldable pub span : Memory → ℕ → ℕ → List ℕ
span m a n = row (λ b. m (b % 2 ^ 64)) a n
