-- Words and doublewords: their size, and that an aligned one lies in one page.
use Rattle.std.proofs.Common.{◌≡◌, ℕ, ◌+◌, ◌%◌, ◌<◌, ◌≤◌, ◌⊎◌, inl, inr, arith}

pub positive : {n : ℕ} → (n ≡ 4) ⊎ (n ≡ 8) → 0 < n
positive (inl e) = omega arith
positive (inr e) = omega arith

pub in_page : {n : ℕ} (a : ℕ) → (n ≡ 4) ⊎ (n ≡ 8) → a % n ≡ 0 → a % 4096 + n ≤ 4096
in_page {n} a (inl e) h = let k : a % 4 ≡ 0 = rw e at h in rw e (omega arith)
in_page {n} a (inr e) h = let k : a % 8 ≡ 0 = rw e at h in rw e (omega arith)
