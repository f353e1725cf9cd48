-- What the loads by a slice and a count answer.
use Rattle.std.proofs.Common.{◌≡◌, ℕ, ◌%◌, ◌<◌, ◌≤◌, List, le-ltb, lt-ltb, eq-eqb, ne_eqb, Ok, Err}
use Rattle.pages.specs.Bytes.{big}
use Rattle.pages.specs.Pages.{whole, byte_at}
use Rattle.pages.specs.Calls.{get_def}
use Rattle.pages.specs.declared.memory.LoadError.TheVariants.{Misaligned, Overused}

module _ (n : ℕ) (p : List ℕ) (used a : ℕ) where
  pub get_misaligned : (a % n ≡ 0 → ⊥) → Err Misaligned ≡ get_def n p used a
  unfolding get_def
  get_misaligned h = rw (ne_eqb _ _ h)

  pub get_over : a % n ≡ 0 → whole p < used → Err Overused ≡ get_def n p used a
  unfolding get_def
  get_over al h = rw (eq-eqb _ _ al, lt-ltb _ _ h)

  pub get_fits : {v : ℕ} → a % n ≡ 0 → used ≤ whole p → v ≡ big n (byte_at p used) a → Ok v ≡ get_def n p used a
  unfolding get_def
  get_fits al h e = rw (eq-eqb _ _ al, le-ltb _ _ h, e)
