-- Loads and stores of the page memory, as the step uses them.
use Rattle.std.proofs.Common.{◌≡◌, ℕ, ◌+◌, ◌%◌, Bool, true, false, cond, eqb, ltb, List, sym, refl, ap, ◌∙◌, eq-eqb, Option, Some, None, Result, Ok, Err}
use Rattle.pages.specs.Bytes.{big, bytes_of}
use Rattle.pages.specs.Pages.{whole, lookup, byte_at}
use Rattle.pages.specs.Calls.{Set, stored, get_def, store_in, store_def, set_def}
use Rattle.std.specs.Result.{result_unwrap_or}
use Rattle.pages.specs.declared.page.PageError.{PageError}
use Rattle.pages.specs.declared.memory.LoadError.{LoadError}
use Rattle.pages.specs.declared.memory.LoadError.TheVariants.{Overused}
use Rattle.pages.specs.declared.memory.StoreError.{StoreError}
use Rattle.pages.specs.declared.memory.StoreError.TheVariants.{Misaligned, Full}
use Rattle.pages.proofs.Laws.Numbers.{big_none}
use Rattle.interpreter.specs.Plan.{Store, keeps, stores}
use Rattle.interpreter.specs.Step.{putting}
use Rattle.interpreter.proofs.Laws.Tests.{no_true}

-- ---- loads: where more records are said to be used than there are, the memory is zero

overused : (p : List ℕ) (u b : ℕ) → ltb (whole p) u ≡ true → byte_at p u b ≡ 0
unfolding byte_at lookup
overused p u b e = rw e

loaded_by : (n : ℕ) (p : List ℕ) (u a : ℕ) (t : Bool) → ltb (whole p) u ≡ t
    → result_unwrap_or (cond t (Err Overused) (Ok (big n (byte_at p u) a))) 0 ≡ big n (byte_at p u) a
loaded_by n p u a true e = sym (big_none n (byte_at p u) a (λ k h. overused p u (a + k) e))
loaded_by n p u a false e = refl

-- what a load at an aligned address gives
pub loaded : (n : ℕ) (p : List ℕ) (u a : ℕ) {r : Result ℕ LoadError} → a % n ≡ 0 → r ≡ get_def n p u a → result_unwrap_or r 0 ≡ big n (byte_at p u) a
unfolding get_def
loaded n p u a h e = rw (e, eq-eqb _ _ h) (loaded_by n p u a (ltb (whole p) u) refl)

-- ---- stores: one that is refused leaves every byte

abbrev pub is_used : Result ℕ StoreError → Bool
is_used (Ok u) = true
is_used (Err e) = false

-- the pages where nothing was stored
abbrev Leaves : List ℕ → Set → Type 0
Leaves p s = is_used s.answer ≡ false → s.pages ≡ p

absent_leaves : (p q : List ℕ) (u v : ℕ) (t : Bool) → Leaves p (cond t (stored (Ok v) q) (stored (Err Full) p))
absent_leaves p q u v true e = no_true e
absent_leaves p q u v false e = refl

store_leaves : (p : List ℕ) (u a : ℕ) (vs : List ℕ) (f : Result (Option ℕ) PageError) → Leaves p (store_in p u a vs f)
store_leaves p u a vs (Ok (Some i)) = λ e. no_true e
store_leaves p u a vs (Ok None) = absent_leaves p _ u (u + 1) (ltb u (whole p))
store_leaves p u a vs (Err z) = λ e. refl

set_leaves : (n : ℕ) (p : List ℕ) (u a v : ℕ) (t : Bool) → Leaves p (cond t (store_def p u a (bytes_of n v)) (stored (Err Misaligned) p))
unfolding store_def
set_leaves n p u a v true = store_leaves p u a (bytes_of n v) (lookup p u _)
set_leaves n p u a v false = λ e. refl

pub put_leaves : (p : List ℕ) (u : ℕ) (s : Store) → Leaves p (putting p u s)
unfolding set_def
put_leaves p u keeps = λ e. refl
put_leaves p u (stores a x) = set_leaves 8 p u a x (eqb (a % 8) 0)

-- the same of what a store answered and left
pub unstored : (p : List ℕ) (u : ℕ) (s : Store) {r g : Result ℕ StoreError} {q : List ℕ} → stored r q ≡ putting p u s → r ≡ g → is_used g ≡ false → q ≡ p
unstored p u s {r} {g} {q} e h f = ap (λ (z : Set). z.pages) e ∙ put_leaves p u s (ap (λ (z : Set). is_used z.answer) (sym e) ∙ ap is_used h ∙ f)
