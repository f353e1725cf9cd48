-- What a store answers and leaves, by the page that it meets.
use Rattle.std.proofs.Common.{◌≡◌, ℕ, ◌+◌, ◌*◌, ◌/◌, ◌%◌, ◌<◌, ◌≤◌, Bool, true, false, cond, eqb, ◌↔◌, List, length, sym, refl, ap, ◌∙◌, arith, le-ltb, lt-ltb, eq-eqb, ne_eqb, eqb-true, Option, Some, None, Result, Ok, Err}
use native.Mathlib.Decide.{dec_lt}
use lib.Seq.{sets, length-sets}
use Rattle.pages.specs.Bytes.{bytes_of, zeros}
use Rattle.pages.specs.Pages.{whole, lookup, open_page}
use Rattle.pages.specs.Places.{place_of, to_place}
use Rattle.pages.specs.Calls.{Set, stored, store_in, store_def, set_def}
use Rattle.pages.specs.declared.page.PageError.{PageError}
use Rattle.pages.specs.declared.memory.StoreError.{StoreError}
use Rattle.pages.specs.declared.memory.StoreError.TheVariants.{Misaligned, Overused, Full}
use Rattle.pages.proofs.Laws.Runs.{Bytes, row_bytes, sets_bytes}
use Rattle.pages.proofs.Laws.Numbers.{bytes_bytes}
use Rattle.pages.proofs.Laws.Lookups.{lookup_out, lookup_fine}

pub used_same : {u v : ℕ} → ◌≡◌ {A = Result ℕ StoreError} (Ok u) (Ok v) → u ≡ v
used_same e = cc

-- no refusal is an answer of a used count
pub used_refused : {u : ℕ} {x : StoreError} → ◌≡◌ {A = Result ℕ StoreError} (Err x) (Ok u) → ⊥
used_refused e = let z : ◌≡◌ {A = ℕ} 0 1 = cc in omega arith

found_absent : {i : ℕ} → ◌≡◌ {A = Result (Option ℕ) PageError} (Ok (Some i)) (Ok None) → ⊥
found_absent e = let z : ◌≡◌ {A = ℕ} 0 1 = cc in omega arith

pub length_open : (p : List ℕ) (i x : ℕ) → length (open_page p i x) ≡ length p
unfolding open_page
length_open p i x = length-sets (sets p (i * 4104) (bytes_of 8 x)) (i * 4104 + 8) (zeros 4096) ∙ length-sets p (i * 4104) (bytes_of 8 x)

open_bytes : (p : List ℕ) (i x : ℕ) → Bytes p → Bytes (open_page p i x)
unfolding open_page
open_bytes p i x h =
    sets_bytes (sets p (i * 4104) (bytes_of 8 x)) (i * 4104 + 8) (zeros 4096) (sets_bytes p (i * 4104) (bytes_of 8 x) h (bytes_bytes 8 x))
    (row_bytes (λ _. 0) 0 4096 (λ k. omega arith))

module _ (p : List ℕ) (used a : ℕ) (vs : List ℕ) where
  store_by : {f : Result (Option ℕ) PageError} → lookup p used (a / 4096) ≡ f → store_def p used a vs ≡ store_in p used a vs f
  unfolding store_def
  store_by e = ap (store_in p used a vs) e

  -- to a page that is held
  pub store_held : {i : ℕ} → lookup p used (a / 4096) ≡ Ok (Some i) → store_def p used a vs ≡ stored (Ok used) (sets p (i * 4104 + 8 + a % 4096) vs)
  store_held e = store_by e

  -- to an absent page: the next record is opened
  pub store_opened : lookup p used (a / 4096) ≡ Ok None → used < whole p
      → store_def p used a vs ≡ stored (Ok (used + 1)) (sets (open_page p used (a / 4096)) (used * 4104 + 8 + a % 4096) vs)
  store_opened e h = store_by e ∙ rw (lt-ltb _ _ h)

  -- to an absent page, and no record is left
  pub store_full : lookup p used (a / 4096) ≡ Ok None → whole p ≤ used → store_def p used a vs ≡ stored (Err Full) p
  store_full e h = store_by e ∙ rw (le-ltb _ _ h)

  -- ---- the four ways that a store can end

  -- what is shown of each is true of every store
  pub store_cases : (P : Set → Type 0)
      → ((i : ℕ) → lookup p used (a / 4096) ≡ Ok (Some i) → P (stored (Ok used) (sets p (i * 4104 + 8 + a % 4096) vs)))
      → (lookup p used (a / 4096) ≡ Ok None → used < whole p → P (stored (Ok (used + 1)) (sets (open_page p used (a / 4096)) (used * 4104 + 8 + a % 4096) vs)))
      → (lookup p used (a / 4096) ≡ Ok None → whole p ≤ used → P (stored (Err Full) p))
      → ((x : PageError) → lookup p used (a / 4096) ≡ Err x → P (stored (Err Overused) p))
      → P (store_def p used a vs)
  store_cases P held opened full over = go (lookup p used (a / 4096)) refl
    where
      absent : lookup p used (a / 4096) ≡ Ok None → Dec (used < whole p) → P (store_def p used a vs)
      absent e (yes h) = rw (store_opened e h) (opened e h)
      absent e (no h) = rw (store_full e (omega arith)) (full e (omega arith))

      go : (f : Result (Option ℕ) PageError) → lookup p used (a / 4096) ≡ f → P (store_def p used a vs)
      go (Ok (Some i)) e = rw (store_held e) (held i e)
      go (Ok None) e = absent e (dec_lt used (whole p))
      go (Err x) e = rw (store_by e) (over x e)

  pub store_length : length (store_def p used a vs).pages ≡ length p
  store_length =
      store_cases (λ s. length s.pages ≡ length p)
      (λ i e. length-sets p (i * 4104 + 8 + a % 4096) vs)
      (λ e h. length-sets (open_page p used (a / 4096)) (used * 4104 + 8 + a % 4096) vs ∙ length_open p used (a / 4096))
      (λ e h. refl) (λ x e. refl)

  pub store_bytes : Bytes p → Bytes vs → Bytes (store_def p used a vs).pages
  store_bytes h g =
      store_cases (λ s. Bytes s.pages)
      (λ i e. sets_bytes p (i * 4104 + 8 + a % 4096) vs h g)
      (λ e l. sets_bytes (open_page p used (a / 4096)) (used * 4104 + 8 + a % 4096) vs (open_bytes p used (a / 4096) h) g)
      (λ e l. h) (λ x e. h)

  -- the used count grows by one exactly when a page was opened
  pub used_grows : (u : ℕ) (q : List ℕ) → store_def p used a vs ≡ stored (Ok u) q → (u ≡ used + 1) ↔ (lookup p used (a / 4096) ≡ Ok None)
  used_grows u q s =
      store_cases (λ t. t ≡ stored (Ok u) q → (u ≡ used + 1) ↔ (lookup p used (a / 4096) ≡ Ok None))
      (λ i e t. let n = used_same (ap (λ (r : Set). r.answer) t) in ((λ g. absurd (omega arith)), (λ g. absurd (found_absent (sym e ∙ g)))))
      (λ e h t. ((λ g. e), (λ g. sym (used_same (ap (λ (r : Set). r.answer) t)))))
      (λ e h t. absurd (used_refused (ap (λ (r : Set). r.answer) t)))
      (λ x e t. absurd (used_refused (ap (λ (r : Set). r.answer) t)))
      s

-- ---- the same at the width of a call

module _ (n : ℕ) (p : List ℕ) (used a v : ℕ) where
  pub set_aligned : a % n ≡ 0 → set_def n p used a v ≡ store_def p used a (bytes_of n v)
  unfolding set_def
  set_aligned h = rw (eq-eqb _ _ h)

  -- a call that stored was aligned
  pub set_stored : {u : ℕ} {q : List ℕ} → set_def n p used a v ≡ stored (Ok u) q → (a % n ≡ 0) × (store_def p used a (bytes_of n v) ≡ stored (Ok u) q)
  unfolding set_def
  set_stored {u} {q} s = go (eqb (a % n) 0) refl s
    where
      go : (b : Bool) → eqb (a % n) 0 ≡ b → cond b (store_def p used a (bytes_of n v)) (stored (Err Misaligned) p) ≡ stored (Ok u) q
          → (a % n ≡ 0) × (store_def p used a (bytes_of n v) ≡ stored (Ok u) q)
      go true e s = (eqb-true _ _ e, s)
      go false e s = absurd (used_refused (ap (λ (r : Set). r.answer) s))

  set_all : (P : Set → Type 0) → P (store_def p used a (bytes_of n v)) → P (stored (Err Misaligned) p) → P (set_def n p used a v)
  unfolding set_def
  set_all P f g = go (eqb (a % n) 0)
    where
      go : (b : Bool) → P (cond b (store_def p used a (bytes_of n v)) (stored (Err Misaligned) p))
      go true = f
      go false = g

  pub set_length : length (set_def n p used a v).pages ≡ length p
  set_length = set_all (λ s. length s.pages ≡ length p) (store_length p used a (bytes_of n v)) refl

  pub set_bytes : Bytes p → Bytes (set_def n p used a v).pages
  set_bytes h = set_all (λ s. Bytes s.pages) (store_bytes p used a (bytes_of n v) h (bytes_bytes n v)) h

  -- a refusal changes no byte
  pub set_refused : (((u : ℕ) → (set_def n p used a v).answer ≡ Ok u → ⊥)) → (set_def n p used a v).pages ≡ p
  set_refused =
      set_all (λ s. ((u : ℕ) → s.answer ≡ Ok u → ⊥) → s.pages ≡ p)
      (store_cases p used a (bytes_of n v) (λ s. ((u : ℕ) → s.answer ≡ Ok u → ⊥) → s.pages ≡ p)
      (λ i e h. absurd (h used refl)) (λ e l h. absurd (h (used + 1) refl)) (λ e l h. refl) (λ x e h. refl))
      (λ h. refl)

-- ---- a store by the place of its address

module _ (p : List ℕ) (used a : ℕ) (vs : List ℕ) where
  pub put_held : {r : Option ℕ} {k : ℕ} {q : List ℕ} → r ≡ place_of p used a → r ≡ Some k → q ≡ sets p k vs → stored (Ok used) q ≡ store_def p used a vs
  unfolding place_of store_def
  put_held {r} {k} e t w = ap (stored (Ok used)) w ∙ go (lookup p used (a / 4096)) (sym e ∙ t)
    where
      go : (f : Result (Option ℕ) PageError) → to_place (a % 4096) f ≡ Some k → stored (Ok used) (sets p k vs) ≡ store_in p used a vs f
      go (Ok (Some i)) e = let s : i * 4104 + 8 + a % 4096 ≡ k = cc in rw s
      go (Ok None) e = let z : ◌≡◌ {A = ℕ} 0 1 = cc in absurd (omega arith)
      go (Err x) e = let z : ◌≡◌ {A = ℕ} 0 1 = cc in absurd (omega arith)

  -- where no place is and the used records are there, the page is absent
  absent : {r : Option ℕ} → used ≤ whole p → r ≡ place_of p used a → r ≡ None → lookup p used (a / 4096) ≡ Ok None
  unfolding place_of
  absent h e t = go (lookup p used (a / 4096)) refl (sym e ∙ t)
    where
      go : (f : Result (Option ℕ) PageError) → lookup p used (a / 4096) ≡ f → to_place (a % 4096) f ≡ None → lookup p used (a / 4096) ≡ Ok None
      go (Ok (Some i)) q e = let z : ◌≡◌ {A = ℕ} 0 1 = cc in absurd (omega arith)
      go (Ok None) q e = q
      go (Err x) q e = absurd (lookup_fine p used (a / 4096) h q)

  pub put_full : {r : Option ℕ} → used ≡ whole p → r ≡ place_of p used a → r ≡ None → stored (Err Full) p ≡ store_def p used a vs
  put_full h e t = sym (store_full p used a vs (absent (omega arith) e t) (omega arith))

  pub put_opened : {r : Option ℕ} {o q : List ℕ} {u : ℕ} → used < whole p → r ≡ place_of p used a → r ≡ None → o ≡ open_page p used (a / 4096) → u ≡ used + 1
      → q ≡ sets o (used * 4104 + 8 + a % 4096) vs → stored (Ok u) q ≡ store_def p used a vs
  put_opened h e t o n w = rw (n, w, o) (sym (store_opened p used a vs (absent (omega arith) e t) h))

-- ---- a call by a slice and a count

module _ (n : ℕ) (p : List ℕ) (used a v : ℕ) where
  pub set_misaligned : (a % n ≡ 0 → ⊥) → stored (Err Misaligned) p ≡ set_def n p used a v
  unfolding set_def
  set_misaligned h = rw (ne_eqb _ _ h)

  pub set_over : a % n ≡ 0 → whole p < used → stored (Err Overused) p ≡ set_def n p used a v
  set_over al h = sym (set_aligned n p used a v al ∙ store_by p used a (bytes_of n v) (lookup_out p used (a / 4096) h))
