-- Which record holds a page.
use Rattle.std.proofs.Common.{◌≡◌, ℕ, zero, suc, ◌+◌, ◌-◌, ◌*◌, ◌/◌, ◌%◌, ◌<◌, ◌≤◌, Bool, true, false, cond, eqb, ltb, List, length, sym, refl, ap, ◌∙◌, add-zero, zero-add, add-one, arith, ltb-false, le-ltb, lt-ltb, eq-eqb, ne_eqb, eqb-true, Option, Some, None, Result, Ok, Err}
use Rattle.pages.specs.Pages.{whole, number_of, first_record, lookup}
use Rattle.pages.specs.Places.{place_of, to_place}
use Rattle.pages.specs.declared.page.PageError.{PageError}
use Rattle.pages.specs.declared.page.PageError.TheVariants.{Overused}

-- ---- the lookup, record by record

module _ (p : List ℕ) (used x : ℕ) where
  pub lookup_in : used ≤ whole p → lookup p used x ≡ Ok (first_record p x used 0)
  unfolding lookup
  lookup_in h = rw (le-ltb _ _ h)

  pub lookup_out : whole p < used → lookup p used x ≡ Err Overused
  unfolding lookup
  lookup_out h = rw (lt-ltb _ _ h)

  pub first_here : (i : ℕ) → i < used → number_of p i ≡ x → first_record p x (used - i) i ≡ Some i
  unfolding first_record
  first_here i h e =
      let s : used - i ≡ suc (used - suc i) = omega arith in
      rw (s, eq-eqb _ _ e)

  pub first_next : (i : ℕ) → i < used → (number_of p i ≡ x → ⊥) → first_record p x (used - i) i ≡ first_record p x (used - (i + 1)) (i + 1)
  unfolding first_record
  first_next i h e =
      let s : used - i ≡ suc (used - (i + 1)) = omega arith in
      rw (s, ne_eqb _ _ e, add-one)

  pub first_none : (i : ℕ) → used ≤ i → first_record p x (used - i) i ≡ None
  unfolding first_record
  first_none i h =
      let s : used - i ≡ 0 = omega arith in
      rw s

-- ---- what was found is a used record, and has the number

pub first_at : (p : List ℕ) (x n i j : ℕ) → first_record p x n i ≡ Some j → (i ≤ j) × (j < i + n) × (number_of p j ≡ x)
unfolding first_record
first_at p x zero i j e = let z : ◌≡◌ {A = ℕ} 0 1 = cc in omega arith
first_at p x (suc n) i j e = go (eqb (number_of p i) x) refl e (first_at p x n (suc i) j)
  where
    go : (b : Bool) → eqb (number_of p i) x ≡ b → cond b (Some i) (first_record p x n (suc i)) ≡ Some j
        → (first_record p x n (suc i) ≡ Some j → (suc i ≤ j) × (j < suc i + n) × (number_of p j ≡ x)) → (i ≤ j) × (j < i + suc n) × (number_of p j ≡ x)
    go true q e ih =
        let s : i ≡ j = cc in
        (omega arith, omega arith, ap (number_of p) (sym s) ∙ eqb-true _ _ q)
    go false q e ih = let r = ih e in (omega arith, omega arith, r.2)

ok_same : {f g : Option ℕ} → ◌≡◌ {A = Result (Option ℕ) PageError} (Ok f) (Ok g) → f ≡ g
ok_same e = cc

-- what was looked up and found is a used record, and has the number
pub found_at : (p : List ℕ) (used x j : ℕ) → lookup p used x ≡ Ok (Some j) → (j < used) × (used ≤ whole p) × (number_of p j ≡ x)
unfolding lookup
found_at p used x j e = go (ltb (whole p) used) refl e
  where
    go : (b : Bool) → ltb (whole p) used ≡ b → cond b (Err Overused) (Ok (first_record p x used 0)) ≡ Ok (Some j) → (j < used) × (used ≤ whole p) × (number_of p j ≡ x)
    go true q e = let z : ◌≡◌ {A = ℕ} 0 1 = cc in omega arith
    go false q e = let r = first_at p x used 0 j (ok_same e) in (omega arith, ltb-false _ _ q, r.2)

-- ---- places

-- from a place on stands the rest of its page
pub place_inside : (p : List ℕ) (used a k : ℕ) {r : Option ℕ} → r ≡ place_of p used a → r ≡ Some k → k + 4096 ≤ length p + a % 4096
unfolding place_of
place_inside p used a k e t = go (lookup p used (a / 4096)) refl (sym e ∙ t)
  where
    go : (f : Result (Option ℕ) PageError) → lookup p used (a / 4096) ≡ f → to_place (a % 4096) f ≡ Some k → k + 4096 ≤ length p + a % 4096
    go (Ok (Some i)) q e =
        let s : i * 4104 + 8 + a % 4096 ≡ k = cc in
        let r = found_at p used (a / 4096) i q in
        omega arith
    go (Ok None) q e = let z : ◌≡◌ {A = ℕ} 0 1 = cc in omega arith
    go (Err x) q e = let z : ◌≡◌ {A = ℕ} 0 1 = cc in omega arith

pub lookup_fine : (p : List ℕ) (used x : ℕ) {e : PageError} → used ≤ whole p → lookup p used x ≡ Err e → ⊥
lookup_fine p used x h e = let q = sym (lookup_in p used x h) ∙ e in let z : ◌≡◌ {A = ℕ} 0 1 = cc in omega arith

-- ---- the lookup depends on the numbers of the used records alone

pub first_record_ext : (p q : List ℕ) (x n i : ℕ) → ((k : ℕ) → k < i + n → number_of q k ≡ number_of p k) → first_record q x n i ≡ first_record p x n i
unfolding first_record
first_record_ext p q x zero i h = refl
first_record_ext p q x (suc n) i h =
    let ih : first_record q x n (suc i) ≡ first_record p x n (suc i) = first_record_ext p q x n (suc i) (λ k l. h k (omega arith)) in
    let e : number_of q i ≡ number_of p i = h i (omega arith) in
    rw (ih, e)

pub lookup_ext : (p q : List ℕ) (used x : ℕ) → length q ≡ length p → ((k : ℕ) → k < used → number_of q k ≡ number_of p k) → lookup q used x ≡ lookup p used x
unfolding lookup
lookup_ext p q used x l h =
    let e : first_record q x used 0 ≡ first_record p x used 0 = first_record_ext p q x used 0 (λ k m. h k (omega arith)) in
    rw (e, l)

-- ---- one record more to look at

abbrev pub or_else : Option ℕ → Option ℕ → Option ℕ
or_else (Some j) d = Some j
or_else None d = d

pub first_snoc : (p : List ℕ) (x n i : ℕ) → first_record p x (suc n) i ≡ or_else (first_record p x n i) (cond (eqb (number_of p (i + n)) x) (Some (i + n)) None)
unfolding first_record
first_snoc p x zero i = rw add-zero
first_snoc p x (suc n) i =
    let e : suc i + n ≡ i + suc n = omega arith in
    rw (first_snoc p x n (suc i)) (go (eqb (number_of p i) x) e)
  where
    go : (b : Bool) → suc i + n ≡ i + suc n
        → cond b (Some i) (or_else (first_record p x n (suc i)) (cond (eqb (number_of p (suc i + n)) x) (Some (suc i + n)) None))
        ≡ or_else (cond b (Some i) (first_record p x n (suc i))) (cond (eqb (number_of p (i + suc n)) x) (Some (i + suc n)) None)
    go true e = refl
    go false e = rw e

-- ---- the first of several records with one number decides

first_from : (p : List ℕ) (x j m s : ℕ) → j < m → number_of p (s + j) ≡ x → ((k : ℕ) → k < s + j → number_of p k ≡ x → ⊥) → first_record p x m s ≡ Some (s + j)
unfolding first_record
first_from p x j zero s l e n = absurd (omega arith)
first_from p x zero (suc m) s l e n = rw (eq-eqb _ _ (ap (number_of p) (sym (add-zero s)) ∙ e)) (ap Some (sym (add-zero s)))
first_from p x (suc j) (suc m) s l e n =
    let d : suc s + j ≡ s + suc j = omega arith in
    rw (ne_eqb _ _ (n s (omega arith)), ← d) (first_from p x j m (suc s) (omega arith) (rw d e) (λ k o. n k (omega arith)))

pub first_decides : (p : List ℕ) (used x i : ℕ) → used ≤ whole p → i < used → number_of p i ≡ x → ((k : ℕ) → k < i → number_of p k ≡ x → ⊥)
    → lookup p used x ≡ Ok (Some i)
first_decides p used x i h l e n =
    let z = zero-add i in
    lookup_in p used x h ∙ ap Ok (first_from p x i used 0 l (ap (number_of p) z ∙ e) (λ k m. n k (omega arith)) ∙ ap Some z)
