-- The checker's answer is the first number in document 01's order whose condition holds.
use Rattle.std.proofs.Common.{◌≡◌, refl, sym, ap, ◌∙◌, Bool, true, false, cond, List, [], ◌∷◌, ◌↔◌, ℕ, ◌+◌, ◌≤◌, ◌<◌, arith, eqb, length}
use Rattle.std.proofs.Math.Decide.{dec_lt}
use Rattle.checker.specs.declared.verdict.Fault.{Fault}
use Rattle.checker.specs.declared.verdict.Fault.TheVariants.{Length, Form, AlreadyExited, StepRefused, WideStep, Touch, Result}
use Rattle.checker.specs.Verdicts.{Refused}
use Rattle.checker.specs.Verdicts.{fault_number}
use Rattle.checker.specs.Check.{applies, first_fault, order, check_def}
use Rattle.checker.proofs.Laws.Same.{refused_not}

-- ---- a number says which fault it is

abbrev fault_of : ℕ → Fault
fault_of n =
    cond (eqb n 21) Length
    (cond (eqb n 22) Form
    (cond (eqb n 23) AlreadyExited
    (cond (eqb n 24) StepRefused
    (cond (eqb n 25) WideStep
    (cond (eqb n 26) Touch Result)))))

fault_of_lem : (f : Fault) → fault_of (fault_number f) ≡ f
unfolding fault_number
fault_of_lem Length = refl
fault_of_lem Form = refl
fault_of_lem AlreadyExited = refl
fault_of_lem StepRefused = refl
fault_of_lem WideStep = refl
fault_of_lem Touch = refl
fault_of_lem Result = refl

fault_same : (f g : Fault) → fault_number f ≡ fault_number g → f ≡ g
fault_same f g e = sym (fault_of_lem f) ∙ ap fault_of e ∙ fault_of_lem g

fault_range : (f : Fault) → (21 ≤ fault_number f) × (fault_number f < 28)
unfolding fault_number
fault_range Length = (omega arith, omega arith)
fault_range Form = (omega arith, omega arith)
fault_range AlreadyExited = (omega arith, omega arith)
fault_range StepRefused = (omega arith, omega arith)
fault_range WideStep = (omega arith, omega arith)
fault_range Touch = (omega arith, omega arith)
fault_range Result = (omega arith, omega arith)

-- ---- a list whose numbers count from n on

abbrev Counts : ℕ → List Fault → Type 0
Counts n [] = Unit {0}
Counts n (f ∷ fs) = (fault_number f ≡ n) × Counts (n + 1) fs

order_counts : Counts 21 order
unfolding fault_number
order_counts = (refl, (refl, (refl, (refl, (refl, (refl, (refl, tt)))))))

refused_same : {f g : Fault} → Refused f ≡ Refused g → f ≡ g
refused_same e = cc

module _ (p : Fault → Bool) (f : Fault) where
  abbrev Least : ℕ → Type 0
  Least n = (p f ≡ true) × (n ≤ fault_number f) × ((g : Fault) → n ≤ fault_number g → fault_number g < fault_number f → p g ≡ false)

  least_more : (n : ℕ) (h : Fault) → fault_number h ≡ n → p h ≡ false → Least (n + 1) → Least n
  least_more n h y e l =
      let k : n + 1 ≤ fault_number f = l.1 in
      (l.0, omega arith, λ g a b. go g b (dec_lt n (fault_number g)) a)
    where
      go : (g : Fault) → fault_number g < fault_number f → Dec (n < fault_number g) → n ≤ fault_number g → p g ≡ false
      go g b (yes q) a = l.2 g (omega arith) b
      go g b (no q) a = ap p (fault_same g h (omega arith)) ∙ e

  least_here : (n : ℕ) (h : Fault) → fault_number h ≡ n → p h ≡ true → h ≡ f → Least n
  least_here n h y e q =
      let k : fault_number f ≡ n = ap fault_number (sym q) ∙ y in
      (ap p (sym q) ∙ e, omega arith, λ g a b. absurd (omega arith))

  first_least : (fs : List Fault) (n : ℕ) → Counts n fs → first_fault p fs ≡ Refused f → Least n
  unfolding first_fault
  first_least [] n c e = refused_not (sym e)
  first_least (h ∷ fs) n c e = go (p h) refl e (first_least fs (n + 1) c.1)
    where
      go : (b : Bool) → p h ≡ b → cond b (Refused h) (first_fault p fs) ≡ Refused f → (first_fault p fs ≡ Refused f → Least (n + 1)) → Least n
      go true y q i = least_here n h c.0 y (refused_same q)
      go false y q i = least_more n h c.0 y (i q)

  least_first : (fs : List Fault) (n : ℕ) → Counts n fs → n ≤ fault_number f → fault_number f < n + length fs → p f ≡ true
      → ((g : Fault) → fault_number g < fault_number f → p g ≡ false) → first_fault p fs ≡ Refused f
  unfolding first_fault
  least_first [] n c a b e l = absurd (omega arith)
  least_first (h ∷ fs) n c a b e l = go (dec_lt n (fault_number f)) (λ k. least_first fs (n + 1) c.1 k (omega arith) e l)
    where
      go : Dec (n < fault_number f) → (n + 1 ≤ fault_number f → first_fault p fs ≡ Refused f) → cond (p h) (Refused h) (first_fault p fs) ≡ Refused f
      go (yes q) i = let y = c.0 in rw (l h (omega arith)) (i (omega arith))
      go (no q) i = let y = c.0 in let k : h ≡ f = fault_same h f (omega arith) in rw (k, e)

pub refused_first : (r : List ℕ) (f : Fault) → (check_def r ≡ Refused f) ↔ ((applies r f ≡ true) × ((g : Fault) → fault_number g < fault_number f → applies r g ≡ false))
unfolding check_def
refused_first r f = (forth, back)
  where
    forth : first_fault (applies r) order ≡ Refused f → (applies r f ≡ true) × ((g : Fault) → fault_number g < fault_number f → applies r g ≡ false)
    forth e = let l = first_least (applies r) f order 21 order_counts e in (l.0, λ g b. l.2 g (fault_range g).0 b)

    back : (applies r f ≡ true) × ((g : Fault) → fault_number g < fault_number f → applies r g ≡ false) → first_fault (applies r) order ≡ Refused f
    back (e, l) = least_first (applies r) f order 21 order_counts (fault_range f).0 (fault_range f).1 e l
