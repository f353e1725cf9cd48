-- How the parts of the checker meet its definition.
use Rattle.std.specs.Prelude.{Ok, Err}
use Rattle.std.proofs.Common.{◌≡◌, refl, sym, ap, ◌∙◌, Bool, true, false, not, cond, List, ℕ, ◌+◌, ◌-◌, ◌*◌, ◌/◌, ◌%◌, ◌≤◌, arith, eqb, length, eq-eqb, ne_eqb, le-leb, Option, Some, None, is_some, Result, Ok, Err, IsErrAnd}
use Rattle.pages.specs.Bytes.{cell, big}
use Rattle.pages.specs.Calls.{number_at}
use Rattle.pages.proofs.Laws.Places.{number_fits}
use Rattle.interpreter.specs.Effects.{Effect}
use Rattle.interpreter.specs.declared.effect.Stop.TheVariants.{Refused as RefusedBy, Call as CallBy}
use Rattle.interpreter.specs.declared.shown.Shown.{Shown}
use Rattle.interpreter.specs.declared.shown.Unshown.{Unshown}
use Rattle.interpreter.specs.declared.shown.Unshown.TheVariants.{Refused as RefusedStep, Wide}
use Rattle.interpreter.specs.declared.state.Cpu.{Cpu}
use Rattle.interpreter.specs.declared.state.State.{State}
use Rattle.interpreter.specs.Machine.{cpu_of, state_of}
use Rattle.interpreter.specs.Plan.{Deed, Plan, does, eight_at}
use Rattle.interpreter.specs.Layout.{formed_at, decode_at, decoded_at}
use Rattle.interpreter.specs.Ideal.{remember}
use Rattle.interpreter.specs.Shown.{Showing, stepped, shown, made_by, unless_refused, made_with, step_shown}
use Rattle.interpreter.proofs.Laws.Tests.{no_true, on, off}
use Rattle.interpreter.proofs.Laws.Shown.{unrefused}
use Rattle.interpreter.proofs.Laws.Narrow.{Narrow, Found, found, shown_found}
use Rattle.checker.specs.declared.verdict.Fault.{Fault}
use Rattle.checker.specs.declared.verdict.Fault.TheVariants.{Length, Form, AlreadyExited, StepRefused, WideStep, Touch as TouchFault, Result as ResultFault}
use Rattle.checker.specs.Verdicts.{Verdict}
use Rattle.checker.specs.Verdicts.{Accepted, Refused, fault_of}
use Rattle.checker.specs.Records.{old_in, new_in, word_in, address_in, old_eight, new_eight, touch_in, memory_in, effect_in, plan_in}
use Rattle.checker.specs.Check.{wrong_length, malformed, exited_in, refuses, refused_in, wide_in, placed, agrees, misplaced, same_state, gives, differs, applies, first_fault, check_def}
use Rattle.checker.specs.Parts.{step_judged, result_judged}
use Rattle.checker.proofs.Laws.Same.{is_state}

cond_not : (b : Bool) {A : Type 0} (x y : A) → cond b x y ≡ cond (not b) y x
cond_not true x y = refl
cond_not false x y = refl

module _ (r : List ℕ) (long : length r ≡ 752) where
  eight_at_lem : (k : ℕ) → k + 8 ≤ 752 → number_at 8 r k ≡ big 8 (cell r) k
  eight_at_lem k h = number_fits 8 r k (omega arith)

  four_at : (k : ℕ) → k + 4 ≤ 752 → number_at 4 r k ≡ big 4 (cell r) k
  four_at k h = number_fits 4 r k (omega arith)

  -- ---- 26

  address_as : {a : ℕ} → a ≡ number_at 8 r 728 → address_in r ≡ a
  unfolding address_in
  address_as y = sym (eight_at_lem 728 (omega arith)) ∙ sym y

  old_as : {o : ℕ} → o ≡ number_at 8 r 736 → old_eight r ≡ o
  unfolding old_eight
  old_as x = sym (eight_at_lem 736 (omega arith)) ∙ sym x

  new_as : {n : ℕ} → n ≡ number_at 8 r 744 → new_eight r ≡ n
  unfolding new_eight
  new_as w = sym (eight_at_lem 744 (omega arith)) ∙ sym w

  module _ {t : Option ℕ} {a : ℕ} (y : a ≡ number_at 8 r 728) where
    pub placed_eight : (b : ℕ) → t ≡ Some b → eqb a b ≡ placed r t
    placed_eight b e = rw (e, address_as y)

    module _ (e : t ≡ None) where
      pub placed_address : (a ≡ 0 → ⊥) → false ≡ placed r t
      placed_address h = rw (e, address_as y, ne_eqb a 0 h)

      module _ (z : a ≡ 0) {o : ℕ} (x : o ≡ number_at 8 r 736) where
        pub placed_old : (o ≡ 0 → ⊥) → false ≡ placed r t
        placed_old h = rw (e, address_as y, eq-eqb a 0 z, old_as x, ne_eqb o 0 h)

        pub placed_new : o ≡ 0 → {n : ℕ} → n ≡ number_at 8 r 744 → eqb n 0 ≡ placed r t
        placed_new h w = rw (e, address_as y, eq-eqb a 0 z, old_as x, eq-eqb o 0 h, new_as w)

  module _ (pc a : ℕ) {t : Option ℕ} {w : ℕ} (y : w ≡ word_in r) (e : t ≡ Some a) where
    cut : pc - pc % 8 ≡ pc / 8 * 8
    cut = omega arith

    pub agrees_elsewhere : (pc - pc % 8 ≡ a → ⊥) → true ≡ agrees r pc t
    agrees_elsewhere h = rw (e, ne_eqb (pc / 8 * 8) a (λ q. h (cut ∙ q)))

    pub agrees_there : pc - pc % 8 ≡ a → {v : ℕ} → v ≡ number_at 4 r (736 + pc % 8) → eqb v w ≡ agrees r pc t
    agrees_there h z = rw (e, eq-eqb (pc / 8 * 8) a (sym cut ∙ h), z, y, four_at (736 + pc % 8) (omega arith))

  -- ---- 27

  module _ (n s : State) (y : ℕ) where
    pub result_state : same_state s n ≡ false → Refused ResultFault ≡ result_judged r n s y
    unfolding result_judged
    result_state z = rw z

    module _ (z : s ≡ n) {v : ℕ} (w : v ≡ number_at 8 r 744) where
      pub result_eight : (y ≡ v → ⊥) → Refused ResultFault ≡ result_judged r n s y
      unfolding result_judged
      result_eight g = rw (z, is_state n, new_as w, ne_eqb y v g)

      pub result_same : y ≡ v → Accepted ≡ result_judged r n s y
      unfolding result_judged
      result_same g = rw (z, is_state n, new_as w, eq-eqb y v g)

-- ---- the step made again

abbrev kind : Result Shown Unshown → ℕ
kind (Err (RefusedStep n)) = 0
kind (Err Wide) = 1
kind (Ok s) = 2

data Said (r : List ℕ) (m : Result Shown Unshown) (l j : List ℕ) : Type 0 where
  stops : refused_in r ≡ true → kind m ≡ 0 → Said r m l j
  moves : refused_in r ≡ false → wide_in r ≡ true → kind m ≡ 1 → Said r m l j
  steps : refused_in r ≡ false → wide_in r ≡ false → (d : Deed) → plan_in r ≡ does d → m ≡ stepped d.cpu (touch_in r) (eight_at (remember (memory_in r) d.store) (touch_in r))
      → l ≡ d.regs → j ≡ d.key → Said r m l j

pub goes_on : (e : Effect) → refuses e ≡ false → unrefused e ≡ true
goes_on (Err (RefusedBy n)) q = no_true q
goes_on (Err CallBy) q = refl
goes_on (Ok c) q = refl

module _ (r : List ℕ) where
  step_made : step_shown (cpu_of (old_in r)) (old_in r).regs (old_in r).key (word_in r) (old_eight r)
      ≡ unless_refused (old_in r).regs (old_in r).key (effect_in r) (cond (wide_in r) (shown (Err Wide) (old_in r).regs (old_in r).key) (made_by (old_in r).regs (old_in r).key (memory_in r) (touch_in r) (plan_in r)))
  unfolding step_shown made_with effect_in plan_in wide_in memory_in touch_in
  step_made = refl

  pub narrow_found : refused_in r ≡ false → wide_in r ≡ false → Found (Narrow (old_in r).regs (old_in r).key (touch_in r)) (plan_in r)
  unfolding refused_in wide_in plan_in touch_in effect_in
  narrow_found e h = shown_found (cpu_of (old_in r)) (old_in r).regs (word_in r) h (old_in r).key (memory_in r) (goes_on (effect_in r) e)

  module _ (m : Result Shown Unshown) (l j : List ℕ) where
    abbrev does_as : Effect → Bool → Plan → Showing
    does_as e b p = unless_refused (old_in r).regs (old_in r).key e (cond b (shown (Err Wide) (old_in r).regs (old_in r).key) (made_by (old_in r).regs (old_in r).key (memory_in r) (touch_in r) p))

    abbrev kind_of : Showing → ℕ
    kind_of s = kind s.made

    stepped_by : refused_in r ≡ false → wide_in r ≡ false → Found (Narrow (old_in r).regs (old_in r).key (touch_in r)) (plan_in r)
        → shown m l j ≡ made_by (old_in r).regs (old_in r).key (memory_in r) (touch_in r) (plan_in r) → Said r m l j
    stepped_by e h (found d y n) q =
        let k : shown m l j ≡ made_by (old_in r).regs (old_in r).key (memory_in r) (touch_in r) (does d) = q ∙ rw y in
        steps e h d y (ap (λ (s : Showing). s.made) k) (ap (λ (s : Showing). s.regs) k) (ap (λ (s : Showing). s.key) k)

    said_by : (e : Effect) (b : Bool) → effect_in r ≡ e → wide_in r ≡ b → shown m l j ≡ does_as e b (plan_in r) → Said r m l j
    unfolding refused_in
    said_by (Err (RefusedBy n)) b ye yb q = stops (ap refuses ye) (ap kind_of q)
    said_by (Err CallBy) true ye yb q = moves (ap refuses ye) yb (ap kind_of q)
    said_by (Ok f) true ye yb q = moves (ap refuses ye) yb (ap kind_of q)
    said_by (Err CallBy) false ye yb q = let e = ap refuses ye in stepped_by e yb (narrow_found e yb) q
    said_by (Ok f) false ye yb q = let e = ap refuses ye in stepped_by e yb (narrow_found e yb) q

    said : shown m l j ≡ step_shown (cpu_of (old_in r)) (old_in r).regs (old_in r).key (word_in r) (old_eight r) → Said r m l j
    said q = said_by (effect_in r) (wide_in r) refl refl (q ∙ step_made)

pub running : (r : List ℕ) {s : State} {b : Bool} → s ≡ old_in r → s.exited ≡ b → (old_in r).exited ≡ b
running r y e = sym (ap (λ (s : State). s.exited) y) ∙ e

pub word_as : (r : List ℕ) → length r ≡ 752 → {w : ℕ} → w ≡ number_at 4 r 720 → w ≡ word_in r
unfolding word_in
word_as r long y = y ∙ four_at r long 720 (omega arith)

err_is : (x : Verdict) (f : Fault) → IsErrAnd x (λ g. g ≡ f) → x ≡ Refused f
err_is (Ok tt) f p = absurd p
err_is (Err g) f p = ap Refused p

rest_as : (r : List ℕ) (f : Deed) → plan_in r ≡ does f → cond (gives r (does f)) Accepted (Refused ResultFault) ≡ cond (differs r) (Refused ResultFault) Accepted
unfolding differs
rest_as r f z = rw z (cond_not (gives r (does f)) Accepted (Refused ResultFault))

-- the code's arms
module _ (r : List ℕ) (long : length r ≡ 752) (runs : (old_in r).exited ≡ false) where
  judged_refused : refused_in r ≡ true → Refused StepRefused ≡ step_judged r
  unfolding step_judged first_fault applies exited_in
  judged_refused e = rw (runs, e)

  judged_wide : refused_in r ≡ false → wide_in r ≡ true → Refused WideStep ≡ step_judged r
  unfolding step_judged first_fault applies exited_in
  judged_wide e h = rw (runs, e, h)

  judged_misplaced : refused_in r ≡ false → wide_in r ≡ false → misplaced r ≡ true → Refused TouchFault ≡ step_judged r
  unfolding step_judged first_fault applies exited_in
  judged_misplaced e h g = rw (runs, e, h, g)

  judged_rest : refused_in r ≡ false → wide_in r ≡ false → misplaced r ≡ false → cond (differs r) (Refused ResultFault) Accepted ≡ step_judged r
  unfolding step_judged first_fault applies exited_in
  judged_rest e h g = rw (runs, e, h, g)

  module _ {s : State} {w x : ℕ} (ys : s ≡ old_in r) (yw : w ≡ number_at 4 r 720) (yx : x ≡ number_at 8 r 736) {c : Cpu} (yc : c ≡ cpu_of s) (m : Result Shown Unshown) (l j : List ℕ)
      (ym : shown m l j ≡ step_shown c s.regs s.key w x) where
    made_as : Said r m l j
    made_as = said r m l j (ym ∙ rw (yc, ys, word_as r long yw, ← old_as r long yx))

    -- no step, for the one reason or the other
    pub arm_unshown : {u : Unshown} {x : Verdict} → m ≡ Err u → IsErrAnd x (λ f. f ≡ fault_of u) → x ≡ step_judged r
    arm_unshown {u} {x} e g = err_is x (fault_of u) g ∙ go u e made_as
      where
        go : (u : Unshown) → m ≡ Err u → Said r m l j → Refused (fault_of u) ≡ step_judged r
        go (RefusedStep n) e (stops a k) = judged_refused a
        go (RefusedStep n) e (moves a b k) = absurd (omega (arith, sym (ap kind e) ∙ k))
        go (RefusedStep n) e (steps a b d p q f g) = absurd (omega (arith, sym (ap kind e) ∙ ap kind q))
        go Wide e (stops a k) = absurd (omega (arith, sym (ap kind e) ∙ k))
        go Wide e (moves a b k) = judged_wide a b
        go Wide e (steps a b d p q f g) = absurd (omega (arith, sym (ap kind e) ∙ ap kind q))

    module _ {z : Shown} (e : m ≡ Ok z) where
      stepped_as : {A : Type 0} → (refused_in r ≡ false → wide_in r ≡ false → (f : Deed) → plan_in r ≡ does f → Ok z ≡ stepped f.cpu (touch_in r) (eight_at (remember (memory_in r) f.store) (touch_in r))
          → l ≡ f.regs → j ≡ f.key → A) → A
      stepped_as {A} k = go made_as
        where
          go : Said r m l j → A
          go (stops a h) = absurd (omega (arith, sym (ap kind e) ∙ h))
          go (moves a b h) = absurd (omega (arith, sym (ap kind e) ∙ h))
          go (steps a b f p q u v) = k a b f p (sym e ∙ q) u v

      shown_as : {c : Cpu} {u : Option ℕ} {v : ℕ} → Ok z ≡ stepped c u v → z ≡ record { cpu = c; touch = u; eight = v }
      shown_as q = cc

      touch_as : {c : Cpu} {u : Option ℕ} {v : ℕ} → Ok z ≡ stepped c u v → z.touch ≡ u
      touch_as q = ap (λ (s : Shown). s.touch) (shown_as q)

      pub arm_misplaced : {p : Bool} → p ≡ placed r z.touch → not p ≡ true → Refused TouchFault ≡ step_judged r
      unfolding misplaced
      arm_misplaced {p} yp h = stepped_as (λ a b f k q u v. judged_misplaced a b (rw (← touch_as q, ← yp, off p h)))

      module _ {p : Bool} (yp : p ≡ placed r z.touch) (hp : not p ≡ false) {g : Bool} (yg : g ≡ agrees r s.pc z.touch) where
        agrees_as : g ≡ agrees r (old_in r).pc z.touch
        agrees_as = yg ∙ rw ys

        pub arm_disagrees : not g ≡ true → Refused TouchFault ≡ step_judged r
        unfolding misplaced
        arm_disagrees h = stepped_as (λ a b f k q u v. judged_misplaced a b (rw (← touch_as q, ← yp, on p hp, ← agrees_as, off g h)))

        pub arm_judged : not g ≡ false → {n x : State} {o : Verdict} → n ≡ new_in r → x ≡ state_of z.cpu l j → o ≡ result_judged r n x z.eight → o ≡ step_judged r
        unfolding misplaced result_judged
        arm_judged h {n} {x} {o} yn yx yo =
            stepped_as
            (λ a b f k q u v.
            let c1 : z.cpu ≡ f.cpu = ap (λ (s : Shown). s.cpu) (shown_as q) in
            let c2 : z.eight ≡ eight_at (remember (memory_in r) f.store) (touch_in r) = ap (λ (s : Shown). s.eight) (shown_as q) in
            yo ∙ rw (yn, yx, u, v, c1, c2) (rest_as r f k ∙ judged_rest a b (rw (← touch_as q, ← yp, on p hp, ← agrees_as, on g h))))

pub arm_exited : (r : List ℕ) {s : State} → s ≡ old_in r → s.exited ≡ true → Refused AlreadyExited ≡ step_judged r
unfolding step_judged first_fault applies exited_in
arm_exited r y e = rw (running r y e)

-- ---- the whole

module _ (r : List ℕ) (long : length r ≡ 752) (k : ℕ) (inside : k + 360 ≤ 752) {o : Option State} (y : o ≡ decoded_at r k) where
  decoded_is : o ≡ cond (formed_at r k) (Some (decode_at r k)) None
  unfolding decoded_at
  decoded_is = y ∙ rw (le-leb (k + 360) (length r) (omega arith))

  formed_by : (b : Bool) (s : State) → o ≡ cond b (Some s) None → b ≡ is_some o
  formed_by true s e = rw e
  formed_by false s e = rw e

  state_by : (b : Bool) (s : State) {t : State} → o ≡ cond b (Some s) None → o ≡ Some t → t ≡ s
  state_by true s e z = cc
  state_by false s e z = cc

  formed_as : formed_at r k ≡ is_some o
  formed_as = formed_by (formed_at r k) (decode_at r k) decoded_is

  formed_none : o ≡ None → formed_at r k ≡ false
  formed_none z = formed_as ∙ ap is_some z

  formed_some : {s : State} → o ≡ Some s → formed_at r k ≡ true
  formed_some z = formed_as ∙ ap is_some z

  state_as : {s : State} → o ≡ Some s → s ≡ decode_at r k
  state_as z = state_by (formed_at r k) (decode_at r k) decoded_is z

pub old_as_shown : (r : List ℕ) → length r ≡ 752 → {o : Option State} {s : State} → o ≡ decoded_at r 0 → o ≡ Some s → s ≡ old_in r
unfolding old_in
old_as_shown r long y z = state_as r long 0 (omega arith) y z

pub new_as_shown : (r : List ℕ) → length r ≡ 752 → {o : Option State} {s : State} → o ≡ decoded_at r 360 → o ≡ Some s → s ≡ new_in r
unfolding new_in
new_as_shown r long y z = state_as r long 360 (omega arith) y z

pub check_long : (r : List ℕ) → (length r ≡ 752 → ⊥) → Refused Length ≡ check_def r
unfolding check_def first_fault applies wrong_length
check_long r h = rw (ne_eqb _ _ h)

module _ (r : List ℕ) (long : length r ≡ 752) {o : Option State} (yo : o ≡ decoded_at r 0) where
  pub check_old : o ≡ None → Refused Form ≡ check_def r
  unfolding check_def first_fault applies wrong_length malformed
  check_old z = rw (eq-eqb _ _ long, formed_none r long 0 (omega arith) yo z)

  module _ {s : State} (zo : o ≡ Some s) {n : Option State} (yn : n ≡ decoded_at r 360) where
    pub check_new : n ≡ None → Refused Form ≡ check_def r
    unfolding check_def first_fault applies wrong_length malformed
    check_new z = rw (eq-eqb _ _ long, formed_some r long 0 (omega arith) yo zo, formed_none r long 360 (omega arith) yn z)

    module _ {t : State} (zn : n ≡ Some t) {w : ℕ} (yw : w ≡ number_at 4 r 724) where
      spare_as : big 4 (cell r) 724 ≡ w
      spare_as = sym (four_at r long 724 (omega arith)) ∙ sym yw

      pub check_spare : (w ≡ 0 → ⊥) → Refused Form ≡ check_def r
      unfolding check_def first_fault applies wrong_length malformed
      check_spare h = rw (eq-eqb _ _ long, formed_some r long 0 (omega arith) yo zo, formed_some r long 360 (omega arith) yn zn, spare_as, ne_eqb w 0 h)

      pub check_step : w ≡ 0 → {v : Verdict} → v ≡ step_judged r → v ≡ check_def r
      unfolding check_def first_fault applies wrong_length malformed step_judged
      check_step h q = q ∙ rw (eq-eqb _ _ long, formed_some r long 0 (omega arith) yo zo, formed_some r long 360 (omega arith) yn zn, spare_as, eq-eqb w 0 h)
