-- How a call ends: the entries, the state's bytes, the result.
use Rattle.std.proofs.Common.{◌≡◌, refl, sym, ap, ◌∙◌, Bool, true, false, List, ℕ, ◌≤◌, ◌<◌, arith, eqb, length, set, le-leb, eq-eqb, ne_eqb, eqb-true}
use Rattle.std.proofs.lemmas.Bool.{lt-leb, eqb-false}
use Rattle.pages.specs.Bytes.{cell, big}
use Rattle.pages.specs.Calls.{number_at, copy_def}
use Rattle.pages.proofs.Laws.Places.{number_fits, copy_fits, sets_whole, row_whole}
use Rattle.interpreter.specs.declared.effect.Refusal.TheVariants.{BadMachine}
use Rattle.interpreter.specs.declared.state.State.{State}
use Rattle.interpreter.specs.declared.step.Answer.{Answer}
use Rattle.interpreter.specs.declared.step.Answer.TheVariants.{Stepped, Refused}
use Rattle.interpreter.specs.declared.step.Values.{Values}
use Rattle.interpreter.specs.declared.run.Stopped.{Stopped}
use Rattle.interpreter.specs.Machine.{reg}
use Rattle.interpreter.specs.Layout.{encode}
use Rattle.interpreter.specs.Step.{Left, values_of}
use Rattle.interpreter.specs.Runs.{ran, ended, stopped}
use Rattle.interpreter.proofs.Laws.Layout.{length_encode, state_parts, spare_four, spare_last, spare_none}
use Rattle.checker.specs.Verdicts.{Verdict}
use Rattle.checker.specs.Check.{check_def}
use Rattle.rocchivanda.specs.Calls.{lent, called, well_formed, machine_in, told, ends, leaves, stays, idle, verdict_number, check_call}

pub told_is : (a : List ℕ) (u n : ℕ) (w : Answer) {v : Values} → v ≡ values_of w → set (set (set (set a 0 u) 1 v.first) 2 v.second) 3 n ≡ told a u (values_of w) n
unfolding told
told_is a u n w e = rw (← e)

pub kept_is : (b : List ℕ) (s : State) {e d : List ℕ} → length b ≡ 360 → e ≡ encode s → d ≡ copy_def e 0 b 0 360 → d ≡ encode s
kept_is b s long p q =
    q
    ∙ rw p (copy_fits (encode s) 0 b 0 360 (rw (length_encode s) (omega arith)) (omega arith) ∙ rw (row_whole (encode s) 360 (length_encode s)) (sets_whole b (encode s) (length_encode s ∙ sym long)))

pub counted_is : (l : Left) → l.counts ≡ true → ran l.answer l.machine 1 ≡ ended l
counted_is l e = rw e

pub uncounted_is : (l : Left) → l.counts ≡ false → ran l.answer l.machine 0 ≡ ended l
uncounted_is l e = rw e

module _ (p h o a : List ℕ) {r : ℕ} {s b : List ℕ} where
  pub leaves_is : (e : Stopped) → b ≡ encode e.state → (r ≡ (values_of e.answer).kind) × (s ≡ told a e.used (values_of e.answer) e.count)
      → called r (lent b p h o s) ≡ leaves a (stopped e p h o)
  unfolding ends
  leaves_is e k t = rw (state_parts e.state, k, t.0, t.1)

  pub stays_is : (w : Answer) {u : ℕ} → u ≡ reg a 0 → (r ≡ (values_of w).kind) × (s ≡ told a u (values_of w) 0) → called r (lent b p h o s) ≡ stays (lent b p h o a) w
  unfolding ends machine_in
  stays_is w k t = rw (← k, t.0, t.1)

-- ---- well-formed

module _ (s : List ℕ) where
  pub not_long : (length s ≡ 360 → ⊥) → false ≡ well_formed s
  unfolding well_formed
  not_long h = rw (ne_eqb _ _ h)

  module _ (long : length s ≡ 360) where
    pub not_exited : 1 < cell s 352 → false ≡ well_formed s
    unfolding well_formed
    not_exited h = rw (eq-eqb _ _ long, lt-leb _ _ h)

    module _ (x : cell s 352 ≤ 1) {w : ℕ} (e : w ≡ number_at 4 s 355) where
      spare : w ≡ big 4 (cell s) 355
      spare = e ∙ number_fits 4 s 355 (omega arith)

      pub not_spare : (w ≡ 0 → ⊥) → false ≡ well_formed s
      unfolding well_formed
      not_spare h = rw (eq-eqb _ _ long, le-leb _ _ x, spare_four (cell s) 355 (λ g. h (spare ∙ g)))

      last_is : (b : Bool) → eqb (big 5 (cell s) 355) 0 ≡ b → b ≡ well_formed s
      unfolding well_formed
      last_is b g = rw (eq-eqb _ _ long, le-leb _ _ x, g)

      pub spare_is : w ≡ 0 → eqb (cell s 359) 0 ≡ well_formed s
      spare_is h = go (eqb (cell s 359) 0) refl
        where
          go : (b : Bool) → eqb (cell s 359) 0 ≡ b → b ≡ well_formed s
          go true g = last_is true (spare_none (cell s) 355 (sym spare ∙ h) (eqb-true _ _ g))
          go false g = last_is false (spare_last (cell s) 355 (eqb-false _ _ g))

-- ---- idle

pub idle_stepped : (n : ℕ) (s : List ℕ) {t : Bool} → n ≡ 0 → t ≡ well_formed s → t ≡ true → Stepped ≡ idle n s
unfolding idle
idle_stepped n s z e f = rw (eq-eqb _ _ z, ← e, f)

pub idle_unformed : (n : ℕ) (s : List ℕ) {t : Bool} → n ≡ 0 → t ≡ well_formed s → t ≡ false → Refused BadMachine ≡ idle n s
unfolding idle
idle_unformed n s z e f = rw (eq-eqb _ _ z, ← e, f)

pub idle_some : (n : ℕ) (s : List ℕ) → (n ≡ 0 → ⊥) → Refused BadMachine ≡ idle n s
unfolding idle
idle_some n s z = rw (ne_eqb _ _ z)

-- ---- the checker's number

pub check_is : (b : List ℕ) {v w : Verdict} {n : ℕ} → v ≡ check_def b → v ≡ w → n ≡ verdict_number w → n ≡ check_call b
unfolding check_call
check_is b e f g = g ∙ ap verdict_number (sym f ∙ e)
