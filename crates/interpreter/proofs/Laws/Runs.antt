-- The step repeated: what the loop keeps, and document 01's wording.
use Rattle.std.proofs.Common.{◌≡◌, ℕ, zero, suc, ◌+◌, ◌-◌, ◌<◌, ◌≤◌, Bool, true, false, cond, not, ◌&&◌, ltb, List, length, sym, refl, ap, ◌∙◌, add-zero, sub-one, arith, ltb-false, ltb-true, Result, Ok, Err, Option, Some, None}
use Rattle.std.specs.Prelude.{Ok, Err}
use native.Mathlib.Nat.{sub-zero}
use Rattle.pages.specs.declared.memory.StoreError.{StoreError}
use Rattle.interpreter.specs.Effects.{Effect}
use Rattle.interpreter.specs.declared.effect.Stop.TheVariants.{Refused as RefusedBy, Call as CallBy}
use Rattle.interpreter.specs.declared.effect.Refusal.{Refusal}
use Rattle.interpreter.specs.declared.effect.Refusal.TheVariants.{BadMachine, NoRoom}
use Rattle.interpreter.specs.declared.state.Cpu.{Cpu}
use Rattle.interpreter.specs.declared.state.State.{State}
use Rattle.interpreter.specs.declared.step.Answer.{Answer}
use Rattle.interpreter.specs.declared.step.Answer.TheVariants.{Stepped, Wrote, Hint, Exited, Refused}
use Rattle.interpreter.specs.declared.linux.Call.{Call}
use Rattle.interpreter.specs.declared.linux.Call.TheVariants.{Answer as Reply, Heap, Exit, Key, Input, Write, Hint as HintWrite}
use Rattle.interpreter.specs.declared.input.Entry.{Entry}
use Rattle.interpreter.specs.Machine.{Machine, machine, cpu_of, counted, bad}
use Rattle.interpreter.specs.Inputs.{entry_of, inside, part_of}
use Rattle.interpreter.specs.Hints.{heard}
use Rattle.interpreter.specs.Plan.{View, Deed, Plan, refuse, does, changing, a2, call_in, replying, exiting, keying, wrote, writing, hinted, hearing, together, hinting, read, reading_in, reading_at, reading, calling, touch_of, planned, executing, word_of, plan}
use Rattle.interpreter.specs.Step.{Left, left, refused, landed, putting, lay, settled, view_of, with_cpu, working, advance, step_def, machine_of}
use Rattle.interpreter.specs.Runs.{Ran, ran, is_stepped, is_refused, tally, more, ended, onto, run_def, steps, last_of, works, Counted, all, one_more, Repeats}
use Rattle.interpreter.proofs.Laws.Kept.{Each, step_keeps_good}
use Rattle.interpreter.proofs.Laws.Steps.{bad_as}
use Rattle.interpreter.proofs.Laws.Tests.{no_true, on, off}

-- ---- the loop: the whole run is what is counted so far and the rest

more_none : (r : Ran) → more 0 r ≡ r
more_none r = ap (ran r.answer r.machine) (omega arith)

pub more_more : (a b : ℕ) (r : Ran) → more a (more b r) ≡ more (a + b) r
more_more a b r = ap (ran r.answer r.machine) (omega arith)

module _ (x d : List ℕ) where
  -- where 1 does not apply, it need not be asked for
  good_advance : (m : Machine) → bad m ≡ false → step_def x d m ≡ advance x d m
  unfolding step_def
  good_advance m e = rw e

  pub turn_good : (m : Machine) (l : Left) → bad m ≡ false → l ≡ advance x d m → bad l.machine ≡ false
  turn_good m l e q = rw (q ∙ sym (good_advance m e)) (step_keeps_good x d m e)

  run_suc : (n : ℕ) (m : Machine) → 0 < n → run_def x d n m ≡ onto (step_def x d m) (run_def x d (n - 1) (step_def x d m).machine)
  unfolding run_def
  run_suc zero m h = absurd (omega arith)
  run_suc (suc n) m h = rw sub-one

  run_good : (n : ℕ) (m : Machine) (l : Left) → 0 < n → bad m ≡ false → l ≡ advance x d m → run_def x d n m ≡ onto l (run_def x d (n - 1) l.machine)
  run_good n m l h e q = run_suc n m h ∙ rw (q ∙ sym (good_advance m e))

  pub run_holds : (n : ℕ) (m : Machine) → run_def x d n m ≡ more 0 (run_def x d (n - 0) m)
  run_holds n m = rw sub-zero (sym (more_none (run_def x d n m)))

  module _ (w : Ran) (budget count : ℕ) (m : Machine) (inv : w ≡ more count (run_def x d (budget - count) m)) where
    pub run_turn : (l : Left) {b : Bool} → bad m ≡ false → count < budget → l ≡ advance x d m → b ≡ is_stepped l.answer → not b ≡ false
        → w ≡ more (count + 1) (run_def x d (budget - (count + 1)) l.machine)
    run_turn l {b} e h q t s =
        let y : is_stepped l.answer ≡ true = sym t ∙ on b s in
        inv
        ∙ ap (more count) (run_good (budget - count) m l (omega arith) e q ∙ rw y)
        ∙ more_more count 1 (run_def x d (budget - count - 1) l.machine)
        ∙ ap (λ (n : ℕ). more (count + 1) (run_def x d n l.machine)) (omega arith)

    pub run_last : (l : Left) {b : Bool} → bad m ≡ false → count < budget → l ≡ advance x d m → b ≡ is_stepped l.answer → not b ≡ true → more count (ended l) ≡ w
    run_last l {b} e h q t s =
        let y : is_stepped l.answer ≡ false = sym t ∙ off b s in
        sym (inv ∙ ap (more count) (run_good (budget - count) m l (omega arith) e q ∙ rw y))

    pub run_spent : budget ≤ count → ran Stepped m count ≡ w
    unfolding run_def
    run_spent h =
        let e : budget - count ≡ 0 = omega arith in
        sym (inv ∙ rw e (ap (ran Stepped m) (add-zero count)))

-- many steps within a run
pub run_went : (x d : List ℕ) (budget count n : ℕ) (m q : Machine) {t : Ran} → t ≡ more count (run_def x d (budget - count) m)
    → run_def x d (budget - count) m ≡ more n (run_def x d (budget - count - n) q) → t ≡ more (count + n) (run_def x d (budget - (count + n)) q)
run_went x d budget count n m q i g =
    i ∙ ap (more count) g ∙ more_more count n (run_def x d (budget - count - n) q)
    ∙ ap (λ (k : ℕ). more (count + n) (run_def x d k q)) (omega arith)

-- ---- by value

module _ (x d : List ℕ) (s : State) (u : ℕ) (p h o : List ℕ) where
  pub run_none : {r : Ran} {n : ℕ} → n ≡ 0 → r ≡ ran Stepped (machine_of s u p h o) 0 → r ≡ run_def x d n (machine_of s u p h o)
  unfolding run_def
  run_none e q = q ∙ rw e

  module _ (budget : ℕ) {c : Cpu} {t : Bool} (z : c ≡ cpu_of s) (y : (r k o : List ℕ) → t ≡ bad (machine c r k u p h o)) where
    pub run_bad : {r : Ran} → 0 < budget → t ≡ true → r ≡ ran (Refused BadMachine) (machine_of s u p h o) 0 → r ≡ run_def x d budget (machine_of s u p h o)
    unfolding step_def
    run_bad g e q = q ∙ sym (run_suc x d budget (machine_of s u p h o) g ∙ rw (← bad_as s u p h o z y, e))

    pub run_value : {r : Ran} → r ≡ run_def x d budget (machine c s.regs s.key u p h o) → r ≡ run_def x d budget (machine_of s u p h o)
    unfolding cpu_of
    run_value q = q ∙ rw z

-- ---- which steps count: the unrefused ones from unexited states

data Unrefused (p : Plan) : Type 0 where
  unrefused : Each (λ (w : Deed). is_refused w.answer ≡ false) p → Unrefused p

refuse_unrefused : (n : Refusal) → Unrefused (refuse n)
refuse_unrefused n = unrefused (record {})

cond_unrefused : (b : Bool) {p q : Plan} → Unrefused p → Unrefused q → Unrefused (cond b p q)
cond_unrefused true g h = g
cond_unrefused false g h = h

module _ (v : View) where
  reading_unrefused : (e : Option Entry) → Unrefused (reading_at v e)
  unfolding reading_in read
  reading_unrefused None = refuse_unrefused _
  reading_unrefused (Some e) =
      cond_unrefused (inside v.input e.start e.length)
      (cond_unrefused (ltb (8 + length (part_of v.input e.start e.length)) v.cpu.offset) (refuse_unrefused _) (unrefused refl)) (refuse_unrefused _)

  hearing_unrefused : (t : List ℕ) (g : Result (Option ℕ) Refusal) → Unrefused (hearing v t g)
  unfolding hinted
  hearing_unrefused t (Err n) = refuse_unrefused n
  hearing_unrefused t (Ok None) = unrefused refl
  hearing_unrefused t (Ok (Some n)) = unrefused refl

  calling_unrefused : (c : Call) → Unrefused (calling v c)
  unfolding calling replying exiting keying writing wrote hinting reading
  calling_unrefused (Reply x e) = unrefused refl
  calling_unrefused (Heap h) = unrefused refl
  calling_unrefused (Exit n) = unrefused refl
  calling_unrefused Key = unrefused refl
  calling_unrefused Input = reading_unrefused (entry_of v.index v.key)
  calling_unrefused (Write s) = cond_unrefused (v.fits (a2 v)) (unrefused refl) (refuse_unrefused NoRoom)
  calling_unrefused HintWrite =
      cond_unrefused (ltb v.room (length v.held + a2 v)) (refuse_unrefused NoRoom) (hearing_unrefused (together v) (heard (together v) v.fits))

  planned_unrefused : (t : Option ℕ) (e : Effect) → Unrefused (planned v t e)
  unfolding planned changing
  planned_unrefused t (Err (RefusedBy n)) = refuse_unrefused n
  planned_unrefused t (Err CallBy) = calling_unrefused (call_in v.cpu v.regs)
  planned_unrefused t (Ok e) = unrefused refl

  plan_unrefused : Unrefused (plan v)
  unfolding plan executing
  plan_unrefused = planned_unrefused (touch_of v.regs (word_of v)) _

-- what a step's answer says of its being counted
pub record Fair (l : Left) (exited : Bool) : Type 0 where
  pub counts : l.counts ≡ (not (is_refused l.answer) && not exited)
  pub stepped : is_stepped l.answer ≡ true → l.counts ≡ true

landed_fair : (m : Machine) (w : Deed) (q : List ℕ) (s : Result ℕ StoreError) → is_refused w.answer ≡ false → Fair (landed m w q s) false
unfolding settled
landed_fair m w q (Ok u) e = record { counts = rw e; stepped = λ f. refl }
landed_fair m w q (Err z) e = record { counts = refl; stepped = λ f. f }

lay_fair : (m : Machine) (p : Plan) → Unrefused p → Fair (lay m p) false
unfolding lay
lay_fair m (refuse n) g = record { counts = refl; stepped = λ f. f }
lay_fair m (does w) (unrefused e) =
    landed_fair m w (putting m.pages m.used w.store).pages (putting m.pages m.used w.store).answer e

work_fair : (x d : List ℕ) (m : Machine) → Fair (working x d m plan) false
unfolding working
work_fair x d m = lay_fair m (plan (view_of x d m)) (plan_unrefused (view_of x d m))

exited_fair : (l : Left) (m : Machine) (b : Bool) → Fair l false → Fair (cond b (left (Exited m.cpu.code) m false) l) b
exited_fair l m true g = record { counts = refl; stepped = λ f. f }
exited_fair l m false g = g

bad_fair : (l : Left) (m : Machine) (b e : Bool) → Fair l e → Fair (cond b (refused m BadMachine) l) e
bad_fair l m true e g = record { counts = refl; stepped = λ f. f }
bad_fair l m false e g = g

pub step_fair : (x d : List ℕ) (m : Machine) → Fair (step_def x d m) m.cpu.exited
unfolding step_def advance
step_fair x d m =
    bad_fair (advance x d m) m (bad m) m.cpu.exited
    (exited_fair (working x d (with_cpu m (counted m.cpu)) plan) m m.cpu.exited (work_fair x d (with_cpu m (counted m.cpu))))

-- the step's flag is document 01's wording
pub step_works : (x d : List ℕ) (m : Machine) → (step_def x d m).counts ≡ works x d m
step_works x d m = (step_fair x d m).counts

-- ---- document 01's wording of the run

is_stepped_lem : (a : Answer) → is_stepped a ≡ true → a ≡ Stepped
is_stepped_lem Stepped e = refl
is_stepped_lem (Wrote s n) e = no_true (sym e)
is_stepped_lem (Hint n) e = no_true (sym e)
is_stepped_lem (Exited n) e = no_true (sym e)
is_stepped_lem (Refused r) e = no_true (sym e)

no_less : {A : Type 0} {n : ℕ} → n < 0 → A
no_less h = absurd (omega arith)

module _ (x d : List ℕ) (m : Machine) where
  -- no call is made
  none_repeats : Repeats x d 0 m (ran Stepped m 0)
  unfolding steps
  none_repeats =
      record { calls = 0; within = omega arith; until = λ n h. no_less h; never = λ e. refl; counts = λ n h. no_less h; counted = all refl; leaves = refl; answers = refl }

  -- the first call is the last
  one_until : (n : ℕ) → n < 1 → last_of x d n m ≡ Stepped
  one_until zero h = refl
  one_until (suc n) h = absurd (omega arith)

  one_counts : (b : Bool) → b ≡ works x d m → (n : ℕ) → n < tally b → works x d (steps x d n m) ≡ true
  unfolding steps
  one_counts true e zero h = sym e
  one_counts true e (suc n) h = absurd (omega arith)
  one_counts false e n h = no_less h

  one_counted : (b : Bool) → b ≡ works x d m → Counted x d m 1 (tally b)
  unfolding steps
  one_counted true e = all refl
  one_counted false e = one_more refl (sym e)

  one_repeats : (n : ℕ) → is_stepped (step_def x d m).answer ≡ false → Repeats x d (suc n) m (ended (step_def x d m))
  unfolding steps
  one_repeats n e =
      record {
        calls = 1;
        within = omega arith;
        until = one_until;
        never = λ f. no_true (sym (ap is_stepped f) ∙ e);
        counts = one_counts (step_def x d m).counts (step_works x d m);
        counted = one_counted (step_def x d m).counts (step_works x d m);
        leaves = refl;
        answers = refl;
      }

  -- others follow the first call
  module _ (e : (step_def x d m).answer ≡ Stepped) where
    later_last : (n : ℕ) → last_of x d (suc n) m ≡ last_of x d n (step_def x d m).machine
    unfolding steps
    later_last zero = e
    later_last (suc n) = refl

    first_works : works x d m ≡ true
    first_works = sym (step_works x d m) ∙ (step_fair x d m).stepped (ap is_stepped e)

    later_steps : (n : ℕ) → steps x d (1 + n) m ≡ steps x d n (step_def x d m).machine
    unfolding steps
    later_steps n =
        let k : 1 + n ≡ suc n = omega arith in
        rw k

    module _ (n : ℕ) (r : Ran) (g : Repeats x d n (step_def x d m).machine r) where
      later_until : (k : ℕ) → k < suc g.calls → last_of x d k m ≡ Stepped
      later_until zero h = refl
      later_until (suc k) h = later_last k ∙ g.until k (omega arith)

      later_counts : (k : ℕ) → k < 1 + r.count → works x d (steps x d k m) ≡ true
      unfolding steps
      later_counts zero h = first_works
      later_counts (suc k) h = g.counts k (omega arith)

      later_counted : Counted x d (step_def x d m).machine g.calls r.count → Counted x d m (suc g.calls) (1 + r.count)
      later_counted (all f) = all (omega arith)
      later_counted (one_more f w) = one_more (omega arith) (rw (later_steps r.count) w)

      later_repeats : Repeats x d (suc n) m (more 1 r)
      unfolding steps
      later_repeats =
          record {
            calls = suc g.calls;
            within = omega (arith, g.within);
            until = later_until;
            never = λ f. ap suc (g.never (sym (later_last g.calls) ∙ f));
            counts = later_counts;
            counted = later_counted g.counted;
            leaves = g.leaves;
            answers = g.answers ∙ sym (later_last g.calls);
          }

onto_repeats : (x d : List ℕ) (m : Machine) (n : ℕ) (r : Ran) (b : Bool) → is_stepped (step_def x d m).answer ≡ b → Repeats x d n (step_def x d m).machine r
    → Repeats x d (suc n) m (cond b (more 1 r) (ended (step_def x d m)))
onto_repeats x d m n r true e g = later_repeats x d m (is_stepped_lem (step_def x d m).answer e) n r g
onto_repeats x d m n r false e g = one_repeats x d m n e

-- a run is as document 01 says
pub run_repeats : (x d : List ℕ) (budget : ℕ) (m : Machine) → Repeats x d budget m (run_def x d budget m)
unfolding run_def
run_repeats x d zero m = none_repeats x d m
run_repeats x d (suc n) m =
    onto_repeats x d m n (run_def x d n (step_def x d m).machine) (is_stepped (step_def x d m).answer) refl (run_repeats x d n (step_def x d m).machine)

-- ---- and nothing else is

module _ (x d : List ℕ) (budget : ℕ) (m : Machine) where
  calls_up : (r s : Ran) (g : Repeats x d budget m r) (h : Repeats x d budget m s) → h.calls ≤ g.calls
  calls_up r s g h = go (ltb g.calls h.calls) refl
    where
      go : (b : Bool) → ltb g.calls h.calls ≡ b → h.calls ≤ g.calls
      go true e =
          let k : g.calls < h.calls = ltb-true _ _ e in
          let f : g.calls ≡ budget = g.never (h.until g.calls k) in
          omega (arith, h.within)
      go false e = ltb-false _ _ e

  count_same : (k a b : ℕ) → ((n : ℕ) → n < a → works x d (steps x d n m) ≡ true) → ((n : ℕ) → n < b → works x d (steps x d n m) ≡ true)
      → Counted x d m k a → Counted x d m k b → a ≡ b
  count_same k a b p q (all e) (all f) = omega arith
  count_same k a b p q (all e) (one_more f w) = no_true (sym (p b (omega arith)) ∙ w)
  count_same k a b p q (one_more e v) (all f) = no_true (sym (q a (omega arith)) ∙ v)
  count_same k a b p q (one_more e v) (one_more f w) = omega arith

  same_ran : (r s : Ran) → r.answer ≡ s.answer → r.machine ≡ s.machine → r.count ≡ s.count → r ≡ s
  same_ran r s e f g = ap (λ (a : Answer). ran a r.machine r.count) e ∙ ap (λ (k : Machine). ran s.answer k r.count) f ∙ ap (ran s.answer s.machine) g

  repeats_one : (r s : Ran) → Repeats x d budget m r → Repeats x d budget m s → r ≡ s
  repeats_one r s g h =
      let e : g.calls ≡ h.calls = omega (arith, calls_up r s g h, calls_up s r h g) in
      same_ran r s (g.answers ∙ rw e (sym h.answers)) (g.leaves ∙ rw e (sym h.leaves))
      (count_same h.calls r.count s.count g.counts h.counts (rw e at g.counted) h.counted)

  -- what document 01 says of a run admits one outcome
  pub repeats_run : (r : Ran) → Repeats x d budget m r → r ≡ run_def x d budget m
  repeats_run r g = repeats_one r (run_def x d budget m) g (run_repeats x d budget m)
