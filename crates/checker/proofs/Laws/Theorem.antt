-- The theorems of the checker (specs/Statement.antt).
use Rattle.std.specs.Prelude.{Ok, Err}
use Rattle.std.proofs.Common.{◌≡◌, refl, sym, ap, subst, ◌∙◌, Bool, true, false, ◌&&◌, cond, List, [], ◌↔◌, ℕ, ◌+◌, ◌-◌, ◌*◌, ◌/◌, ◌%◌, ◌^◌, ◌≤◌, ◌<◌, arith, eqb, lit<, length, eq-eqb, eqb-true, Option, Some, None}
use Rattle.std.proofs.lemmas.Bool.{eqb-false}
use Rattle.pages.specs.Bytes.{cell, row, big, bytes_of}
use Rattle.pages.specs.Memory.{Memory, write}
use Rattle.pages.proofs.Laws.Runs.{length_row, cell_row, row_bytes}
use Rattle.pages.proofs.Laws.Numbers.{big_ext}
use Rattle.pages.proofs.Laws.Places.{bytes_big}
use Rattle.pages.proofs.Laws.Meaning.{write_among, write_lt, write_outside}
use Rattle.interpreter.specs.Effects.{Effect}
use Rattle.interpreter.specs.declared.effect.Stop.TheVariants.{Refused as RefusedBy, Call as CallBy}
use Rattle.interpreter.specs.declared.effect.Refusal.{Refusal}
use Rattle.interpreter.specs.declared.step.Answer.{Answer}
use Rattle.interpreter.specs.declared.step.Answer.TheVariants.{Refused as RefusedStep}
use Rattle.interpreter.specs.Machine.{cpu_of, state_of, counted}
use Rattle.interpreter.specs.Plan.{Deed, does, eight_at, ins_of, touch_of, executing}
use Rattle.interpreter.specs.Layout.{decode_at, formed_at}
use Rattle.interpreter.specs.Ideal.{Ideal, ideal, ideal_view, counting, Outcome, follow, remember}
use Rattle.interpreter.specs.Runs.{is_refused}
use Rattle.interpreter.specs.Shown.{shown_at, Outside, effect_shown}
use Rattle.interpreter.proofs.Laws.Tests.{no_true, both, on}
use Rattle.interpreter.proofs.Laws.Bytes.{big_lt}
use Rattle.interpreter.proofs.Laws.Codec.{length_numbers, fits_decoded, formed_out}
use Rattle.interpreter.proofs.Laws.Shown.{write_back, pc_aligned}
use Rattle.interpreter.proofs.Laws.Narrow.{Narrow, Found, found, shown_same, shown_stops, ideal_fetches, remember_outside, remember_same, touched_aligned}
use Rattle.checker.specs.declared.verdict.Fault.{Fault}
use Rattle.checker.specs.declared.verdict.Fault.TheVariants.{Length, Form as FormFault, AlreadyExited, StepRefused, WideStep, Touch as TouchFault, Result}
use Rattle.checker.specs.Verdicts.{Verdict}
use Rattle.checker.specs.Verdicts.{Accepted, Refused}
use Rattle.checker.specs.Records.{old_in, new_in, word_in, address_in, old_eight, new_eight, touch_in, memory_in, effect_in, plan_in}
use Rattle.checker.specs.Check.{malformed, exited_in, refuses, refused_in, wide_in, placed, agrees, misplaced, same_state, gives, differs, applies, first_fault, check_def}
use Rattle.checker.specs.Statement.{Bytes, Form, Has, Holds, step_from, Gives}
use Rattle.checker.proofs.Laws.Same.{refused_not, state_is, is_state}
use Rattle.checker.proofs.Laws.Judged.{goes_on, narrow_found}

-- ---- 1. the first that applies

-- what acceptance passed
record Passed (p : Fault → Bool) : Type 0 where
  length : p Length ≡ false
  form : p FormFault ≡ false
  running : p AlreadyExited ≡ false
  unrefused : p StepRefused ≡ false
  narrow : p WideStep ≡ false
  touch : p TouchFault ≡ false
  result : p Result ≡ false

asked : (b : Bool) (f : Fault) (v : Verdict) → cond b (Refused f) v ≡ Accepted → (b ≡ false) × (v ≡ Accepted)
asked true f v e = refused_not e
asked false f v e = (refl, e)

passed : (r : List ℕ) → check_def r ≡ Accepted → Passed (applies r)
unfolding check_def first_fault
passed r e =
    let a = asked (applies r Length) _ _ e in
    let b = asked (applies r FormFault) _ _ a.1 in
    let c = asked (applies r AlreadyExited) _ _ b.1 in
    let d = asked (applies r StepRefused) _ _ c.1 in
    let f = asked (applies r WideStep) _ _ d.1 in
    let g = asked (applies r TouchFault) _ _ f.1 in
    let h = asked (applies r Result) _ _ g.1 in
    record { length = a.0; form = b.0; running = c.0; unrefused = d.0; narrow = f.0; touch = g.0; result = h.0 }

accepted : (r : List ℕ) → Passed (applies r) → check_def r ≡ Accepted
unfolding check_def first_fault
accepted r p = rw (p.length, p.form, p.running, p.unrefused, p.narrow, p.touch, p.result)

pub accepted_none : (r : List ℕ) → (check_def r ≡ Accepted) ↔ ((g : Fault) → applies r g ≡ false)
accepted_none r = (λ e. forth (passed r e), back)
  where
    forth : Passed (applies r) → (g : Fault) → applies r g ≡ false
    forth p Length = p.length
    forth p FormFault = p.form
    forth p AlreadyExited = p.running
    forth p StepRefused = p.unrefused
    forth p WideStep = p.narrow
    forth p TouchFault = p.touch
    forth p Result = p.result

    back : ((g : Fault) → applies r g ≡ false) → check_def r ≡ Accepted
    back h = accepted r (record { length = h Length; form = h FormFault; running = h AlreadyExited; unrefused = h StepRefused; narrow = h WideStep; touch = h TouchFault; result = h Result })

-- ---- 3. every memory that holds what the record shows steps to what it shows

-- the conditions by name
module _ (r : List ℕ) (p : Passed (applies r)) where
  is_formed : formed_at r 0 ≡ true
  unfolding applies malformed
  is_formed = (both (both (on _ p.form)).0).0

  is_running : exited_in r ≡ false
  unfolding applies
  is_running = p.running

  is_unrefused : refused_in r ≡ false
  unfolding applies
  is_unrefused = p.unrefused

  is_narrow : wide_in r ≡ false
  unfolding applies
  is_narrow = p.narrow

  is_placed : (placed r (touch_in r) ≡ true) × (agrees r (old_in r).pc (touch_in r) ≡ true)
  unfolding applies misplaced
  is_placed = both (on _ p.touch)

  is_result : gives r (plan_in r) ≡ true
  unfolding applies differs
  is_result = on _ p.result

pub unrefused_not : (a : Answer) (f : Refusal) → is_refused a ≡ false → a ≡ RefusedStep f → ⊥
unrefused_not a f e z = no_true (sym (ap is_refused z) ∙ e)

-- the memory shows what the record shows
shows : (r : List ℕ) (m : Memory) (t : Option ℕ) → Bytes m → Has m t (old_eight r) → eight_at m t ≡ eight_at (shown_at t (old_eight r)) t
unfolding shown_at
shows r m None b h = refl
shows r m (Some a) b h = h ∙ sym (write_back (λ c. 0) a (old_eight r) (subst (λ v. v < 2 ^ 64) h (big_lt 8 m a b)))

module _ (r : List ℕ) (m : Memory) (h : Holds r m) where
  shown_as : eight_at m (touch_in r) ≡ eight_at (memory_in r) (touch_in r)
  unfolding memory_in
  shown_as = shows r m (touch_in r) h.bytes h.eight

  -- the step is the one that the checker makes
  module _ (running : exited_in r ≡ false) (narrow : wide_in r ≡ false) (x d g : List ℕ) where
    abbrev start : Ideal
    start = ideal (cpu_of (old_in r)) (old_in r).regs (old_in r).key m g

    fetched : step_from r m x d g ≡ follow (counting start) (executing (ideal_view x d (ideal (counted (cpu_of (old_in r))) (old_in r).regs (old_in r).key m g)) (word_in r) (touch_of (old_in r).regs (word_in r)))
    unfolding exited_in cpu_of
    fetched = ideal_fetches x d (cpu_of (old_in r)) (old_in r).regs (old_in r).key m g (word_in r) running h.instruction

    planned : executing (ideal_view x d (ideal (counted (cpu_of (old_in r))) (old_in r).regs (old_in r).key m g)) (word_in r) (touch_of (old_in r).regs (word_in r)) ≡ plan_in r
    unfolding wide_in plan_in touch_in
    planned = shown_same (cpu_of (old_in r)) (old_in r).regs (word_in r) narrow x d (old_in r).key g m (memory_in r) shown_as

    pub step_shown_lem : step_from r m x d g ≡ follow (counting start) (plan_in r)
    step_shown_lem = fetched ∙ ap (follow (counting start)) planned

    -- with this deed
    module _ (w : Deed) (y : plan_in r ≡ does w) (n : Narrow (old_in r).regs (old_in r).key (touch_in r) w) where
      pub stepped : step_from r m x d g ≡ follow (counting start) (does w)
      stepped = step_shown_lem ∙ ap (follow (counting start)) y

      answer_is : (step_from r m x d g).answer ≡ w.answer
      unfolding follow
      answer_is = ap (λ (o : Outcome). o.answer) stepped

      memory_is : (step_from r m x d g).machine.memory ≡ remember m w.store
      unfolding follow
      memory_is = ap (λ (o : Outcome). o.machine.memory) stepped

      state_as : state_of (step_from r m x d g).machine.cpu (step_from r m x d g).machine.regs (step_from r m x d g).machine.key ≡ state_of w.cpu w.regs w.key
      unfolding follow
      state_as = ap (λ (o : Outcome). state_of o.machine.cpu o.machine.regs o.machine.key) stepped

      answers : (f : Refusal) → (step_from r m x d g).answer ≡ RefusedStep f → ⊥
      answers f z = unrefused_not w.answer f n.answer (sym answer_is ∙ z)

      outside : (b : ℕ) → Outside (touch_in r) b → (step_from r m x d g).machine.memory b ≡ m b
      outside b o = ap (λ (k : Memory). k b) memory_is ∙ remember_outside m (touch_in r) w.store n.goes b o

      -- the touched eight bytes afterwards
      eight_after : eight_at (step_from r m x d g).machine.memory (touch_in r) ≡ eight_at (remember (memory_in r) w.store) (touch_in r)
      eight_after = ap (λ (k : Memory). eight_at k (touch_in r)) memory_is ∙ remember_same m (memory_in r) (touch_in r) w.store n.goes shown_as

-- the lengths of a state's parts
old_regs : (r : List ℕ) → length (old_in r).regs ≡ 32
unfolding old_in decode_at
old_regs r = length_numbers r 0 32

old_key : (r : List ℕ) → length (old_in r).key ≡ 32
unfolding old_in decode_at
old_key r = length_row (cell r) 320 32

new_regs : (r : List ℕ) → length (new_in r).regs ≡ 32
unfolding new_in decode_at
new_regs r = length_numbers r 360 32

new_key : (r : List ℕ) → length (new_in r).key ≡ 32
unfolding new_in decode_at
new_key r = length_row (cell r) 680 32

pub has_eight : (m : Memory) (t : Option ℕ) (v : ℕ) → eight_at m t ≡ v → Has m t v
has_eight m None v e = tt
has_eight m (Some a) v e = e

module _ (r : List ℕ) (m : Memory) (h : Holds r m) (p : Passed (applies r)) (x d g : List ℕ) where
  gave : (w : Deed) → plan_in r ≡ does w → (same_state (state_of w.cpu w.regs w.key) (new_in r) ≡ true) × (eqb (eight_at (remember (memory_in r) w.store) (touch_in r)) (new_eight r) ≡ true)
  gave w y = both (sym (ap (gives r) y) ∙ is_result r p)

  new_state : (w : Deed) → plan_in r ≡ does w → Narrow (old_in r).regs (old_in r).key (touch_in r) w → state_of w.cpu w.regs w.key ≡ new_in r
  unfolding state_of
  new_state w y n = state_is (state_of w.cpu w.regs w.key) (new_in r) (n.regs ∙ old_regs r) (new_regs r) (n.key (old_key r)) (new_key r) (gave w y).0

  all_given : Found (Narrow (old_in r).regs (old_in r).key (touch_in r)) (plan_in r) → Gives r m x d g × ((b : ℕ) → Outside (touch_in r) b → (step_from r m x d g).machine.memory b ≡ m b)
  all_given (found w y n) =
      let a = is_running r p in
      let b = is_narrow r p in (
        record {
          unrefused = answers r m h a b x d g w y n;
          state = state_as r m h a b x d g w y n ∙ new_state w y n;
          eight = has_eight _ (touch_in r) (new_eight r) (eight_after r m h a b x d g w y n ∙ eqb-true _ _ (gave w y).1);
        },
        outside r m h a b x d g w y n,
      )

pub accepted_steps : (r : List ℕ) → check_def r ≡ Accepted → (m : Memory) → Holds r m → (x d h : List ℕ)
    → Gives r m x d h × ((b : ℕ) → Outside (touch_in r) b → (step_from r m x d h).machine.memory b ≡ m b)
accepted_steps r e m h x d g = let p = passed r e in all_given r m h p x d g (narrow_found r (is_unrefused r p) (is_narrow r p))

-- ---- 2, from the step: what a memory gives is accepted

-- equal numbers have equal bytes
byte_same : (f g : ℕ → ℕ) (a b : ℕ) → Bytes f → Bytes g → big 8 f a ≡ big 8 g b → (j : ℕ) → j < 8 → f (a + j) ≡ g (b + j)
byte_same f g a b p q e j l =
    sym (cell_row f a 8 j l)
    ∙ ap (λ (s : List ℕ). cell s j) (sym (bytes_big 8 f a (λ k i. p (a + k))) ∙ ap (bytes_of 8) e ∙ bytes_big 8 g b (λ k i. q (b + k)))
    ∙ cell_row g b 8 j l

agreed : (r : List ℕ) (m : Memory) (t : Option ℕ) (pc : ℕ) → Bytes (cell r) → Bytes m → pc % 4 ≡ 0 → big 4 m pc ≡ word_in r → Has m t (old_eight r) → agrees r pc t ≡ true
unfolding old_eight
agreed r m None pc b c z i h = refl
agreed r m (Some a) pc b c z i h = go (eqb (pc / 8 * 8) a) refl
  where
    there : pc / 8 * 8 ≡ a → (k : ℕ) → k < 4 → cell r (736 + pc % 8 + k) ≡ m (pc + k)
    there q k l =
        let e : pc + k ≡ a + (pc % 8 + k) = omega arith in
        let f : 736 + pc % 8 + k ≡ 736 + (pc % 8 + k) = omega arith in
        ap (cell r) f ∙ sym (ap m e ∙ byte_same m (cell r) a 736 c b h (pc % 8 + k) (omega arith))

    go : (o : Bool) → eqb (pc / 8 * 8) a ≡ o → cond o (eqb (big 4 (cell r) (736 + pc % 8)) (word_in r)) true ≡ true
    go true q = eq-eqb _ _ (big_ext 4 (cell r) m (736 + pc % 8) pc (there (eqb-true _ _ q)) ∙ i)
    go false q = refl

-- an unrefused instruction stands at an aligned pc
pc_even : (r : List ℕ) → refused_in r ≡ false → (old_in r).pc % 4 ≡ 0
unfolding refused_in effect_in effect_shown ins_of counted cpu_of
pc_even r e =
    pc_aligned (ins_of (counted (cpu_of (old_in r))) (old_in r).regs (word_in r) (eight_at (memory_in r) (touch_of (old_in r).regs (word_in r)))) refl (goes_on (effect_in r) e)

new_zero : (r : List ℕ) (k : Memory) (t : Option ℕ) → placed r t ≡ true → Has k t (new_eight r) → eight_at k t ≡ new_eight r
new_zero r k None p h = sym (eqb-true (new_eight r) 0 (both {a = eqb (address_in r) 0 && eqb (old_eight r) 0} {b = eqb (new_eight r) 0} p).1)
new_zero r k (Some a) p h = h

module _ (r : List ℕ) (b : Bytes (cell r)) (f : Form r) (m : Memory) (h : Holds r m) (x d g : List ℕ) (gs : Gives r m x d g) where
  stops_not : (n : Refusal) → effect_in r ≡ Err (RefusedBy n) → ⊥
  unfolding effect_in wide_in plan_in follow
  stops_not n e =
      gs.unrefused n
      (ap (λ (o : Outcome). o.answer)
      (step_shown_lem r m h f.running f.narrow x d g
      ∙ ap (follow (counting (ideal (cpu_of (old_in r)) (old_in r).regs (old_in r).key m g))) (shown_stops (cpu_of (old_in r)) (old_in r).regs (word_in r) f.narrow (old_in r).key (memory_in r) e)))

  carried_out : refused_in r ≡ false
  unfolding refused_in
  carried_out = go (effect_in r) refl
    where
      go : (e : Effect) → effect_in r ≡ e → refuses e ≡ false
      go (Err (RefusedBy n)) q = absurd (stops_not n q)
      go (Err CallBy) q = refl
      go (Ok c) q = refl

  given : Found (Narrow (old_in r).regs (old_in r).key (touch_in r)) (plan_in r) → gives r (plan_in r) ≡ true
  given (found w y n) =
      let s : state_of w.cpu w.regs w.key ≡ new_in r = sym (state_as r m h f.running f.narrow x d g w y n) ∙ gs.state in
      let e : eight_at (remember (memory_in r) w.store) (touch_in r) ≡ new_eight r =
      sym (eight_after r m h f.running f.narrow x d g w y n) ∙ new_zero r _ (touch_in r) f.touch gs.eight
      in
      ap (gives r) y ∙ rw (s, is_state (new_in r), e, eq-eqb (new_eight r) (new_eight r) refl)

  pub steps_accepted : check_def r ≡ Accepted
  unfolding applies misplaced differs
  steps_accepted =
      accepted r
      (record {
        length = f.long;
        form = f.formed;
        running = f.running;
        unrefused = carried_out;
        narrow = f.narrow;
        touch = rw (f.touch, agreed r m (touch_in r) (old_in r).pc b h.bytes (pc_even r carried_out) h.instruction h.eight);
        result = rw (given (narrow_found r carried_out f.narrow));
      })

-- ---- 2, from the record: a memory that holds what it shows

module _ (m : Memory) (f : ℕ → ℕ) (a b n : ℕ) where
  written : (k : ℕ) → k < n → write m a (row f b n) (a + k) ≡ f (b + k)
  written k l =
      let e : a + k - a ≡ k = omega arith in
      let z = length_row f b n in
      write_among m a (row f b n) (a + k) (omega arith) (omega arith) ∙ ap (cell (row f b n)) e ∙ cell_row f b n k l

  written_number : big n (write m a (row f b n)) a ≡ big n f b
  written_number = big_ext n (write m a (row f b n)) f a b written

-- an aligned word outside an aligned doubleword has no byte in it
apart : (pc a j : ℕ) → a % 8 ≡ 0 → pc % 4 ≡ 0 → (pc / 8 * 8 ≡ a → ⊥) → j < 4 → a ≤ pc + j → pc + j < a + 8 → ⊥
apart pc a j p q n l c d = n (omega arith)

module _ (r : List ℕ) (b : Bytes (cell r)) where
  -- the instruction alone, and then the old eight bytes
  abbrev alone : Memory
  alone = write (λ c. 0) (old_in r).pc (row (cell r) 720 4)

  abbrev witness : Option ℕ → Memory
  witness None = alone
  witness (Some a) = write alone a (row (cell r) 736 8)

  alone_bytes : Bytes alone
  alone_bytes = write_lt (λ c. 0) (old_in r).pc (row (cell r) 720 4) (λ c. lit< tt) (row_bytes (cell r) 720 4 b)

  witness_bytes : (t : Option ℕ) → Bytes (witness t)
  witness_bytes None = alone_bytes
  witness_bytes (Some a) = write_lt alone a (row (cell r) 736 8) alone_bytes (row_bytes (cell r) 736 8 b)

  witness_has : (t : Option ℕ) → Has (witness t) t (old_eight r)
  unfolding old_eight
  witness_has None = tt
  witness_has (Some a) = written_number alone (cell r) a 736 8

  alone_fetches : big 4 alone (old_in r).pc ≡ word_in r
  unfolding word_in
  alone_fetches = written_number (λ c. 0) (cell r) (old_in r).pc 720 4

  witness_fetches : (t : Option ℕ) → ((a : ℕ) → t ≡ Some a → a % 8 ≡ 0) → (old_in r).pc % 4 ≡ 0 → agrees r (old_in r).pc t ≡ true → big 4 (witness t) (old_in r).pc ≡ word_in r
  witness_fetches None e z q = alone_fetches
  witness_fetches (Some a) e z q = go (eqb ((old_in r).pc / 8 * 8) a) refl q
    where
      even : a % 8 ≡ 0
      even = e a refl

      inside : (old_in r).pc / 8 * 8 ≡ a → (k : ℕ) → k < 4 → write alone a (row (cell r) 736 8) ((old_in r).pc + k) ≡ cell r (736 + (old_in r).pc % 8 + k)
      inside i k l =
          let f : (old_in r).pc + k ≡ a + ((old_in r).pc % 8 + k) = omega arith in
          let g : 736 + ((old_in r).pc % 8 + k) ≡ 736 + (old_in r).pc % 8 + k = omega arith in
          ap (write alone a (row (cell r) 736 8)) f ∙ written alone (cell r) a 736 8 ((old_in r).pc % 8 + k) (omega arith) ∙ ap (cell r) g

      go : (o : Bool) → eqb ((old_in r).pc / 8 * 8) a ≡ o → cond o (eqb (big 4 (cell r) (736 + (old_in r).pc % 8)) (word_in r)) true ≡ true
          → big 4 (write alone a (row (cell r) 736 8)) (old_in r).pc ≡ word_in r
      go true i k = big_ext 4 (write alone a (row (cell r) 736 8)) (cell r) (old_in r).pc (736 + (old_in r).pc % 8) (inside (eqb-true _ _ i)) ∙ eqb-true _ _ k
      go false i k =
          big_ext 4 (write alone a (row (cell r) 736 8)) alone (old_in r).pc (old_in r).pc
          (λ j l. write_outside alone a (row (cell r) 736 8) 8 (length_row (cell r) 736 8) ((old_in r).pc + j) (apart (old_in r).pc a j even z (eqb-false _ _ i) l))
          ∙ alone_fetches

  touch_even : formed_at r 0 ≡ true → (a : ℕ) → touch_in r ≡ Some a → a % 8 ≡ 0
  unfolding touch_in old_in
  touch_even f a e = (touched_aligned (cpu_of (decode_at r 0)) (decode_at r 0).regs (word_in r) a (fits_decoded r b (formed_out r 0 f)).typed.values e).0

  witness_holds : Passed (applies r) → Holds r (witness (touch_in r))
  witness_holds p =
      record {
        bytes = witness_bytes (touch_in r);
        instruction = witness_fetches (touch_in r) (touch_even (is_formed r p)) (pc_even r (is_unrefused r p)) (is_placed r p).1;
        eight = witness_has (touch_in r);
      }

pub accepted_iff : (r : List ℕ) → Bytes (cell r) → Form r
    → (check_def r ≡ Accepted) ↔ ((m : Memory) × Holds r m × (x : List ℕ) × (d : List ℕ) × (h : List ℕ) × Gives r m x d h)
accepted_iff r b f = (forth, back)
  where
    forth : check_def r ≡ Accepted → (m : Memory) × Holds r m × (x : List ℕ) × (d : List ℕ) × (h : List ℕ) × Gives r m x d h
    forth e =
        let h = witness_holds r b (passed r e) in
        (witness r b (touch_in r), h, [], [], [], (accepted_steps r e (witness r b (touch_in r)) h [] [] []).0)

    back : ((m : Memory) × Holds r m × (x : List ℕ) × (d : List ℕ) × (h : List ℕ) × Gives r m x d h) → check_def r ≡ Accepted
    back (m, h, x, d, g, gs) = steps_accepted r b f m h x d g gs
