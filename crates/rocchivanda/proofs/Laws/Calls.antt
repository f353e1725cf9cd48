-- The calls on what was lent: too few entries, no state, or carried out.
use Rattle.std.proofs.Common.{◌≡◌, sym, ap, ◌∙◌, List, ℕ, ◌≤◌, ◌<◌, length, le-leb, Option, Some, None}
use Rattle.std.proofs.lemmas.Bool.{lt-leb}
use Rattle.interpreter.specs.declared.effect.Refusal.TheVariants.{BadMachine}
use Rattle.interpreter.specs.declared.state.State.{State}
use Rattle.interpreter.specs.declared.step.Answer.{Answer}
use Rattle.interpreter.specs.declared.step.Answer.TheVariants.{Refused}
use Rattle.interpreter.specs.Machine.{reg}
use Rattle.interpreter.specs.Layout.{decode_def}
use Rattle.interpreter.specs.Step.{Left, machine_of, step_def}
use Rattle.interpreter.specs.Recording.{recorded, recorded_def}
use Rattle.interpreter.specs.Runs.{Ran, ended, run_def}
use Rattle.interpreter.proofs.Laws.Codec.{Out, decode_out}
use Rattle.rocchivanda.specs.Calls.{Lent, Called, called, machine_in, leaves, stays, calling, step_call, idle, run_call, filed, record_call}

-- ---- bytes that are a state

pub decoded : (b : List ℕ) {t : Option State} {s : State} → t ≡ decode_def b → t ≡ Some s → Out b s
decoded b {s = s} e f = decode_out b s (sym e ∙ f)

-- ---- any call, where t is what the code decoded

few : (l : Lent) (w : Answer) (r : Ran) → length l.answer < 4 → called 4 l ≡ calling l w r
unfolding calling
few l w r h = rw (lt-leb _ _ h)

module _ (l : Lent) (room : 4 ≤ length l.answer) {t : Option State} (e : t ≡ decode_def l.state) where
  none : (w : Answer) (r : Ran) → t ≡ None → stays l w ≡ calling l w r
  unfolding calling
  none w r f = rw (le-leb _ _ room, ← e, f)

  done : (w : Answer) (r : Ran) {s : State} → t ≡ Some s → leaves l.answer r ≡ calling l w r
  unfolding calling
  done w r f = rw (le-leb _ _ room, ← e, f)

  -- the machine that the code steps
  machine_is : {u : ℕ} {s : State} → t ≡ Some s → u ≡ reg l.answer 0 → machine_of s u l.pages l.hint l.output ≡ machine_in l
  unfolding machine_in
  machine_is f g = rw (← (decoded l.state e f).state, g)

-- ---- each call

module _ (x d : List ℕ) (l : Lent) where
  pub step_few : length l.answer < 4 → called 4 l ≡ step_call x d l
  unfolding step_call
  step_few = few l _ _

  pub run_few : (n : ℕ) → length l.answer < 4 → called 4 l ≡ run_call x d n l
  unfolding run_call
  run_few n = few l _ _

  module _ (b : List ℕ) where
    pub record_few : length l.answer < 4 → filed (called 4 l) b ≡ record_call x d l b
    unfolding record_call
    record_few h = rw (lt-leb _ _ h, few l (Refused BadMachine) (ended (recorded_def x d (machine_in l) b).left) h)

  module _ (room : 4 ≤ length l.answer) {t : Option State} (e : t ≡ decode_def l.state) {c : Called} where
    pub step_none : t ≡ None → c ≡ stays l (Refused BadMachine) → c ≡ step_call x d l
    unfolding step_call
    step_none f k = k ∙ none l room e _ _ f

    pub run_none : (n : ℕ) {w : Answer} → t ≡ None → w ≡ idle n l.state → c ≡ stays l w → c ≡ run_call x d n l
    unfolding run_call
    run_none n f g k = k ∙ ap (stays l) g ∙ none l room e _ _ f

    pub record_none : (b : List ℕ) → t ≡ None → c ≡ stays l (Refused BadMachine) → filed c b ≡ record_call x d l b
    unfolding record_call
    record_none b f k = rw (le-leb _ _ room, ← e, f, k ∙ none l room e (Refused BadMachine) (ended (recorded_def x d (machine_in l) b).left) f)

    module _ {s : State} (f : t ≡ Some s) {u : ℕ} (g : u ≡ reg l.answer 0) where
      pub step_done : {q : Ran} {k : Left} → k ≡ step_def x d (machine_of s u l.pages l.hint l.output) → q ≡ ended k → c ≡ leaves l.answer q → c ≡ step_call x d l
      unfolding step_call
      step_done {k = k} i j h = h ∙ ap (leaves l.answer) (j ∙ ap ended (i ∙ ap (step_def x d) (machine_is l room e f g))) ∙ done l room e _ _ f

      pub run_done : (n : ℕ) {q : Ran} → q ≡ run_def x d n (machine_of s u l.pages l.hint l.output) → c ≡ leaves l.answer q → c ≡ run_call x d n l
      unfolding run_call
      run_done n i h = h ∙ ap (leaves l.answer) (i ∙ ap (run_def x d n) (machine_is l room e f g)) ∙ done l room e _ _ f

      pub record_done : (b : List ℕ) {q : Ran} {k : Left} {y : List ℕ} → recorded k y ≡ recorded_def x d (machine_of s u l.pages l.hint l.output) b
          → q ≡ ended k → c ≡ leaves l.answer q → filed c y ≡ record_call x d l b
      unfolding record_call
      record_done b {q = q} {k = k} {y = y} i j h =
          let m : recorded k y ≡ recorded_def x d (machine_in l) b = i ∙ ap (λ m. recorded_def x d m b) (machine_is l room e f g) in
          rw (le-leb _ _ room, ← e, f, ← m, h ∙ ap (leaves l.answer) j ∙ done l room e (Refused BadMachine) (ended k) f)
