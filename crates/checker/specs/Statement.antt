-- What is proved of the checker (demand 3). The proof is `theorems` in proofs/Laws/Proved.antt.
use Rattle.std.specs.Prelude.{ℕ, ◌<◌, ◌≡◌, ◌↔◌, true, false, List, length, Option, Some, None}
use Rattle.pages.specs.Bytes.{cell, big}
use Rattle.pages.specs.Memory.{Memory}
use Rattle.interpreter.specs.declared.effect.Refusal.{Refusal}
use Rattle.interpreter.specs.declared.step.Answer.TheVariants.{Refused as RefusedStep}
use Rattle.interpreter.specs.Machine.{Machine, cpu_of, state_of}
use Rattle.interpreter.specs.Layout.{Typed}
use Rattle.interpreter.specs.Step.{step_def}
use Rattle.interpreter.specs.Recording.{wide, word_in as word_at, state_in, recorded_def}
use Rattle.interpreter.specs.Ideal.{ideal, Outcome, ideal_step}
use Rattle.interpreter.specs.Shown.{Outside}
use Rattle.checker.specs.declared.verdict.Fault.{Fault}
use Rattle.checker.specs.Verdicts.{Accepted, Refused}
use Rattle.checker.specs.Verdicts.{fault_number}
use Rattle.checker.specs.Records.{old_in, new_in, word_in, old_eight, new_eight, touch_in}
use Rattle.checker.specs.Check.{wrong_length, malformed, exited_in, wide_in, placed, applies, check_def}
use Rattle.checker.specs.Examples.{examples, Says, Every}

-- every byte is one
abbrev pub Bytes : Memory → Type 0
Bytes m = (a : ℕ) → m a < 256

-- a record of document 01's form: none of 21, 22, 23 and 25 applies, and its address is the touched one or, without a touch, its last 24 bytes are zero
pub record Form (r : List ℕ) : Type 0 where
  pub long : wrong_length r ≡ false
  pub formed : malformed r ≡ false
  pub running : exited_in r ≡ false
  pub narrow : wide_in r ≡ false
  pub touch : placed r (touch_in r) ≡ true

-- a memory has this number in the touched eight bytes
abbrev pub Has : Memory → Option ℕ → ℕ → Type 0
Has m None v = Unit {0}
Has m (Some a) v = big 8 m a ≡ v

-- a memory that holds the instruction at pc and the old eight bytes at the address
pub record Holds (r : List ℕ) (m : Memory) : Type 0 where
  pub bytes : Bytes m
  pub instruction : big 4 m (old_in r).pc ≡ word_in r
  pub eight : Has m (touch_in r) (old_eight r)

-- one step of the definition's machine from the old state and such a memory, where h are the hint bytes held and x and d are the input's index and data
abbrev pub step_from : List ℕ → Memory → List ℕ → List ℕ → List ℕ → Outcome
step_from r m x d h = ideal_step x d (ideal (cpu_of (old_in r)) (old_in r).regs (old_in r).key m h)

-- it is not refused, and gives the new state and the new eight bytes
pub record Gives (r : List ℕ) (m : Memory) (x d h : List ℕ) : Type 0 where
  pub unrefused : (n : Refusal) → (step_from r m x d h).answer ≡ RefusedStep n → ⊥
  pub state : state_of (step_from r m x d h).machine.cpu (step_from r m x d h).machine.regs (step_from r m x d h).machine.key ≡ new_in r
  pub eight : Has (step_from r m x d h).machine.memory (touch_in r) (new_eight r)

pub record Theorems : Type 0 where
  -- 1. the answer is the first number in document 01's order whose condition holds
  pub refused_first : (r : List ℕ) (f : Fault) → (check_def r ≡ Refused f) ↔ ((applies r f ≡ true) × ((g : Fault) → fault_number g < fault_number f → applies r g ≡ false))
  pub accepted_none : (r : List ℕ) → (check_def r ≡ Accepted) ↔ ((g : Fault) → applies r g ≡ false)
  -- 2. a record of document 01's form is accepted exactly when there is a memory that holds what it shows, from which one unrefused step gives what it shows
  pub accepted_iff : (r : List ℕ) → Bytes (cell r) → Form r
      → (check_def r ≡ Accepted) ↔ ((m : Memory) × Holds r m × (x : List ℕ) × (d : List ℕ) × (h : List ℕ) × Gives r m x d h)
  -- 3. then every such memory does, whatever the input and the hint bytes, and no other byte in it changes
  pub accepted_steps : (r : List ℕ) → check_def r ≡ Accepted → (m : Memory) → Holds r m → (x d h : List ℕ)
      → Gives r m x d h × ((b : ℕ) → Outside (touch_in r) b → (step_from r m x d h).machine.memory b ≡ m b)
  -- 4. every record that the machine fills, for every value of the type `State`, page store and input, is accepted: it fills one for every step that counts and isn't wide
  pub filled_accepted : (x d : List ℕ) (m : Machine) (b : List ℕ) → Bytes (cell m.pages) → Typed (state_in m) → length b ≡ 752
      → (step_def x d m).counts ≡ true → wide m.cpu m.regs (word_at m) ≡ false → check_def (recorded_def x d m b).buf ≡ Accepted
  -- 5. document 01's fourteen examples hold
  pub examples_hold : Every Says examples
