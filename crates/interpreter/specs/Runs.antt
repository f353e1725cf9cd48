-- The step repeated (document 01, "One step", its paragraph on `run`).
use Rattle.std.specs.Prelude.{◌≡◌, ℕ, zero, suc, ◌+◌, ◌<◌, ◌≤◌, Bool, true, false, cond, not, ◌&&◌, List}
use Rattle.interpreter.specs.declared.step.Answer.{Answer}
use Rattle.interpreter.specs.declared.step.Answer.TheVariants.{Stepped, Wrote, Hint, Exited, Refused}
use Rattle.interpreter.specs.declared.run.Stopped.{Stopped}
use Rattle.interpreter.specs.Machine.{Machine}
use Rattle.interpreter.specs.Step.{Left, step_def, machine_of}

-- what a run leaves: the last call's answer, the machine, and the count
pub record Ran : Type 0 where
  pub answer : Answer
  pub machine : Machine
  pub count : ℕ

abbrev pub ran : Answer → Machine → ℕ → Ran
ran a m n = record { answer = a; machine = m; count = n }

abbrev pub is_stepped : Answer → Bool
is_stepped Stepped = true
is_stepped (Wrote stream count) = false
is_stepped (Hint count) = false
is_stepped (Exited code) = false
is_stepped (Refused r) = false

abbrev pub is_refused : Answer → Bool
is_refused Stepped = false
is_refused (Wrote stream count) = false
is_refused (Hint count) = false
is_refused (Exited code) = false
is_refused (Refused r) = true

abbrev pub tally : Bool → ℕ
tally true = 1
tally false = 0

-- the same with so many more in the count
abbrev pub more : ℕ → Ran → Ran
more n r = ran r.answer r.machine (n + r.count)

-- a call that answered something other than Stepped is the last one
abbrev pub ended : Left → Ran
ended l = ran l.answer l.machine (tally l.counts)

-- a call, and what the calls after it leave where there are any
abbrev pub onto : Left → Ran → Ran
onto l r = cond (is_stepped l.answer) (more 1 r) (ended l)

unfoldable pub run_def : List ℕ → List ℕ → ℕ → Machine → Ran
run_def x d zero m = ran Stepped m 0
run_def x d (suc n) m = onto (step_def x d m) (run_def x d n (step_def x d m).machine)

-- ---- the same of what the code answers, with the lent bytes as they are then

abbrev pub stopped : Stopped → List ℕ → List ℕ → List ℕ → Ran
stopped e p h o = ran e.answer (machine_of e.state e.used p h o) e.count

-- ---- document 01's wording, which `run_repeats` and `repeats_run` (proofs/Laws/Runs) say of run_def

-- the definition's step, so many times
unfoldable pub steps : List ℕ → List ℕ → ℕ → Machine → Machine
steps x d zero m = m
steps x d (suc n) m = steps x d n (step_def x d m).machine

-- the answer of the last of so many calls; Stepped where none is made
abbrev pub last_of : List ℕ → List ℕ → ℕ → Machine → Answer
last_of x d zero m = Stepped
last_of x d (suc n) m = (step_def x d (steps x d n m)).answer

-- an unrefused step from an unexited state
abbrev pub works : List ℕ → List ℕ → Machine → Bool
works x d m = not (is_refused (step_def x d m).answer) && not m.cpu.exited

-- the calls made are the counted ones, and one more only where a refusal or an already exited state stopped it
pub data Counted (x d : List ℕ) (m : Machine) (calls count : ℕ) : Type 0 where
  all : calls ≡ count → Counted x d m calls count
  one_more : calls ≡ count + 1 → works x d (steps x d count m) ≡ false → Counted x d m calls count

pub record Repeats (x d : List ℕ) (budget : ℕ) (m : Machine) (r : Ran) : Type 0 where
  -- how many calls are made: at most the budget
  pub calls : ℕ
  pub within : calls ≤ budget
  -- a call is made only while the answer is Stepped
  pub until : (n : ℕ) → n < calls → last_of x d n m ≡ Stepped
  -- and never fewer
  pub never : last_of x d calls m ≡ Stepped → calls ≡ budget
  -- the count is of unrefused steps from unexited states
  pub counts : (n : ℕ) → n < r.count → works x d (steps x d n m) ≡ true
  pub counted : Counted x d m calls r.count
  -- the definition's step that many times, and the last call's answer
  pub leaves : r.machine ≡ steps x d calls m
  pub answers : r.answer ≡ last_of x d calls m
