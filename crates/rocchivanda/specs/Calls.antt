-- What each function of the interface answers, and what it leaves in every byte and number that it was lent.
use Rattle.std.specs.Prelude.{ℕ, Bool, ◌&&◌, cond, List, [], ◌∷◌, eqb, leb, length, Ok, Err, is_some}
use Rattle.std.proofs.lemmas.List.Edits.{sets}
use Rattle.pages.specs.Bytes.{cell, big}
use Rattle.interpreter.specs.declared.effect.Refusal.TheVariants.{BadMachine}
use Rattle.interpreter.specs.declared.step.Answer.{Answer}
use Rattle.interpreter.specs.declared.step.Answer.TheVariants.{Stepped, Refused}
use Rattle.interpreter.specs.declared.step.Values.{Values}
use Rattle.interpreter.specs.Machine.{Machine, reg}
use Rattle.interpreter.specs.Layout.{encode, decode_at, decode_def}
use Rattle.interpreter.specs.Step.{values_of, machine_of, step_def}
use Rattle.interpreter.specs.Recording.{Recorded, state_in, recorded_def}
use Rattle.interpreter.specs.Runs.{Ran, ran, ended, run_def}
use Rattle.checker.specs.Verdicts.{Verdict, fault_number}
use Rattle.checker.specs.Check.{check_def}

-- what a caller lends to be changed
pub record Lent : Type 0 where
  pub state : List ℕ
  pub pages : List ℕ
  pub hint : List ℕ
  pub output : List ℕ
  pub answer : List ℕ

abbrev pub lent : List ℕ → List ℕ → List ℕ → List ℕ → List ℕ → Lent
lent s p h o a = record { state = s; pages = p; hint = h; output = o; answer = a }

-- what a call leaves: its result, and all that it was lent
pub record Called : Type 0 where
  pub result : ℕ
  pub lent : Lent

abbrev pub called : ℕ → Lent → Called
called n l = record { result = n; lent = l }

-- ---- what is lent, as a machine

-- 360 bytes, exited 0 or 1, the five spare bytes zero
unfoldable pub well_formed : List ℕ → Bool
well_formed s = eqb (length s) 360 && leb (cell s 352) 1 && eqb (big 5 (cell s) 355) 0

-- the used page records come in the answer's entry 0
unfoldable pub machine_in : Lent → Machine
machine_in l = machine_of (decode_at l.state 0) (reg l.answer 0) l.pages l.hint l.output

-- ---- how a call ends

-- the entries: used page records, the answer's two values, the count; those after the fourth stay
unfoldable pub told : List ℕ → ℕ → Values → ℕ → List ℕ
told a used v count = sets a 0 (used ∷ v.first ∷ v.second ∷ count ∷ [])

-- the result is the answer's kind; s are the state's bytes now
unfoldable pub ends : List ℕ → List ℕ → Ran → Called
ends a s r = called (values_of r.answer).kind (lent s r.machine.pages r.machine.hint r.machine.output (told a r.machine.used (values_of r.answer) r.count))

-- with the state that the machine has now
abbrev pub leaves : List ℕ → Ran → Called
leaves a r = ends a (encode (state_in r.machine)) r

-- nothing but the answer changes, and its entry 0 stays too
abbrev pub stays : Lent → Answer → Called
stays l a = ends l.answer l.state (ran a (machine_in l) 0)

-- fewer than four entries: the result is 4 and nothing changes. Bytes that `decode_def` takes for no state stay, and the answer is
-- that of a call without one. Of well-formed bytes it refuses only rules above 1 and a hint length above 65,536, which refusal 1
-- names (`beyond_step` and `beyond_run` in proofs/Laws/Beyond)
unfoldable pub calling : Lent → Answer → Ran → Called
calling l without r = cond (leb 4 (length l.answer)) (cond (is_some (decode_def l.state)) (leaves l.answer r) (stays l without)) (called 4 l)

-- ---- the five functions: x is the input index, d the input data

-- a step counts 1 where a run would count it
unfoldable pub step_call : List ℕ → List ℕ → Lent → Called
step_call x d l = calling l (Refused BadMachine) (ended (step_def x d (machine_in l)))

-- budget 0 makes no step and asks for nothing but a well-formed state
unfoldable pub idle : ℕ → List ℕ → Answer
idle budget s = cond (eqb budget 0 && well_formed s) Stepped (Refused BadMachine)

unfoldable pub run_call : List ℕ → List ℕ → ℕ → Lent → Called
run_call x d budget l = calling l (idle budget l.state) (run_def x d budget (machine_in l))

pub record Filed : Type 0 where
  pub called : Called
  pub buf : List ℕ

abbrev pub filed : Called → List ℕ → Filed
filed c b = record { called = c; buf = b }

-- without four entries and a state the record buffer b stays too
abbrev pub filing : Lent → List ℕ → Recorded → Filed
filing l b r = filed (calling l (Refused BadMachine) (ended r.left)) (cond (leb 4 (length l.answer) && is_some (decode_def l.state)) r.buf b)

unfoldable pub record_call : List ℕ → List ℕ → Lent → List ℕ → Filed
record_call x d l b = filing l b (recorded_def x d (machine_in l) b)

-- 0 for accepted
abbrev pub verdict_number : Verdict → ℕ
verdict_number (Ok u) = 0
verdict_number (Err f) = fault_number f

unfoldable pub check_call : List ℕ → ℕ
check_call b = verdict_number (check_def b)

-- the number of this interface
abbrev pub version : ℕ
version = 1
