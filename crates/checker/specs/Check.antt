-- The checker (document 01, "The step record"): its refusals 21 to 27, each with its condition.
use Rattle.std.specs.Prelude.{ℕ, ◌+◌, ◌*◌, ◌/◌, ◌%◌, Bool, true, false, ◌&&◌, not, cond, List, [], ◌∷◌, eqb, length, Ok, Err, Option, Some, None}
use Rattle.std.specs.Bool.{beq}
use Rattle.pages.specs.Bytes.{cell, big}
use Rattle.interpreter.specs.Effects.{Effect}
use Rattle.interpreter.specs.declared.effect.Stop.TheVariants.{Refused as RefusedBy, Call as CallBy}
use Rattle.interpreter.specs.declared.state.Cpu.{Cpu}
use Rattle.interpreter.specs.declared.state.State.{State}
use Rattle.interpreter.specs.Machine.{reg, cpu_of, state_of}
use Rattle.interpreter.specs.Inputs.{same}
use Rattle.interpreter.specs.Plan.{Plan, refuse, does, eight_at}
use Rattle.interpreter.specs.Layout.{formed_at}
use Rattle.interpreter.specs.Recording.{wide}
use Rattle.interpreter.specs.Ideal.{remember}
use Rattle.checker.specs.declared.verdict.Fault.{Fault}
use Rattle.checker.specs.declared.verdict.Fault.TheVariants.{Length, Form, AlreadyExited, StepRefused, WideStep, Touch as TouchFault, Result}
use Rattle.checker.specs.Verdicts.{Verdict}
use Rattle.checker.specs.Verdicts.{Accepted, Refused}
use Rattle.checker.specs.Records.{old_in, new_in, word_in, address_in, old_eight, new_eight, touch_in, memory_in, effect_in, plan_in}

-- 21: length
unfoldable pub wrong_length : List ℕ → Bool
wrong_length r = not (eqb (length r) 752)

-- 22: form: in either state exited or rules not 0 or 1 or hint length above 65,536, or a spare byte not zero
unfoldable pub malformed : List ℕ → Bool
malformed r = not (formed_at r 0 && formed_at r 360 && eqb (big 4 (cell r) 724) 0)

-- 23: old state exited
unfoldable pub exited_in : List ℕ → Bool
exited_in r = (old_in r).exited

-- 24: the step is refused 2 to 7
abbrev pub refuses : Effect → Bool
refuses (Err (RefusedBy n)) = true
refuses (Err CallBy) = false
refuses (Ok e) = false

unfoldable pub refused_in : List ℕ → Bool
refused_in r = refuses (effect_in r)

-- 25: wide
unfoldable pub wide_in : List ℕ → Bool
wide_in r = wide (cpu_of (old_in r)) (old_in r).regs (word_in r)

-- 26: address wrong, touch fields not zero without a touch,
abbrev pub placed : List ℕ → Option ℕ → Bool
placed r None = eqb (address_in r) 0 && eqb (old_eight r) 0 && eqb (new_eight r) 0
placed r (Some a) = eqb (address_in r) a

-- or an instruction that disagrees with the old bytes holding it: pc is in the touched doubleword, and the four bytes there are others
abbrev pub agrees : List ℕ → ℕ → Option ℕ → Bool
agrees r pc None = true
agrees r pc (Some a) = cond (eqb (pc / 8 * 8) a) (eqb (big 4 (cell r) (736 + pc % 8)) (word_in r)) true

unfoldable pub misplaced : List ℕ → Bool
misplaced r = not (placed r (touch_in r) && agrees r (old_in r).pc (touch_in r))

-- 27: new state or new bytes differ
unfoldable pub same_numbers : Cpu → Cpu → Bool
same_numbers c d =
    eqb c.pc d.pc
    && eqb c.next d.next
    && eqb c.hi d.hi
    && eqb c.lo d.lo
    && eqb c.heap d.heap
    && eqb c.step d.step
    && eqb c.offset d.offset
    && eqb c.hint d.hint
    && beq c.exited d.exited
    && eqb c.code d.code
    && eqb c.rules d.rules

unfoldable pub same_state : State → State → Bool
same_state s t = same 32 (reg s.regs) 0 (reg t.regs) 0 && same 32 (cell s.key) 0 (cell t.key) 0 && same_numbers (cpu_of s) (cpu_of t)

abbrev pub gives : List ℕ → Plan → Bool
gives r (refuse n) = false
gives r (does d) = same_state (state_of d.cpu d.regs d.key) (new_in r) && eqb (eight_at (remember (memory_in r) d.store) (touch_in r)) (new_eight r)

unfoldable pub differs : List ℕ → Bool
differs r = not (gives r (plan_in r))

-- ---- the first that applies

unfoldable pub applies : List ℕ → Fault → Bool
applies r Length = wrong_length r
applies r Form = malformed r
applies r AlreadyExited = exited_in r
applies r StepRefused = refused_in r
applies r WideStep = wide_in r
applies r TouchFault = misplaced r
applies r Result = differs r

unfoldable pub first_fault : (Fault → Bool) → List Fault → Verdict
first_fault p [] = Accepted
first_fault p (f ∷ fs) = cond (p f) (Refused f) (first_fault p fs)

-- document 01's order
abbrev pub order : List Fault
order = Length ∷ Form ∷ AlreadyExited ∷ StepRefused ∷ WideStep ∷ TouchFault ∷ Result ∷ []

unfoldable pub check_def : List ℕ → Verdict
check_def r = first_fault (applies r) order
