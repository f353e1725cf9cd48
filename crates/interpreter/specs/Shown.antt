-- The step that a record shows (document 01, "The step record"): made from a state, the instruction and the touched eight bytes alone.
use Rattle.std.specs.Prelude.{ℕ, ◌+◌, ◌<◌, ◌≤◌, cond, List, [], Ok, Err, Option, Some, None, Result}
use Rattle.pages.specs.Bytes.{bytes_of}
use Rattle.pages.specs.Memory.{Memory, write}
use Rattle.interpreter.specs.Kernel.{kernel_def}
use Rattle.interpreter.specs.Effects.{Effect}
use Rattle.interpreter.specs.declared.effect.Stop.TheVariants.{Refused as RefusedBy, Call as CallBy}
use Rattle.interpreter.specs.declared.state.Cpu.{Cpu}
use Rattle.interpreter.specs.declared.shown.Shown.{Shown}
use Rattle.interpreter.specs.declared.shown.Unshown.{Unshown}
use Rattle.interpreter.specs.declared.shown.Unshown.TheVariants.{Refused, Wide}
use Rattle.interpreter.specs.Machine.{counted}
use Rattle.interpreter.specs.Plan.{Plan, refuse, does, eight_at, ins_of, touch_of, executing}
use Rattle.interpreter.specs.Ideal.{ideal, ideal_view, remember}
use Rattle.interpreter.specs.Recording.{wide, touched}

-- what is known of the memory: the touched eight bytes x; every other byte is taken as zero
unfoldable pub shown_at : Option ℕ → ℕ → Memory
shown_at None x = λ b. 0
shown_at (Some a) x = write (λ b. 0) a (bytes_of 8 x)

-- an address that is none of the touched eight
abbrev pub Outside : Option ℕ → ℕ → Type 0
Outside None b = Unit {0}
Outside (Some a) b = (a ≤ b → b < a + 8 → ⊥)

-- what the kernel says of the instruction w
unfoldable pub effect_shown : Cpu → List ℕ → ℕ → Memory → Effect
effect_shown c r w m = kernel_def (ins_of (counted c) r w (eight_at m (touch_of r w)))

-- what the definition's machine does, with no input and no hint bytes
unfoldable pub plan_shown : Cpu → List ℕ → List ℕ → ℕ → Memory → Plan
plan_shown c r k w m = executing (ideal_view [] [] (ideal (counted c) r k m [])) w (touch_of r w)

-- ---- the step, with registers and key as they are then

pub record Showing : Type 0 where
  pub made : Result Shown Unshown
  pub regs : List ℕ
  pub key : List ℕ

abbrev pub shown : Result Shown Unshown → List ℕ → List ℕ → Showing
shown s r k = record { made = s; regs = r; key = k }

-- a step that was made: the numbers, what was touched, and the touched eight bytes afterwards
abbrev pub stepped : Cpu → Option ℕ → ℕ → Result Shown Unshown
stepped c t x = Ok (record { cpu = c; touch = t; eight = x })

-- the plan carried out
abbrev pub made_by : List ℕ → List ℕ → Memory → Option ℕ → Plan → Showing
made_by r k m t (refuse n) = shown (Err (Refused n)) r k
made_by r k m t (does d) = shown (stepped d.cpu t (eight_at (remember m d.store) t)) d.regs d.key

abbrev pub unless_refused : List ℕ → List ℕ → Effect → Showing → Showing
unless_refused r k (Err (RefusedBy n)) s = shown (Err (Refused n)) r k
unless_refused r k (Err CallBy) s = s
unless_refused r k (Ok e) s = s

-- refused with 2 to 7 first, then wide
unfoldable pub made_with : Cpu → List ℕ → List ℕ → ℕ → Option ℕ → Memory → Showing
made_with c r k w t m = unless_refused r k (effect_shown c r w m) (cond (wide c r w) (shown (Err Wide) r k) (made_by r k m t (plan_shown c r k w m)))

-- where the touched eight bytes are x
unfoldable pub step_shown : Cpu → List ℕ → List ℕ → ℕ → ℕ → Showing
step_shown c r k w x = made_with c r k w (touched c r w) (shown_at (touched c r w) x)
