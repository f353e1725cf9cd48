-- What a record shows (document 01, "The step record"): old state 0, new state 360, instruction 720, address 728, old eight 736, new eight 744.
use Rattle.std.specs.Prelude.{ℕ, List, Option}
use Rattle.pages.specs.Bytes.{cell, big}
use Rattle.pages.specs.Memory.{Memory}
use Rattle.interpreter.specs.Effects.{Effect}
use Rattle.interpreter.specs.declared.state.State.{State}
use Rattle.interpreter.specs.Machine.{cpu_of}
use Rattle.interpreter.specs.Plan.{Plan}
use Rattle.interpreter.specs.Layout.{eight, decode_at}
use Rattle.interpreter.specs.Recording.{touched}
use Rattle.interpreter.specs.Shown.{shown_at, effect_shown, plan_shown}

unfoldable pub old_in : List ℕ → State
old_in r = decode_at r 0

unfoldable pub new_in : List ℕ → State
new_in r = decode_at r 360

unfoldable pub word_in : List ℕ → ℕ
word_in r = big 4 (cell r) 720

unfoldable pub address_in : List ℕ → ℕ
address_in r = eight r 728

unfoldable pub old_eight : List ℕ → ℕ
old_eight r = eight r 736

unfoldable pub new_eight : List ℕ → ℕ
new_eight r = eight r 744

-- what the instruction touches, by the old state
unfoldable pub touch_in : List ℕ → Option ℕ
touch_in r = touched (cpu_of (old_in r)) (old_in r).regs (word_in r)

-- all that the record shows of the memory
unfoldable pub memory_in : List ℕ → Memory
memory_in r = shown_at (touch_in r) (old_eight r)

-- what the kernel says of the instruction, and what the definition's machine does
unfoldable pub effect_in : List ℕ → Effect
effect_in r = effect_shown (cpu_of (old_in r)) (old_in r).regs (word_in r) (memory_in r)

unfoldable pub plan_in : List ℕ → Plan
plan_in r = plan_shown (cpu_of (old_in r)) (old_in r).regs (old_in r).key (word_in r) (memory_in r)
