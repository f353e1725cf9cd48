-- The machine on what is lent to it: what its private parts leave. No public promise rests on these.
use Rattle.std.specs.Prelude.{ℕ, ◌≡◌, List, true, false, Result, Ok, Err}
use Rattle.pages.specs.Calls.{Set}
use Rattle.pages.specs.declared.memory.StoreError.{StoreError}
use Rattle.interpreter.specs.declared.effect.Refusal.{Refusal}
use Rattle.interpreter.specs.declared.effect.Refusal.TheVariants.{MemoryFull}
use Rattle.interpreter.specs.declared.step.Answer.{Answer}
use Rattle.interpreter.specs.declared.step.Answer.TheVariants.{Refused}
use Rattle.interpreter.specs.declared.machine.Machine.{Machine as Lent}
use Rattle.interpreter.specs.Machine.{Machine, machine}
use Rattle.interpreter.specs.Step.{Left, left}

-- the machine that it is
abbrev pub held : Lent → Machine
held m = machine m.cpu m.regs.now m.key.now m.used m.pages.now m.hint.now m.output.now

-- the input's index and data
abbrev pub index_in : Lent → List ℕ
index_in m = m.input.index.now

abbrev pub data_in : Lent → List ℕ
data_in m = m.input.bytes.now

-- the same is lent
pub record SameLoans (m n : Lent) : Type 0 where
  pub regs : n.regs.ghost_name ≡ m.regs.ghost_name
  pub key : n.key.ghost_name ≡ m.key.ghost_name
  pub pages : n.pages.ghost_name ≡ m.pages.ghost_name
  pub hint : n.hint.ghost_name ≡ m.hint.ghost_name
  pub output : n.output.ghost_name ≡ m.output.ghost_name
  pub input : n.input ≡ m.input

-- with other registers
abbrev pub with_regs : Machine → List ℕ → Machine
with_regs m r = machine m.cpu r m.key m.used m.pages m.hint m.output

-- what a step's work leaves: it counts where it is not refused
abbrev pub worked : Result Answer Refusal → Machine → Left
worked (Ok a) m = left a m true
worked (Err n) m = left (Refused n) m false

-- ---- a store

pub record Kept : Type 0 where
  pub made : Result (Unit {0}) Refusal
  pub machine : Machine

abbrev pub kept : Result (Unit {0}) Refusal → Machine → Kept
kept r m = record { made = r; machine = m }

-- the machine once the pages are these, or as it was where no record was left
abbrev pub put_as : Machine → List ℕ → Result ℕ StoreError → Kept
put_as m p (Ok u) = kept (Ok tt) (machine m.cpu m.regs m.key u p m.hint m.output)
put_as m p (Err e) = kept (Err MemoryFull) m

abbrev pub put_by : Machine → Set → Kept
put_by m s = put_as m s.pages s.answer
