-- One step over the lent buffers (document 01, "One step" and "Numbers a refusal carries").
use Rattle.std.specs.Prelude.{ℕ, Bool, true, false, cond, List, length, nat_le, Result, Ok, Err}
use Rattle.std.proofs.lemmas.List.Edits.{sets}
use Rattle.pages.specs.Bytes.{cell, row}
use Rattle.pages.specs.Pages.{byte_at}
use Rattle.pages.specs.Calls.{Set, stored, set_def}
use Rattle.pages.specs.declared.memory.StoreError.{StoreError}
use Rattle.interpreter.specs.Effects.{refusal_number}
use Rattle.interpreter.specs.declared.effect.Refusal.{Refusal}
use Rattle.interpreter.specs.declared.effect.Refusal.TheVariants.{BadMachine, MemoryFull}
use Rattle.interpreter.specs.declared.state.Cpu.{Cpu}
use Rattle.interpreter.specs.declared.step.Answer.{Answer}
use Rattle.interpreter.specs.declared.step.Answer.TheVariants.{Stepped, Wrote, Hint, Exited, Refused}
use Rattle.interpreter.specs.declared.step.Values.{Values}
use Rattle.interpreter.specs.declared.state.State.{State}
use Rattle.interpreter.specs.declared.step.Finished.{Finished}
use Rattle.interpreter.specs.declared.step.InPlace.{InPlace}
use Rattle.interpreter.specs.Machine.{Machine, machine, cpu_of, counted, room_of, bad}
use Rattle.interpreter.specs.Plan.{View, Plan, refuse, does, Deed, Store, keeps, stores, plan}

-- document 01's answers in numbers: which one, counted from 0 in document 01's order, and its values: of Wrote stream and count,
-- of Hint the bytes without their length, of Exited the code, of Refused the number
abbrev pub values : ℕ → ℕ → ℕ → Values
values n a b = record { kind = n; first = a; second = b }

unfoldable pub values_of : Answer → Values
values_of Stepped = values 0 0 0
values_of (Wrote stream count) = values 1 stream count
values_of (Hint count) = values 2 count 0
values_of (Exited code) = values 3 code 0
values_of (Refused r) = values 4 (refusal_number r) 0

-- what a step leaves: its answer, the machine, and whether it was an unrefused step from an unexited state
pub record Left : Type 0 where
  pub answer : Answer
  pub machine : Machine
  pub counts : Bool

abbrev pub left : Answer → Machine → Bool → Left
left a m b = record { answer = a; machine = m; counts = b }

abbrev pub with_cpu : Machine → Cpu → Machine
with_cpu m c = machine c m.regs m.key m.used m.pages m.hint m.output

-- a refusal changes nothing
abbrev pub refused : Machine → Refusal → Left
refused m n = left (Refused n) m false

-- the deed on a machine whose pages are such now: appended bytes go behind the held ones, output to the front of its buffer
unfoldable pub settled : Machine → Deed → ℕ → List ℕ → Left
settled m d u p = left d.answer (machine d.cpu d.regs d.key u p (sets m.hint m.cpu.hint d.appended) (sets m.output 0 d.written)) true

-- a store that finds no record left is refused, with the whole deed. A store's other refusals cannot come (`put_full` in
-- proofs/Laws/Kept): the address is a doubleword's, and the used records are there
abbrev pub landed : Machine → Deed → List ℕ → Result ℕ StoreError → Left
landed m d p (Ok u) = settled m d u p
landed m d p (Err e) = refused m MemoryFull

abbrev pub landing : Machine → Deed → Set → Left
landing m d s = landed m d s.pages s.answer

abbrev pub putting : List ℕ → ℕ → Store → Set
putting p u keeps = stored (Ok u) p
putting p u (stores a x) = set_def 8 p u a x

unfoldable pub lay : Machine → Plan → Left
lay m (refuse n) = refused m n
lay m (does d) = landing m d (putting m.pages m.used d.store)

-- what a step looks at
unfoldable pub view_of : List ℕ → List ℕ → Machine → View
view_of x d m = record { cpu = m.cpu; regs = m.regs; key = m.key; memory = byte_at m.pages m.used; held = row (cell m.hint) 0 m.cpu.hint; room = room_of m.hint; fits = λ n. nat_le n (length m.output); index = x; input = d }

-- a plan carried out
unfoldable pub working : List ℕ → List ℕ → Machine → (View → Plan) → Left
working x d m f = lay m (f (view_of x d m))

-- from an exited state nothing changes; otherwise the step is counted, also where a refusal follows
unfoldable pub advance : List ℕ → List ℕ → Machine → Left
advance x d m = cond m.cpu.exited (left (Exited m.cpu.code) m false) (working x d (with_cpu m (counted m.cpu)) plan)

-- 1 precedes all
unfoldable pub step_def : List ℕ → List ℕ → Machine → Left
step_def x d m = cond (bad m) (refused m BadMachine) (advance x d m)

-- ---- the same of a state by value

abbrev pub machine_of : State → ℕ → List ℕ → List ℕ → List ℕ → Machine
machine_of s u p h o = machine (cpu_of s) s.regs s.key u p h o

-- what the step by value leaves, with the lent bytes as they are then
abbrev pub finished : Finished → List ℕ → List ℕ → List ℕ → Left
finished f p h o = left f.answer (machine_of f.state f.used p h o) f.counts

-- what the step in place leaves, with the state that stands there then
abbrev pub in_place : InPlace → State → Finished
in_place r s = record { answer = r.answer; state = s; used = r.used; counts = r.counts }
