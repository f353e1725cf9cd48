-- The definition's machine (document 01, "One step"): a memory that is a function of addresses, with no page limit, no output limit and hint room 65,536.
use Rattle.std.specs.Prelude.{◌≡◌, ℕ, ◌≤◌, Bool, true, false, cond, List, [], ◌++◌, length}
use Rattle.std.proofs.lemmas.List.Edits.{sets}
use Rattle.pages.specs.Bytes.{cell, row, bytes_of}
use Rattle.pages.specs.Memory.{Memory, write}
use Rattle.pages.specs.Pages.{byte_at}
use Rattle.interpreter.specs.declared.effect.Refusal.{Refusal}
use Rattle.interpreter.specs.declared.effect.Refusal.TheVariants.{BadMachine, PcMisaligned, Reserved, DelaySlot, DivideByZero, Overflow, AddressError, MemoryFull, NoRoom, NoInput, InputOffset, HintShort, HintText}
use Rattle.interpreter.specs.declared.state.Cpu.{Cpu}
use Rattle.interpreter.specs.declared.step.Answer.{Answer}
use Rattle.interpreter.specs.declared.step.Answer.TheVariants.{Stepped, Wrote, Hint, Exited, Refused}
use Rattle.interpreter.specs.Machine.{Machine, counted, hint_room}
use Rattle.interpreter.specs.Plan.{View, Store, keeps, stores, Plan, refuse, does, plan}
use Rattle.interpreter.specs.Step.{step_def}

-- held: the hint bytes held
pub record Ideal : Type 0 where
  pub cpu : Cpu
  pub regs : List ℕ
  pub key : List ℕ
  pub memory : Memory
  pub held : List ℕ

abbrev pub ideal : Cpu → List ℕ → List ℕ → Memory → List ℕ → Ideal
ideal c r k m h = record { cpu = c; regs = r; key = k; memory = m; held = h }

-- written: the bytes that the step puts out
pub record Outcome : Type 0 where
  pub answer : Answer
  pub machine : Ideal
  pub written : List ℕ

abbrev pub outcome : Answer → Ideal → List ℕ → Outcome
outcome a i w = record { answer = a; machine = i; written = w }

-- what its step looks at: all output fits
unfoldable pub ideal_view : List ℕ → List ℕ → Ideal → View
ideal_view x d i = record { cpu = i.cpu; regs = i.regs; key = i.key; memory = i.memory; held = i.held; room = hint_room; fits = λ n. true; index = x; input = d }

-- a store is always made
abbrev pub remember : Memory → Store → Memory
remember m keeps = m
remember m (stores a v) = write m a (bytes_of 8 v)

-- the bytes held once those are appended, of which n stay
abbrev pub holding : List ℕ → List ℕ → ℕ → List ℕ
holding held appended n = row (cell (held ++ appended)) 0 n

unfoldable pub follow : Ideal → Plan → Outcome
follow i (refuse n) = outcome (Refused n) i []
follow i (does d) = outcome d.answer (ideal d.cpu d.regs d.key (remember i.memory d.store) (holding i.held d.appended d.cpu.hint)) d.written

abbrev pub counting : Ideal → Ideal
counting i = ideal (counted i.cpu) i.regs i.key i.memory i.held

-- one step: as ours, the plan carried out on this machine
unfoldable pub ideal_step : List ℕ → List ℕ → Ideal → Outcome
ideal_step x d i = cond i.cpu.exited (outcome (Exited i.cpu.code) i []) (follow (counting i) (plan (ideal_view x d (counting i))))

-- ---- ours against it

-- the machine that ours means
unfoldable pub meant : Machine → Ideal
meant m = ideal m.cpu m.regs m.key (byte_at m.pages m.used) (row (cell m.hint) 0 m.cpu.hint)

abbrev pub sparing : Refusal → Bool
sparing BadMachine = true
sparing PcMisaligned = true
sparing Reserved = true
sparing DelaySlot = true
sparing DivideByZero = true
sparing Overflow = true
sparing AddressError = true
sparing MemoryFull = false
sparing NoRoom = false
sparing NoInput = true
sparing InputOffset = true
sparing HintShort = true
sparing HintText = true

-- not refused with 8 or 9
unfoldable pub spared : Answer → Bool
spared Stepped = true
spared (Wrote stream count) = true
spared (Hint count) = true
spared (Exited code) = true
spared (Refused n) = sparing n

-- our step does what its step does on the machine that ours means, and the output buffer takes all that it puts out
pub record Follows (x d : List ℕ) (m : Machine) : Type 0 where
  pub answer : (step_def x d m).answer ≡ (ideal_step x d (meant m)).answer
  pub machine : meant (step_def x d m).machine ≡ (ideal_step x d (meant m)).machine
  pub output : (step_def x d m).machine.output ≡ sets m.output 0 (ideal_step x d (meant m)).written
  pub fits : length (ideal_step x d (meant m)).written ≤ length m.output
