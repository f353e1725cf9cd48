-- What one step does (document 01, "One step", "System calls, both rules"), as a function of what it may look at.
-- Our machine and the definition's machine have this plan in common: they part only in the room they have.
use Rattle.std.specs.Prelude.{ℕ, ◌+◌, ◌*◌, ◌/◌, ◌%◌, Bool, cond, List, [], ◌++◌, length, nat_lt, Ok, Err, Option, Some, None, Result}
use Rattle.pages.specs.Bytes.{cell, row, big, bytes_of}
use Rattle.pages.specs.Memory.{Memory, span}
use Rattle.interpreter.specs.Words.{word, plus}
use Rattle.interpreter.specs.Isa.{rs_of, rt_of}
use Rattle.interpreter.specs.Kernel.{kernel_def, touch_def}
use Rattle.interpreter.specs.declared.effect.Ins.{Ins}
use Rattle.interpreter.specs.declared.effect.Change.{Change}
use Rattle.interpreter.specs.Effects.{Effect}
use Rattle.interpreter.specs.declared.effect.Stop.TheVariants.{Refused as RefusedBy, Call as CallBy}
use Rattle.interpreter.specs.declared.effect.Refusal.{Refusal}
use Rattle.interpreter.specs.declared.effect.Refusal.TheVariants.{NoRoom, NoInput, InputOffset}
use Rattle.interpreter.specs.declared.state.Cpu.{Cpu}
use Rattle.interpreter.specs.declared.step.Answer.{Answer}
use Rattle.interpreter.specs.declared.step.Answer.TheVariants.{Stepped, Wrote, Hint, Exited}
use Rattle.interpreter.specs.declared.linux.Call.{Call}
use Rattle.interpreter.specs.declared.linux.Call.TheVariants.{Answer as Reply, Heap, Exit, Key, Input, Write, Hint as HintWrite}
use Rattle.interpreter.specs.declared.input.Entry.{Entry}
use Rattle.interpreter.specs.Machine.{reg, set_reg, answering, changed, onward, leaving}
use Rattle.interpreter.specs.Calls.{call_of}
use Rattle.interpreter.specs.Inputs.{entry_of, inside, part_of, moving, moved, merged, shifting, shifted}
use Rattle.interpreter.specs.Hints.{text_of, heard}

-- what a step looks at: the state's numbers with the step counted, registers, key, memory, the held hint bytes and their room,
-- whether so many output bytes fit, the input's index and data
pub record View : Type 0 where
  pub cpu : Cpu
  pub regs : List ℕ
  pub key : List ℕ
  pub memory : Memory
  pub held : List ℕ
  pub room : ℕ
  pub fits : ℕ → Bool
  pub index : List ℕ
  pub input : List ℕ

-- at most one doubleword is stored
pub data Store : Type 0 where
  keeps : Store
  stores : ℕ → ℕ → Store

-- what a step does: its answer, the numbers, registers and key afterwards, what it stores, appends to the hint and writes to the output
pub record Deed : Type 0 where
  pub answer : Answer
  pub cpu : Cpu
  pub regs : List ℕ
  pub key : List ℕ
  pub store : Store
  pub appended : List ℕ
  pub written : List ℕ

pub data Plan : Type 0 where
  refuse : Refusal → Plan
  does : Deed → Plan

-- ---- an instruction that is no system call

-- the eight bytes that it reads; 0 where it touches none
abbrev pub eight_at : Memory → Option ℕ → ℕ
eight_at m None = 0
eight_at m (Some a) = big 8 m a

-- what is stored there, where the eight bytes afterwards are stored
abbrev pub store_of : Option ℕ → Option ℕ → Store
store_of None m = keeps
store_of (Some a) (Some m) = stores a m
store_of (Some a) None = keeps

abbrev pub storing : Option ℕ → Change → Store
storing t e = store_of t e.store

unfoldable pub changing : View → Option ℕ → Change → Deed
changing v t e = record { answer = Stepped; cpu = changed v.cpu e; regs = set_reg v.regs e.dest e.value; key = v.key; store = storing t e; appended = []; written = [] }

-- ---- system calls: arguments

abbrev pub a1 : View → ℕ
a1 v = reg v.regs 5

abbrev pub a2 : View → ℕ
a2 v = reg v.regs 6

-- the doubleword that a1 lies in
abbrev pub place : View → ℕ
place v = a1 v / 8 * 8

-- number: low word of register 2; descriptor: low word of a0
unfoldable pub call_in : Cpu → List ℕ → Call
call_in c r = call_of (word (reg r 2)) (word (reg r 4)) (reg r 4) (reg r 5) (reg r 6) c.heap

-- ---- system calls: what each does

-- the call answers x with error e, and the numbers become c
unfoldable pub replying : View → ℕ → ℕ → Cpu → Deed
replying v x e c = record { answer = Stepped; cpu = c; regs = answering v.regs x e; key = v.key; store = keeps; appended = []; written = [] }

-- nothing but pc and next_pc changes in the numbers
abbrev pub staying : Cpu → Cpu
staying c = onward c c.heap c.offset c.hint

unfoldable pub exiting : View → ℕ → Deed
exiting v n = record { answer = Exited n; cpu = leaving v.cpu n; regs = v.regs; key = v.key; store = keeps; appended = []; written = [] }

-- 5001 on 6: the bytes from a1 on that lie in its doubleword x, at most a2 of them, go into the key's end
unfoldable pub keying : View → ℕ → Deed
keying v x = record { answer = Stepped; cpu = onward v.cpu v.cpu.heap 0 v.cpu.hint; regs = answering v.regs (shifting (a1 v) (a2 v)) 0; key = shifted v.key (row (cell (bytes_of 8 x)) (a1 v % 8) (shifting (a1 v) (a2 v))); store = keeps; appended = []; written = [] }

-- 5001 on 1 and 2
unfoldable pub wrote : View → ℕ → Deed
wrote v s = record { answer = Wrote s (a2 v); cpu = staying v.cpu; regs = answering v.regs (a2 v) 0; key = v.key; store = keeps; appended = []; written = span v.memory (a1 v) (a2 v) }

unfoldable pub writing : View → ℕ → Plan
writing v s = cond (v.fits (a2 v)) (does (wrote v s)) (refuse NoRoom)

-- 5001 on 4: the answer, the hint length afterwards, and what is handed out
unfoldable pub hinted : View → Answer → ℕ → List ℕ → Deed
hinted v r n text = record { answer = r; cpu = onward v.cpu v.cpu.heap v.cpu.offset n; regs = answering v.regs (a2 v) 0; key = v.key; store = keeps; appended = span v.memory (a1 v) (a2 v); written = text }

abbrev pub hearing : View → List ℕ → Result (Option ℕ) Refusal → Plan
hearing v t (Err n) = refuse n
hearing v t (Ok None) = does (hinted v Stepped (length t) [])
hearing v t (Ok (Some n)) = does (hinted v (Hint n) 0 (text_of t))

-- the bytes held once those from a1 on are appended
abbrev pub together : View → List ℕ
together v = v.held ++ span v.memory (a1 v) (a2 v)

-- 9 for the hint buffer comes first; the sum is not wrapped
unfoldable pub hinting : View → Plan
hinting v = cond (nat_lt v.room (length v.held + a2 v)) (refuse NoRoom) (hearing v (together v) (heard (together v) v.fits))

-- 5000 on 5: n bytes of the preimage d go into the doubleword that a1 lies in
unfoldable pub read : View → List ℕ → ℕ → Deed
read v d n = record { answer = Stepped; cpu = onward v.cpu v.cpu.heap (plus v.cpu.offset n) v.cpu.hint; regs = answering v.regs n 0; key = v.key; store = stores (place v) (merged (big 8 v.memory (place v)) (a1 v % 8) (moved d v.cpu.offset n)); appended = []; written = [] }

abbrev pub read_from : View → List ℕ → Deed
read_from v d = read v d (moving (length d) v.cpu.offset (a1 v) (a2 v))

-- 11 comes after 10, and before 8
unfoldable pub reading_in : View → List ℕ → Plan
reading_in v d = cond (nat_lt (8 + length d) v.cpu.offset) (refuse InputOffset) (does (read_from v d))

abbrev pub reading_at : View → Option Entry → Plan
reading_at v None = refuse NoInput
reading_at v (Some e) = cond (inside v.input e.start e.length) (reading_in v (part_of v.input e.start e.length)) (refuse NoInput)

unfoldable pub reading : View → Plan
reading v = reading_at v (entry_of v.index v.key)

unfoldable pub calling : View → Call → Plan
calling v (Reply x e) = does (replying v x e (staying v.cpu))
calling v (Heap h) = does (replying v v.cpu.heap 0 (onward v.cpu h v.cpu.offset v.cpu.hint))
calling v (Exit n) = does (exiting v n)
calling v Key = does (keying v (big 8 v.memory (place v)))
calling v Input = reading v
calling v (Write s) = writing v s
calling v HintWrite = hinting v

-- ---- the whole step

-- all that the instruction w reads, where it touches the eight bytes x
unfoldable pub ins_of : Cpu → List ℕ → ℕ → ℕ → Ins
ins_of c r w x = record { rules = c.rules; word = w; rs = reg r (rs_of w); rt = reg r (rt_of w); pc = c.pc; next = c.next; hi = c.hi; lo = c.lo; mem = x }

-- the eight bytes that the instruction w touches
unfoldable pub touch_of : List ℕ → ℕ → Option ℕ
touch_of r w = touch_def w (reg r (rs_of w))

unfoldable pub planned : View → Option ℕ → Effect → Plan
planned v t (Err (RefusedBy n)) = refuse n
planned v t (Err CallBy) = calling v (call_in v.cpu v.regs)
planned v t (Ok e) = does (changing v t e)

unfoldable pub executing : View → ℕ → Option ℕ → Plan
executing v w t = planned v t (kernel_def (ins_of v.cpu v.regs w (eight_at v.memory t)))

-- the word at pc
abbrev pub word_of : View → ℕ
word_of v = big 4 v.memory v.cpu.pc

unfoldable pub plan : View → Plan
plan v = executing v (word_of v) (touch_of v.regs (word_of v))
