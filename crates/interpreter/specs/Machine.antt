-- What the machine holds (document 01): the state's numbers, registers and key, and beside them the lent buffers.
use Rattle.std.specs.Prelude.{ℕ, min, Bool, true, cond, ◌||◌, List, length, ◌==◌, nat_lt, slice_index, slice_set}
use Rattle.pages.specs.Pages.{whole}
use Rattle.interpreter.specs.Words.{plus}
use Rattle.interpreter.specs.declared.effect.Change.{Change}
use Rattle.interpreter.specs.declared.state.Cpu.{Cpu}
use Rattle.interpreter.specs.declared.state.State.{State}

-- ---- registers

abbrev pub reg : List ℕ → ℕ → ℕ
reg r i = slice_index r i

-- register 0 is never written
unfoldable pub set_reg : List ℕ → ℕ → ℕ → List ℕ
set_reg r i v = cond (i == 0) r (slice_set r i v)

-- a system call's answer goes to register 2, its error to register 7
unfoldable pub answering : List ℕ → ℕ → ℕ → List ℕ
answering r v e = slice_set (slice_set r 2 v) 7 e

-- ---- the state's numbers

-- the step is counted
unfoldable pub counted : Cpu → Cpu
counted c = record { pc = c.pc; next = c.next; hi = c.hi; lo = c.lo; heap = c.heap; step = plus c.step 1; offset = c.offset; hint = c.hint; exited = c.exited; code = c.code; rules = c.rules }

-- what an instruction changes
unfoldable pub changed : Cpu → Change → Cpu
changed c e = record { pc = e.pc; next = e.next; hi = e.hi; lo = e.lo; heap = c.heap; step = c.step; offset = c.offset; hint = c.hint; exited = c.exited; code = c.code; rules = c.rules }

-- after a system call: the next instruction, with this heap, input offset and hint length
unfoldable pub onward : Cpu → ℕ → ℕ → ℕ → Cpu
onward c heap offset hint = record { pc = c.next; next = plus c.next 4; hi = c.hi; lo = c.lo; heap = heap; step = c.step; offset = offset; hint = hint; exited = c.exited; code = c.code; rules = c.rules }

-- after the exit call
unfoldable pub leaving : Cpu → ℕ → Cpu
leaving c n = record { pc = c.pc; next = c.next; hi = c.hi; lo = c.lo; heap = c.heap; step = c.step; offset = c.offset; hint = c.hint; exited = true; code = n; rules = c.rules }

-- the numbers of a state
unfoldable pub cpu_of : State → Cpu
cpu_of s = record { pc = s.pc; next = s.next; hi = s.hi; lo = s.lo; heap = s.heap; step = s.step; offset = s.offset; hint = s.hint; exited = s.exited; code = s.code; rules = s.rules }

-- and the state of such numbers, registers and key
unfoldable pub state_of : Cpu → List ℕ → List ℕ → State
state_of c r k = record { regs = r; pc = c.pc; next = c.next; hi = c.hi; lo = c.lo; heap = c.heap; step = c.step; offset = c.offset; hint = c.hint; key = k; exited = c.exited; code = c.code; rules = c.rules }

-- the largest rules number
abbrev pub largest_rules : ℕ
largest_rules = 1

-- the form of a state, where hints have so much room
unfoldable pub formless : ℕ → Cpu → Bool
formless room c = nat_lt largest_rules c.rules || nat_lt room c.hint

-- ---- the machine

pub record Machine : Type 0 where
  pub cpu : Cpu
  pub regs : List ℕ
  pub key : List ℕ
  pub used : ℕ
  pub pages : List ℕ
  pub hint : List ℕ
  pub output : List ℕ

abbrev pub machine : Cpu → List ℕ → List ℕ → ℕ → List ℕ → List ℕ → List ℕ → Machine
machine c r k u p h o = record { cpu = c; regs = r; key = k; used = u; pages = p; hint = h; output = o }

-- the definition's hint room
abbrev pub hint_room : ℕ
hint_room = 65536

-- hint room: the buffer's length, at most 65,536
unfoldable pub room_of : List ℕ → ℕ
room_of h = min (length h) hint_room

-- refusal 1, but for the recording buffer
unfoldable pub bad : Machine → Bool
bad m = formless (room_of m.hint) m.cpu || nat_lt (whole m.pages) m.used
