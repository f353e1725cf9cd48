-- Recording (document 01, "The step record"): what a step touches, which steps are wide, and what the record buffer holds afterwards.
use Rattle.std.specs.Prelude.{ℕ, ◌*◌, ◌/◌, Bool, true, false, cond, not, ◌&&◌, List, length, ◌==◌, Option, Some, None}
use Rattle.pages.specs.Bytes.{big}
use Rattle.pages.specs.Memory.{Memory}
use Rattle.pages.specs.Pages.{byte_at}
use Rattle.interpreter.specs.Isa.{Other, MOVZ, MOVN, SYNC, SYSCALL, Instruction, alu, imm, hilo, load, store, conditional, branch, jump, other, reserved, reserved_branch}
use Rattle.interpreter.specs.OpcodeMap.{decode}
use Rattle.interpreter.specs.declared.effect.Refusal.TheVariants.{BadMachine}
use Rattle.interpreter.specs.declared.state.Cpu.{Cpu}
use Rattle.interpreter.specs.declared.state.State.{State}
use Rattle.interpreter.specs.declared.linux.Call.{Call}
use Rattle.interpreter.specs.declared.linux.Call.TheVariants.{Answer as Reply, Heap, Exit, Key, Input, Write, Hint}
use Rattle.interpreter.specs.Machine.{Machine, reg, state_of}
use Rattle.interpreter.specs.Plan.{eight_at, call_in, touch_of}
use Rattle.interpreter.specs.Step.{Left, refused, step_def}
use Rattle.interpreter.specs.Records.{record_of}

-- ---- tests of a state and a word

abbrev pub other_calls : Other → Bool
other_calls MOVZ = false
other_calls MOVN = false
other_calls SYNC = false
other_calls SYSCALL = true

-- whether an instruction is a system call
unfoldable pub calls : Instruction → Bool
calls (alu a) = false
calls (imm a) = false
calls (hilo h) = false
calls (load l) = false
calls (store s) = false
calls (conditional c) = false
calls (branch b) = false
calls (jump j) = false
calls (other o) = other_calls o
calls reserved = false
calls reserved_branch = false

-- 5000 on 5; 5001 on 1, 2, 4
abbrev pub call_wide : Call → Bool
call_wide (Reply v e) = false
call_wide (Heap h) = false
call_wide (Exit n) = false
call_wide Key = false
call_wide Input = true
call_wide (Write s) = true
call_wide Hint = true

unfoldable pub wide : Cpu → List ℕ → ℕ → Bool
wide c r w = calls (decode w) && call_wide (call_in c r)

-- of the calls only a write to 6 touches eight bytes: those that a1 lies in
abbrev pub call_touch : ℕ → Call → Option ℕ
call_touch a1 (Reply v e) = None
call_touch a1 (Heap h) = None
call_touch a1 (Exit n) = None
call_touch a1 Key = Some (a1 / 8 * 8)
call_touch a1 Input = None
call_touch a1 (Write s) = None
call_touch a1 Hint = None

-- the eight bytes that a step touches: loads, stores, and writes to 6
unfoldable pub touched : Cpu → List ℕ → ℕ → Option ℕ
touched c r w = cond (calls (decode w)) (call_touch (reg r 5) (call_in c r)) (touch_of r w)

-- ---- the record of a step from one machine to another

abbrev pub memory_of : Machine → Memory
memory_of m = byte_at m.pages m.used

abbrev pub state_in : Machine → State
state_in m = state_of m.cpu m.regs m.key

-- the instruction
abbrev pub word_in : Machine → ℕ
word_in m = big 4 (memory_of m) m.cpu.pc

abbrev pub touch_in : Machine → Option ℕ
touch_in m = touched m.cpu m.regs (word_in m)

-- old state, new state, instruction, and the touched eight bytes before and after
unfoldable pub record_from : Machine → Machine → List ℕ
record_from m n = record_of (state_in m) (state_in n) (word_in m) (touch_in m) (eight_at (memory_of m) (touch_in m)) (eight_at (memory_of n) (touch_in m))

-- ---- the recording step

pub record Recorded : Type 0 where
  pub left : Left
  pub buf : List ℕ

abbrev pub recorded : Left → List ℕ → Recorded
recorded l b = record { left = l; buf = b }

-- every unrefused step from an unexited state that isn't wide is recorded; otherwise the buffer stays
unfoldable pub recording : Machine → List ℕ → Left → Recorded
recording m b l = recorded l (cond (not (wide m.cpu m.regs (word_in m)) && l.counts) (record_from m l.machine) b)

-- a buffer that is not 752 bytes is refused with 1
unfoldable pub recorded_def : List ℕ → List ℕ → Machine → List ℕ → Recorded
recorded_def x d m b = cond (length b == 752) (recording m b (step_def x d m)) (recorded (refused m BadMachine) b)
