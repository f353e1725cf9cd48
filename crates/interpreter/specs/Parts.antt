-- What the code's private parts answer and leave. No public promise rests on these.
use Rattle.std.specs.Prelude.{◌≡◌, ℕ, zero, suc, ◌+◌, ◌-◌, ◌*◌, ◌/◌, ◌%◌, ◌≤◌, Bool, true, false, cond, List, [], ◌++◌, length, ◌==◌, nat_le, nat_lt, Ok, Some, Option, None, Err, Result}
use Rattle.std.proofs.lemmas.List.Edits.{sets}
use Rattle.pages.specs.Bytes.{cell, row, big}
use Rattle.pages.specs.Memory.{Memory, span}
use Rattle.pages.specs.Pages.{lookup, byte_at}
use Rattle.pages.specs.Calls.{stored}
use Rattle.interpreter.specs.declared.effect.Refusal.{Refusal}
use Rattle.interpreter.specs.declared.effect.Refusal.{Refusal}
use Rattle.interpreter.specs.declared.effect.Refusal.TheVariants.{NoRoom}
use Rattle.interpreter.specs.declared.state.Cpu.{Cpu}
use Rattle.interpreter.specs.declared.step.Answer.TheVariants.{Stepped as SteppedBy}
use Rattle.interpreter.specs.declared.linux.Call.{Call}
use Rattle.interpreter.specs.declared.record.Seen.{Seen}
use Rattle.interpreter.specs.declared.record.Seen.TheVariants.{Wide as WideStep, Narrow}
use Rattle.interpreter.specs.declared.effect.Ins.{Ins}
use Rattle.interpreter.specs.declared.effect.Change.{Change}
use Rattle.interpreter.specs.declared.window.Window.{Window}
use Rattle.interpreter.specs.declared.window.Pair.{Pair}
use Rattle.interpreter.specs.declared.quick.Core.{Core}
use Rattle.interpreter.specs.declared.quick.Turn.{Turn}
use Rattle.interpreter.specs.declared.quick.Fetched.{Fetched}
use Rattle.interpreter.specs.declared.quick.Went.{Went}
use Rattle.interpreter.specs.declared.shown.Unshown.TheVariants.{Wide}
use Rattle.interpreter.specs.Words.{plus}
use Rattle.interpreter.specs.Isa.{opcode_of, funct_of}
use Rattle.interpreter.specs.OpcodeMap.{decode}
use Rattle.interpreter.specs.Effects.{Effect, seeing}
use Rattle.interpreter.specs.Loads.{address_of}
use Rattle.interpreter.specs.Kernel.{does, touching}
use Rattle.interpreter.specs.Machine.{Machine, machine, reg, set_reg, changed, counted, room_of, bad}
use Rattle.interpreter.specs.Plan.{eight_at, storing, call_in, calling, touch_of, executing}
use Rattle.interpreter.specs.Ideal.{ideal, ideal_view, remember}
use Rattle.interpreter.specs.Recording.{call_wide, call_touch, wide, touched, memory_of, state_in, Recorded, recorded}
use Rattle.interpreter.specs.Shown.{shown_at, Showing, stepped, shown, made_by}
use Rattle.interpreter.specs.Hints.{text_of, heard}
use Rattle.interpreter.specs.Step.{Left, left, putting, working}
use Rattle.interpreter.specs.Records.{record_of}
use Rattle.interpreter.specs.Runs.{more, run_def}

-- ---- the recording step

-- a call, and a step, is wide, or touches these eight bytes
abbrev pub seen_call : ℕ → Call → Seen
seen_call a1 g = cond (call_wide g) WideStep (Narrow (call_touch a1 g))

abbrev pub seen : Cpu → List ℕ → ℕ → Seen
seen c r w = cond (wide c r w) WideStep (Narrow (touched c r w))

-- the record of a step that isn't wide, whose instruction and touch are these
unfoldable pub recording_as : Machine → List ℕ → ℕ → Option ℕ → Left → Recorded
recording_as m b w t l = recorded l (cond l.counts (record_of (state_in m) (state_in l.machine) w t (eight_at (memory_of m) t) (eight_at (memory_of l.machine) t)) b)

-- ---- hints

-- a write to the hint descriptor: what was heard, and the two buffers then
pub record Listened : Type 0 where
  pub heard : Result (Option ℕ) Refusal
  pub hint : List ℕ
  pub output : List ℕ

abbrev pub listened : Result (Option ℕ) Refusal → List ℕ → List ℕ → Listened
listened r h o = record { heard = r; hint = h; output = o }

-- h is the hint buffer, a the buffer with the bytes appended, t all the bytes held then
abbrev pub listened_to : List ℕ → List ℕ → List ℕ → List ℕ → Result (Option ℕ) Refusal → Listened
listened_to h a t o (Err n) = listened (Err n) h o
listened_to h a t o (Ok None) = listened (Ok None) a o
listened_to h a t o (Ok (Some n)) = listened (Ok (Some n)) a (sets o 0 (text_of t))

-- the bytes held once count more from the address on are appended
unfoldable pub joined : Memory → List ℕ → ℕ → ℕ → ℕ → List ℕ
joined m h held address count = row (cell h) 0 held ++ span m address count

unfoldable pub listening : Memory → List ℕ → ℕ → ℕ → ℕ → List ℕ → Listened
listening m h held address count o =
    cond (nat_lt (room_of h) (held + count)) (listened (Err NoRoom) h o)
    (listened_to h (sets h held (span m address count)) (joined m h held address count) o (heard (joined m h held address count) (λ n. nat_le n (length o))))

-- ---- the step that a record shows, once it is counted

-- a system call
unfoldable pub called_shown : Cpu → List ℕ → List ℕ → Option ℕ → Memory → Call → Showing
called_shown c r k t m g = cond (call_wide g) (shown (Err Wide) r k) (made_by r k m t (calling (ideal_view [] [] (ideal c r k m [])) g))

unfoldable pub call_shown : Cpu → List ℕ → List ℕ → ℕ → Showing
call_shown c r k x = called_shown c r k (call_touch (reg r 5) (call_in c r)) (shown_at (call_touch (reg r 5) (call_in c r)) x) (call_in c r)

-- any other instruction, that changes e
unfoldable pub change_shown : Cpu → List ℕ → List ℕ → Option ℕ → ℕ → Change → Showing
change_shown c r k t x e = shown (stepped (changed c e) t (eight_at (remember (shown_at t x) (storing t e)) t)) (set_reg r e.dest e.value) k

-- ---- many steps in a row

-- a quick answer: the change that the definition makes, or none, which is left to others
unfoldable pub Agrees : Option Change → Effect → Type 0
Agrees r s = (e : Change) → r ≡ Some e → s ≡ Ok e

-- one number for an instruction: the opcode field, and of SPECIAL the function field behind all opcodes
unfoldable pub key_of : ℕ → ℕ
key_of w = cond (opcode_of w == 0x00) (0x40 + funct_of w) (opcode_of w)

-- the same of an instruction that touches no memory
unfoldable pub Quiet : Option Change → Ins → Type 0
Quiet r i = (e : Change) → r ≡ Some e → (does (decode i.word) i ≡ Ok e) × ((a : ℕ) → touching (decode i.word) a ≡ None)

-- a page's number and where its bytes stand, or no page's number
pub data Shows (p : List ℕ) (u : ℕ) (w : Window) : Type 0 where
  nowhere : w.number ≡ 0xffffffffffffffff → Shows p u w
  standing : (i : ℕ) → lookup p u w.number ≡ Ok (Some i) → w.at ≡ i * 4104 + 8 → Shows p u w

abbrev pub Both : List ℕ → ℕ → Pair → Type 0
Both p u d = Shows p u d.near × Shows p u d.far

-- the address of the eight bytes that a load or store touches
abbrev pub eight_of : Ins → ℕ
eight_of i = address_of i.word i.rs / 8 * 8

-- they lie in the page, and the instruction has them
pub record Sees (p : List ℕ) (u : ℕ) (w : Window) (i j : Ins) : Type 0 where
  pub here : eight_of i / 4096 ≡ w.number
  pub eight : j ≡ seeing i (big 8 (byte_at p u) (eight_of i))

-- a quick answer of a load or store in the page
unfoldable pub Reaches : List ℕ → ℕ → Window → Ins → Option Change → Type 0
Reaches p u w i r = (e : Change) → r ≡ Some e
    → (does (decode i.word) (seeing i (big 8 (byte_at p u) (eight_of i))) ≡ Ok e) × ((a : ℕ) → touching (decode i.word) a ≡ Some a) × (eight_of i / 4096 ≡ w.number)

-- whether the touched eight bytes lie in the page
abbrev pub covered : Window → Option ℕ → Bool
covered w None = true
covered w (Some a) = a / 4096 == w.number

-- the numbers that instructions change
unfoldable pub core_of : Cpu → Core
core_of c = record { pc = c.pc; next = c.next; hi = c.hi; lo = c.lo }

unfoldable pub core_after : Change → Core
core_after e = record { pc = e.pc; next = e.next; hi = e.hi; lo = e.lo }

-- the step counter so many steps later
unfoldable pub later : ℕ → ℕ → ℕ
later s zero = s
later s (suc n) = plus (later s n) 1

-- the numbers so many steps later
unfoldable pub cpu_with : Cpu → Core → ℕ → Cpu
cpu_with c k n = record { pc = k.pc; next = k.next; hi = k.hi; lo = k.lo; heap = c.heap; step = later c.step n; offset = c.offset; hint = c.hint; exited = c.exited; code = c.code; rules = c.rules }

-- a change carried out on registers r and pages p
pub record Completed (r p : List ℕ) (u : ℕ) (d : Pair) (t : Option ℕ) (e : Change) (q : Turn) (r' p' : List ℕ) : Type 0 where
  pub core : q.core ≡ core_after e
  pub window : q.data ≡ d
  pub regs : r' ≡ set_reg r e.dest e.value
  pub pages : stored (Ok u) p' ≡ putting p u (storing t e)
  pub kept : (v : Window) → Shows p u v → Shows p' u v

-- a step that was made is the definition's
pub record Makes (c : Cpu) (k : Core) (w u : ℕ) (r p : List ℕ) (q : Turn) (r' p' : List ℕ) : Type 0 where
  pub shows : Both p' u q.data
  pub kept : (v : Window) → Shows p u v → Shows p' u v
  pub step : (n : ℕ) (y h o x d : List ℕ) → left SteppedBy (machine (cpu_with c q.core (n + 1)) r' y u p' h o) true ≡ working x d (machine (counted (cpu_with c k n)) r y u p h o) (λ s. executing s w (touch_of s.regs w))

-- and one that was not made leaves everything
abbrev pub Turned : Cpu → Core → ℕ → ℕ → List ℕ → List ℕ → Option Turn → List ℕ → List ℕ → Type 0
Turned c k w u r p (Some q) r' p' = Makes c k w u r p q r' p'
Turned c k w u r p None r' p' = (r' ≡ r) × (p' ≡ p)

-- the word at an aligned pc, and the page that it stands in
pub record Finds (p : List ℕ) (u pc : ℕ) (f : Fetched) : Type 0 where
  pub shows : Shows p u f.code
  pub aligned : pc % 4 ≡ 0
  pub word : f.word ≡ big 4 (byte_at p u) pc

abbrev pub Fetches : List ℕ → ℕ → ℕ → Option Fetched → Type 0
Fetches p u pc (Some f) = Finds p u pc f
Fetches p u pc None = Unit {0}

-- the run of a machine that is not refused with 1 is so many steps, and the rest
pub record Gone (c : Cpu) (u : ℕ) (r p : List ℕ) (budget : ℕ) (e : Went) (r' p' : List ℕ) (y h o x d : List ℕ) : Type 0 where
  pub within : e.count ≤ budget
  pub fine : bad (machine e.cpu r' y u p' h o) ≡ false
  pub rest : run_def x d budget (machine c r y u p h o) ≡ more e.count (run_def x d (budget - e.count) (machine e.cpu r' y u p' h o))
