-- What an instruction does: it is refused, it is a system call, or it changes this.
use Rattle.std.specs.Prelude.{ℕ, cond, ◌==◌, Some, None, Result, Ok, Err}
use Rattle.interpreter.specs.Words.{plus}
use Rattle.interpreter.specs.Isa.{rd_of, rt_of}
use Rattle.interpreter.specs.declared.effect.Ins.{Ins}
use Rattle.interpreter.specs.declared.effect.Change.{Change}
use Rattle.interpreter.specs.declared.effect.Stop.{Stop}
use Rattle.interpreter.specs.declared.effect.Stop.TheVariants.{Refused}
use Rattle.interpreter.specs.declared.effect.Refusal.{Refusal}
use Rattle.interpreter.specs.declared.effect.Refusal.TheVariants.{BadMachine, PcMisaligned, Reserved, DelaySlot, DivideByZero, Overflow, AddressError, MemoryFull, NoRoom, NoInput, InputOffset, HintShort, HintText}

-- document 01's number of a refusal
unfoldable pub refusal_number : Refusal → ℕ
refusal_number BadMachine = 1
refusal_number PcMisaligned = 2
refusal_number Reserved = 3
refusal_number DelaySlot = 4
refusal_number DivideByZero = 5
refusal_number Overflow = 6
refusal_number AddressError = 7
refusal_number MemoryFull = 8
refusal_number NoRoom = 9
refusal_number NoInput = 10
refusal_number InputOffset = 11
refusal_number HintShort = 12
refusal_number HintText = 13

-- what changes, or why an instruction by itself changes nothing
abbrev pub Effect : Type 0
Effect = Result Change Stop

-- the same instruction with the eight bytes m
unfoldable pub seeing : Ins → ℕ → Ins
seeing i m = record { rules = i.rules; word = i.word; rs = i.rs; rt = i.rt; pc = i.pc; next = i.next; hi = i.hi; lo = i.lo; mem = m }

-- register d gets v, hi and lo become h and l, and the program goes on with the next instruction
unfoldable pub changes : Ins → ℕ → ℕ → ℕ → ℕ → Change
changes i d v h l = record { dest = d; value = v; pc = i.next; next = plus i.next 4; hi = h; lo = l; store = None }

abbrev pub to_register : Ins → ℕ → ℕ → Change
to_register i d v = changes i d v i.hi i.lo

abbrev pub to_rd : Ins → ℕ → Change
to_rd i v = to_register i (rd_of i.word) v

abbrev pub to_rt : Ins → ℕ → Change
to_rt i v = to_register i (rt_of i.word) v

-- the eight bytes become m, and register d gets v
unfoldable pub storing : Ins → ℕ → ℕ → ℕ → Change
storing i d v m = record { dest = d; value = v; pc = i.next; next = plus i.next 4; hi = i.hi; lo = i.lo; store = Some m }

-- a jump or branch: register d gets the link, and after the instruction in the delay slot the program goes on at t.
-- It is refused in a delay slot itself
unfoldable pub going : Ins → ℕ → ℕ → ℕ → Effect
going i d v t =
    cond (i.next == plus i.pc 4)
    (Ok (record { dest = d; value = v; pc = i.next; next = t; hi = i.hi; lo = i.lo; store = None }))
    (Err (Refused DelaySlot))
