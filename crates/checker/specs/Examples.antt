-- Document 01's fourteen examples, as one table in its order. That every row holds is proved in proofs/Laws/Examples.antt.
use Rattle.std.specs.Prelude.{ℕ, ◌+◌, ◌*◌, ◌^◌, ◌≡◌, false, List, [], ◌∷◌, ◌++◌, set, replicate}
use Rattle.pages.specs.Bytes.{zeros, big, bytes_of}
use Rattle.pages.specs.Memory.{Memory, write}
use Rattle.interpreter.specs.Words.{minus}
use Rattle.interpreter.specs.Isa.{Instruction, alu, hilo, load, store, other, SLL, SRAV, SUBU, CLZ, CLO, DIVU, DMULT, DIV, LDR, LWL, LWR, SWR, SYSCALL}
use Rattle.interpreter.specs.OpcodeMap.{decode}
use Rattle.interpreter.specs.Effects.{refusal_number}
use Rattle.interpreter.specs.declared.state.Cpu.{Cpu}
use Rattle.interpreter.specs.declared.step.Answer.{Answer}
use Rattle.interpreter.specs.declared.step.Answer.TheVariants.{Stepped, Wrote, Hint, Exited, Refused}
use Rattle.interpreter.specs.Machine.{reg}
use Rattle.interpreter.specs.Ideal.{Ideal, ideal, Outcome, ideal_step}
use Rattle.checker.specs.Verdicts.{Accepted}
use Rattle.checker.specs.Check.{check_def}

-- ---- rows

-- what an example looks at after the step: a register, lo, hi, the eight bytes at address 0, or how far the heap advanced
pub data Part : Type 0 where
  register : ℕ → Part
  lo hi eight heap : Part

-- what comes out: a value there, a refusal with document 01's number, or another answer
pub data Result : Type 0 where
  gives : ℕ → Result
  refuses : ℕ → Result
  neither : Result
  deriving Discrete as result_discrete

pub data Example : Type 0 where
  -- number; instruction and its word; the eight bytes at address 0; registers, where those that are not named hold 0;
  -- what is looked at; what comes out under rules 0, and under rules 1
  executes : ℕ → Instruction → ℕ → ℕ → List (ℕ × ℕ) → Part → Result → Result → Example
  -- number; a record that the checker accepts
  accepts : ℕ → List ℕ → Example

-- ---- instruction words, by the manual's fields

-- opcode, rs, rt, rd, shift amount, function
abbrev pub r_type : ℕ → ℕ → ℕ → ℕ → ℕ → ℕ → ℕ
r_type op s t d shamt funct = op * 2 ^ 26 + s * 2 ^ 21 + t * 2 ^ 16 + d * 2 ^ 11 + shamt * 2 ^ 6 + funct

-- opcode, rs, rt, immediate
abbrev pub i_type : ℕ → ℕ → ℕ → ℕ → ℕ
i_type op s t offset = op * 2 ^ 26 + s * 2 ^ 21 + t * 2 ^ 16 + offset

-- the registers that the examples take for rs, rt and rd
abbrev pub rs : ℕ
rs = 1

abbrev pub rt : ℕ
rt = 2

abbrev pub rd : ℕ
rd = 3

-- the registers of a system call's number and second argument
abbrev pub v0 : ℕ
v0 = 2

abbrev pub a1 : ℕ
a1 = 5

-- ---- the table

abbrev pub M : ℕ
M = 0x0102030405060708

abbrev pub ones : ℕ
ones = 0xFFFFFFFFFFFFFFFF

-- 752 bytes, all zero but byte 631 = 4 and byte 663 = 1
unfoldable pub record14 : List ℕ
record14 = replicate 631 0 ++ 4 ∷ replicate 31 0 ++ 1 ∷ replicate 88 0

-- each under document 01's line
unfoldable pub examples : List Example
examples =
    -- 1. SLL 2 by 31: 0xFFFFFFFF00000000 / 0.
    executes 1 (alu SLL) (r_type 0x00 0 rt rd 31 0x00) 0 ((rt, 2) ∷ []) (register rd) (gives 0xFFFFFFFF00000000) (gives 0)
    -- 2. SRAV 1 by 32: 0 / 1.
    ∷ executes 2 (alu SRAV) (r_type 0x00 rs rt rd 0 0x07) 0 ((rt, 1) ∷ (rs, 32) ∷ []) (register rd) (gives 0) (gives 1)
    -- 3. SUBU 0xFFFFFFFF80000000 - 1: 0xFFFFFFFF7FFFFFFF / 0x7FFFFFFF.
    ∷ executes 3 (alu SUBU) (r_type 0x00 rs rt rd 0 0x23) 0 ((rs, 0xFFFFFFFF80000000) ∷ (rt, 1) ∷ []) (register rd) (gives 0xFFFFFFFF7FFFFFFF) (gives 0x7FFFFFFF)
    -- 4. DIVU 0xFFFFFFFF by 1: lo 0xFFFFFFFF / all ones.
    ∷ executes 4 (hilo DIVU) (r_type 0x00 rs rt 0 0 0x1b) 0 ((rs, 0xFFFFFFFF) ∷ (rt, 1) ∷ []) lo (gives 0xFFFFFFFF) (gives ones)
    -- 5. DMULT all ones by 1: hi 0 / all ones.
    ∷ executes 5 (hilo DMULT) (r_type 0x00 rs rt 0 0 0x1c) 0 ((rs, ones) ∷ (rt, 1) ∷ []) hi (gives 0) (gives ones)
    -- 6. DIV least by -1: 6 / lo 0xFFFFFFFF80000000.
    ∷ executes 6 (hilo DIV) (r_type 0x00 rs rt 0 0 0x1a) 0 ((rs, 0xFFFFFFFF80000000) ∷ (rt, ones) ∷ []) lo (refuses 6) (gives 0xFFFFFFFF80000000)
    -- 7. DIV by 0x100000000: 5 / 5.
    ∷ executes 7 (hilo DIV) (r_type 0x00 rs rt 0 0 0x1a) 0 ((rs, 1) ∷ (rt, 0x100000000) ∷ []) lo (refuses 5) (refuses 5)
    -- 8. Funct 0x20 on 0: 32 / 32; 0x21: 0 / 0.
    ∷ executes 8 (alu CLZ) (r_type 0x1c rs rd rd 0 0x20) 0 ((rs, 0) ∷ []) (register rd) (gives 32) (gives 32)
    ∷ executes 8 (alu CLO) (r_type 0x1c rs rd rd 0 0x21) 0 ((rs, 0) ∷ []) (register rd) (gives 0) (gives 0)
    -- 9. LDR M, offset 7, rt 0xF000000000000000: 0xF102030405060708 / M.
    ∷ executes 9 (load LDR) (i_type 0x1b rs rt 7) M ((rt, 0xF000000000000000) ∷ []) (register rt) (gives 0xF102030405060708) (gives M)
    -- 10. LWL M, offset 1, rt 0xAABBCCDD: 0x060708DD / 0x020304DD.
    ∷ executes 10 (load LWL) (i_type 0x22 rs rt 1) M ((rt, 0xAABBCCDD) ∷ []) (register rt) (gives 0x060708DD) (gives 0x020304DD)
    -- 11. LWR M, offset 5, rt 0: 0x03040506 / 0x0506.
    ∷ executes 11 (load LWR) (i_type 0x26 rs rt 5) M ((rt, 0) ∷ []) (register rt) (gives 0x03040506) (gives 0x0506)
    -- 12. SWR 0x11223344 into 0, offset 5: 0x0000112233440000 / 0x33440000.
    ∷ executes 12 (store SWR) (i_type 0x2e rs rt 5) 0 ((rt, 0x11223344) ∷ []) eight (gives 0x0000112233440000) (gives 0x33440000)
    -- 13. Mapping 0, 1, 4,096 bytes advances heap 0, 4,096, 4,096.
    ∷ executes 13 (other SYSCALL) (r_type 0x00 0 0 0 0 0x0c) 0 ((v0, 5009) ∷ (a1, 0) ∷ []) heap (gives 0) (gives 0)
    ∷ executes 13 (other SYSCALL) (r_type 0x00 0 0 0 0 0x0c) 0 ((v0, 5009) ∷ (a1, 1) ∷ []) heap (gives 4096) (gives 4096)
    ∷ executes 13 (other SYSCALL) (r_type 0x00 0 0 0 0 0x0c) 0 ((v0, 5009) ∷ (a1, 4096) ∷ []) heap (gives 4096) (gives 4096)
    -- 14. A record all zero but byte 631 = 4 and byte 663 = 1: accepted.
    ∷ accepts 14 record14
    ∷ []

-- ---- what a row says

-- any heap would do
abbrev pub start_heap : ℕ
start_heap = 2 ^ 32

-- the instruction stands at address 8, behind the eight bytes
abbrev pub start_cpu : ℕ → Cpu
start_cpu rules = record { pc = 8; next = 12; hi = 0; lo = 0; heap = start_heap; step = 0; offset = 0; hint = 0; exited = false; code = 0; rules = rules }

abbrev pub start_memory : ℕ → ℕ → Memory
start_memory w x = write (write (λ a. 0) 8 (bytes_of 4 w)) 0 (bytes_of 8 x)

unfoldable pub start_regs : List (ℕ × ℕ) → List ℕ
start_regs [] = zeros 32
start_regs ((k, v) ∷ rest) = set (start_regs rest) k v

-- one step of the definition's machine under these rules, from the word, the eight bytes and the registers of a row
unfoldable pub step_of : ℕ → ℕ → ℕ → List (ℕ × ℕ) → Outcome
step_of rules w x regs = ideal_step [] [] (ideal (start_cpu rules) (start_regs regs) (zeros 32) (start_memory w x) [])

abbrev pub look : Part → Ideal → ℕ
look (register k) i = reg i.regs k
look lo i = i.cpu.lo
look hi i = i.cpu.hi
look eight i = big 8 i.memory 0
look heap i = minus i.cpu.heap start_heap

abbrev pub seen : Part → Ideal → Answer → Result
seen p i Stepped = gives (look p i)
seen p i (Wrote stream count) = neither
seen p i (Hint count) = neither
seen p i (Exited code) = neither
seen p i (Refused n) = refuses (refusal_number n)

abbrev pub comes : Part → Outcome → Result
comes p o = seen p o.machine o.answer

-- the word is this instruction's, and one step gives these results
abbrev pub Says : Example → Type 0
Says (executes number ins w x regs p r0 r1) = (decode w ≡ ins) × ((comes p (step_of 0 w x regs) ≡ r0) × (comes p (step_of 1 w x regs) ≡ r1))
Says (accepts number r) = check_def r ≡ Accepted

abbrev pub Every : (Example → Type 0) → List Example → Type 0
Every P [] = Unit {0}
Every P (e ∷ es) = P e × Every P es
