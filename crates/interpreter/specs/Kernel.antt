-- The kernel: what each instruction does, and which eight bytes it touches.
use Rattle.std.specs.Prelude.{ℕ, ◌+◌, ◌*◌, ◌/◌, ◌%◌, ◌^◌, Bool, cond, not, ◌||◌, ◌==◌, Result, Ok, Err, Option, Some, None}
use Rattle.interpreter.specs.Words.{rules_of, by_rules, plus, negative, sext}
use Rattle.interpreter.specs.Isa.{rd_of, imm_of, target_of, Branch, BEQ, BNE, BLEZ, BGTZ, BLTZ, BGEZ, BGEZAL, Jump, J, JAL, JR, JALR, Instruction, alu, imm, hilo, load, store, conditional, branch, jump, Other, MOVZ, MOVN, SYNC, SYSCALL, other, reserved, reserved_branch}
use Rattle.interpreter.specs.OpcodeMap.{decode}
use Rattle.interpreter.specs.Effects.{Effect, to_register, to_rd, to_rt, storing, going}
use Rattle.interpreter.specs.Alu.{result, immediate}
use Rattle.interpreter.specs.HiLo.{hi_lo}
use Rattle.interpreter.specs.Loads.{address_of, loaded}
use Rattle.interpreter.specs.Stores.{stored, conditionally}
use Rattle.interpreter.specs.declared.effect.Ins.{Ins}
use Rattle.interpreter.specs.declared.effect.Change.{Change}
use Rattle.interpreter.specs.declared.effect.Stop.TheVariants.{Refused, Call}
use Rattle.interpreter.specs.declared.effect.Refusal.{Refusal}
use Rattle.interpreter.specs.declared.effect.Refusal.TheVariants.{PcMisaligned, Reserved, DelaySlot}

-- ---- branches and jumps

abbrev pub non_positive : ℕ → Bool
non_positive x = negative 64 x || x == 0

unfoldable pub taken : Branch → Ins → Bool
taken BEQ i = i.rs == i.rt
taken BNE i = not (i.rs == i.rt)
taken BLEZ i = non_positive i.rs
taken BGTZ i = not (non_positive i.rs)
taken BLTZ i = negative 64 i.rs
taken BGEZ i = not (negative 64 i.rs)
taken BGEZAL i = not (negative 64 i.rs)

-- the address after the delay slot, where a link returns to
abbrev pub link : Ins → ℕ
link i = plus i.pc 8

-- the delay slot's address and four times the offset; a branch not taken goes on behind its delay slot
abbrev pub branch_to : Ins → Bool → ℕ
branch_to i t = cond t (plus (i.pc + 4) (sext 16 (imm_of i.word) * 4)) (plus i.next 4)

-- BGEZAL links also when not taken
unfoldable pub branching : Branch → Ins → Effect
branching BEQ i = going i 0 0 (branch_to i (taken BEQ i))
branching BNE i = going i 0 0 (branch_to i (taken BNE i))
branching BLEZ i = going i 0 0 (branch_to i (taken BLEZ i))
branching BGTZ i = going i 0 0 (branch_to i (taken BGTZ i))
branching BLTZ i = going i 0 0 (branch_to i (taken BLTZ i))
branching BGEZ i = going i 0 0 (branch_to i (taken BGEZ i))
branching BGEZAL i = going i 31 (link i) (branch_to i (taken BGEZAL i))

-- the target within the delay slot's region of 256 megabytes
abbrev pub region : Ins → ℕ
region i = i.next / 2 ^ 28 * 2 ^ 28 + target_of i.word * 4

unfoldable pub jumping : Jump → Ins → Effect
jumping J i = going i 0 0 (region i)
jumping JAL i = going i 31 (link i) (region i)
jumping JR i = going i 0 0 i.rs
jumping JALR i = going i (rd_of i.word) (link i) i.rs

-- ---- every instruction

-- what a load or store changes, where it is not refused
abbrev pub after : (ℕ → Change) → Result ℕ Refusal → Effect
after f (Ok v) = Ok (f v)
after f (Err n) = Err (Refused n)

-- SYNC: rules 0 writes rs to rd, rules 1 no register. SYSCALL is the step's to execute
unfoldable pub does_other : Other → Ins → Effect
does_other MOVZ i = Ok (cond (i.rt == 0) (to_rd i i.rs) (to_register i 0 0))
does_other MOVN i = Ok (cond (not (i.rt == 0)) (to_rd i i.rs) (to_register i 0 0))
does_other SYNC i = Ok (by_rules (rules_of i.rules) (to_rd i i.rs) (to_register i 0 0))
does_other SYSCALL i = Err Call

unfoldable pub does : Instruction → Ins → Effect
does (alu a) i = Ok (to_rd i (result a i))
does (imm a) i = Ok (to_rt i (immediate a i))
does (hilo h) i = hi_lo h i
does (load l) i = after (to_rt i) (loaded l i)
does (store s) i = after (storing i 0 0) (stored s i)
does (conditional c) i = conditionally c i
does (branch b) i = branching b i
does (jump j) i = jumping j i
does (other o) i = does_other o i
does reserved i = Err (Refused Reserved)
-- REGIMM gives 4 before 3
does reserved_branch i = cond (i.next == plus i.pc 4) (Err (Refused Reserved)) (Err (Refused DelaySlot))

-- 2 comes first
unfoldable pub kernel_def : Ins → Effect
kernel_def i = cond (i.pc % 4 == 0) (does (decode i.word) i) (Err (Refused PcMisaligned))

-- ---- the touched eight bytes: loads and stores alone, SC and SCD also when they store nothing

unfoldable pub touching : Instruction → ℕ → Option ℕ
touching (alu a) a8 = None
touching (imm a) a8 = None
touching (hilo h) a8 = None
touching (load l) a8 = Some a8
touching (store s) a8 = Some a8
touching (conditional c) a8 = Some a8
touching (branch b) a8 = None
touching (jump j) a8 = None
touching (other o) a8 = None
touching reserved a8 = None
touching reserved_branch a8 = None

unfoldable pub touch_def : ℕ → ℕ → Option ℕ
touch_def w base = touching (decode w) (address_of w base / 8 * 8)
