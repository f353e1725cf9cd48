-- The opcode map: which code is which instruction (isa.rs; the manual, "CPU Instruction Encoding"). A code on no list is reserved.
use Rattle.std.specs.Prelude.{ℕ, Bool, cond, ◌||◌, List, [], ◌∷◌, ◌==◌, Option, Some, None, is_some}
use Rattle.interpreter.specs.Isa.{opcode_of, rt_of, funct_of, Alu, SLL, SRL, SRA, SLLV, SRLV, SRAV, DSLL, DSRL, DSRA, DSLL32, DSRL32, DSRA32, DSLLV, DSRLV, DSRAV, ADD, ADDU, SUB, SUBU, DADD, DADDU, DSUB, DSUBU, AND, OR, XOR, NOR, SLT, SLTU, MFHI, MFLO, MUL, CLZ, CLO, DCLZ, Imm, ADDI, ADDIU, SLTI, SLTIU, ANDI, ORI, XORI, LUI, DADDI, DADDIU, HiLo, MTHI, MTLO, MULT, MULTU, DMULT, DMULTU, DIV, DIVU, DDIV, DDIVU, Load, LB, LBU, LH, LHU, LW, LWU, LL, LD, LLD, LWL, LWR, LDL, LDR, Store, SB, SH, SW, SD, SWL, SWR, SDL, SDR, Conditional, SC, SCD, Branch, BEQ, BNE, BLEZ, BGTZ, BLTZ, BGEZ, BGEZAL, Jump, J, JAL, JR, JALR, Instruction, alu, imm, hilo, load, store, conditional, branch, jump, Other, MOVZ, MOVN, SYNC, SYSCALL, other, reserved, reserved_branch}

-- what a list of codes has at a number
unfoldable pub find : {A : Type 0} → ℕ → List (ℕ × A) → Option A
find x [] = None
find x (code ∷ codes) = cond (x == code.0) (Some code.1) (find x codes)

-- the instruction that was found, or the other one
unfoldable pub found : {A : Type 0} → (A → Instruction) → Option A → Instruction → Instruction
found f (Some a) rest = f a
found f None rest = rest

-- ---- opcode

unfoldable pub immediates : List (ℕ × Imm)
immediates =
    (0x08, ADDI) ∷ (0x09, ADDIU) ∷ (0x0a, SLTI) ∷ (0x0b, SLTIU) ∷ (0x0c, ANDI) ∷ (0x0d, ORI) ∷ (0x0e, XORI) ∷ (0x0f, LUI)
    ∷ (0x18, DADDI) ∷ (0x19, DADDIU) ∷ []

unfoldable pub loads : List (ℕ × Load)
loads =
    (0x1a, LDL) ∷ (0x1b, LDR) ∷ (0x20, LB) ∷ (0x21, LH) ∷ (0x22, LWL) ∷ (0x23, LW) ∷ (0x24, LBU) ∷ (0x25, LHU) ∷ (0x26, LWR) ∷ (0x27, LWU)
    ∷ (0x30, LL) ∷ (0x34, LLD) ∷ (0x37, LD) ∷ []

unfoldable pub stores : List (ℕ × Store)
stores = (0x28, SB) ∷ (0x29, SH) ∷ (0x2a, SWL) ∷ (0x2b, SW) ∷ (0x2c, SDL) ∷ (0x2d, SDR) ∷ (0x2e, SWR) ∷ (0x3f, SD) ∷ []

unfoldable pub conditionals : List (ℕ × Conditional)
conditionals = (0x38, SC) ∷ (0x3c, SCD) ∷ []

unfoldable pub branches : List (ℕ × Branch)
branches = (0x04, BEQ) ∷ (0x05, BNE) ∷ (0x06, BLEZ) ∷ (0x07, BGTZ) ∷ []

unfoldable pub jumps : List (ℕ × Jump)
jumps = (0x02, J) ∷ (0x03, JAL) ∷ []

-- BEQL, 0x14, is known to isa.rs and always refused, so it is on no list
unfoldable pub memory : ℕ → Instruction
memory op =
    found load (find op loads)
    (found store (find op stores)
    (found conditional (find op conditionals)
    reserved))

unfoldable pub by_opcode : ℕ → Instruction
by_opcode op =
    found jump (find op jumps)
    (found branch (find op branches)
    (found imm (find op immediates)
    (memory op)))

-- a load or store
unfoldable pub accesses : ℕ → Bool
accesses op = is_some (find op loads) || (is_some (find op stores) || is_some (find op conditionals))

-- ---- SPECIAL, opcode 0x00, by the function field

unfoldable pub shifts : List (ℕ × Alu)
shifts =
    (0x00, SLL) ∷ (0x02, SRL) ∷ (0x03, SRA) ∷ (0x04, SLLV) ∷ (0x06, SRLV) ∷ (0x07, SRAV) ∷ (0x14, DSLLV) ∷ (0x16, DSRLV) ∷ (0x17, DSRAV)
    ∷ (0x38, DSLL) ∷ (0x3a, DSRL) ∷ (0x3b, DSRA) ∷ (0x3c, DSLL32) ∷ (0x3e, DSRL32) ∷ (0x3f, DSRA32) ∷ []

unfoldable pub sums : List (ℕ × Alu)
sums =
    (0x10, MFHI) ∷ (0x12, MFLO) ∷ (0x20, ADD) ∷ (0x21, ADDU) ∷ (0x22, SUB) ∷ (0x23, SUBU)
    ∷ (0x2c, DADD) ∷ (0x2d, DADDU) ∷ (0x2e, DSUB) ∷ (0x2f, DSUBU) ∷ []

unfoldable pub logic : List (ℕ × Alu)
logic = (0x24, AND) ∷ (0x25, OR) ∷ (0x26, XOR) ∷ (0x27, NOR) ∷ (0x2a, SLT) ∷ (0x2b, SLTU) ∷ []

unfoldable pub hilos : List (ℕ × HiLo)
hilos =
    (0x11, MTHI) ∷ (0x13, MTLO) ∷ (0x18, MULT) ∷ (0x19, MULTU) ∷ (0x1a, DIV) ∷ (0x1b, DIVU)
    ∷ (0x1c, DMULT) ∷ (0x1d, DMULTU) ∷ (0x1e, DDIV) ∷ (0x1f, DDIVU) ∷ []

unfoldable pub jump_registers : List (ℕ × Jump)
jump_registers = (0x08, JR) ∷ (0x09, JALR) ∷ []

unfoldable pub others : List (ℕ × Other)
others = (0x0a, MOVZ) ∷ (0x0b, MOVN) ∷ (0x0c, SYSCALL) ∷ (0x0f, SYNC) ∷ []

unfoldable pub registers : ℕ → Instruction
registers f =
    found alu (find f shifts)
    (found alu (find f sums)
    (found alu (find f logic)
    reserved))

unfoldable pub special : ℕ → Instruction
special f =
    found jump (find f jump_registers)
    (found other (find f others)
    (found hilo (find f hilos)
    (registers f)))

-- ---- SPECIAL2, opcode 0x1c. isa.rs calls 0x20 CLO and 0x21 CLZ and exchanges their loops too, so the codes are the manual's

unfoldable pub counts : List (ℕ × Alu)
counts = (0x02, MUL) ∷ (0x20, CLZ) ∷ (0x21, CLO) ∷ (0x24, DCLZ) ∷ []

unfoldable pub special2 : ℕ → Instruction
special2 f = found alu (find f counts) reserved

-- ---- REGIMM, opcode 0x01, by the field at rt

unfoldable pub regimms : List (ℕ × Branch)
regimms = (0x00, BLTZ) ∷ (0x01, BGEZ) ∷ (0x11, BGEZAL) ∷ []

unfoldable pub regimm : ℕ → Instruction
regimm t = found branch (find t regimms) reserved_branch

-- ---- the instruction of a word

unfoldable pub decode_by : ℕ → ℕ → Instruction
decode_by op w =
    cond (op == 0x00) (special (funct_of w))
    (cond (op == 0x01) (regimm (rt_of w))
    (cond (op == 0x1c) (special2 (funct_of w))
    (by_opcode op)))

abbrev pub decode : ℕ → Instruction
decode w = decode_by (opcode_of w) w
