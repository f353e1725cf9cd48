-- The instruction word's fields, and the instructions by their mnemonics.
use Rattle.std.specs.Prelude.{ℕ, ◌/◌, ◌%◌, ◌^◌}

-- ---- fields (the manual, "CPU Instruction Formats")

abbrev pub opcode_of : ℕ → ℕ
opcode_of w = w / 2 ^ 26 % 64

abbrev pub rs_of : ℕ → ℕ
rs_of w = w / 2 ^ 21 % 32

abbrev pub rt_of : ℕ → ℕ
rt_of w = w / 2 ^ 16 % 32

abbrev pub rd_of : ℕ → ℕ
rd_of w = w / 2 ^ 11 % 32

abbrev pub shamt_of : ℕ → ℕ
shamt_of w = w / 2 ^ 6 % 32

abbrev pub funct_of : ℕ → ℕ
funct_of w = w % 64

abbrev pub imm_of : ℕ → ℕ
imm_of w = w % 2 ^ 16

abbrev pub target_of : ℕ → ℕ
target_of w = w % 2 ^ 26

-- ---- instructions, by what they have in common

-- a result of registers, hi or lo, to rd
pub data Alu : Type 0 where
  SLL SRL SRA SLLV SRLV SRAV : Alu
  DSLL DSRL DSRA DSLL32 DSRL32 DSRA32 DSLLV DSRLV DSRAV : Alu
  ADD ADDU SUB SUBU DADD DADDU DSUB DSUBU : Alu
  AND OR XOR NOR SLT SLTU : Alu
  MFHI MFLO : Alu
  MUL CLZ CLO DCLZ : Alu

-- a result of a register and an immediate, to rt
pub data Imm : Type 0 where
  ADDI ADDIU SLTI SLTIU ANDI ORI XORI LUI DADDI DADDIU : Imm

-- a result to hi and lo
pub data HiLo : Type 0 where
  MTHI MTLO MULT MULTU DMULT DMULTU DIV DIVU DDIV DDIVU : HiLo

pub data Load : Type 0 where
  LB LBU LH LHU LW LWU LL LD LLD LWL LWR LDL LDR : Load

pub data Store : Type 0 where
  SB SH SW SD SWL SWR SDL SDR : Store

-- a store that also answers in rt
pub data Conditional : Type 0 where
  SC SCD : Conditional

pub data Branch : Type 0 where
  BEQ BNE BLEZ BGTZ BLTZ BGEZ BGEZAL : Branch

pub data Jump : Type 0 where
  J JAL JR JALR : Jump

pub data Other : Type 0 where
  MOVZ MOVN SYNC SYSCALL : Other

pub data Instruction : Type 0 where
  alu : Alu → Instruction
  imm : Imm → Instruction
  hilo : HiLo → Instruction
  load : Load → Instruction
  store : Store → Instruction
  conditional : Conditional → Instruction
  branch : Branch → Instruction
  jump : Jump → Instruction
  other : Other → Instruction
  -- a code that isa.rs does not know, or BEQL
  reserved : Instruction
  -- a REGIMM code that isa.rs does not know
  reserved_branch : Instruction
