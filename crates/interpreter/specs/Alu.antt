-- Results of registers and immediates, an instruction a line.
use Rattle.std.specs.Prelude.{ℕ, ◌+◌, ◌-◌, ◌*◌, ◌/◌, ◌%◌, ◌^◌, cond, ◌==◌, nat_lt, Option, Some, None}
use Rattle.std.specs.Int.Count.{count_leading_zeros}
use Rattle.interpreter.specs.Words.{rules_of, by_rules, word, plus, minus, sext, sign_extend, bit, less, and, or, xor}
use Rattle.interpreter.specs.Isa.{shamt_of, imm_of, Alu, SLL, SRL, SRA, SLLV, SRLV, SRAV, DSLL, DSRL, DSRA, DSLL32, DSRL32, DSRA32, DSLLV, DSRLV, DSRAV, ADD, ADDU, SUB, SUBU, DADD, DADDU, DSUB, DSUBU, AND, OR, XOR, NOR, SLT, SLTU, MFHI, MFLO, MUL, CLZ, CLO, DCLZ, Imm, ADDI, ADDIU, SLTI, SLTIU, ANDI, ORI, XORI, LUI, DADDI, DADDIU}
use Rattle.interpreter.specs.declared.effect.Ins.{Ins}
use Rattle.interpreter.specs.declared.effect.Rules.{Rules}

-- ---- shifts of the low word by s, below 32; right shifts never rotate

-- rules 0 sign-extends the unreduced product, rules 1 its low word
unfoldable pub shift_left : Rules → ℕ → ℕ → ℕ
shift_left rules x s = by_rules rules (sign_extend (word x * 2 ^ s) 32) (sext 32 (word x * 2 ^ s))

unfoldable pub shift_right : ℕ → ℕ → ℕ
shift_right x s = sext 32 (word x / 2 ^ s)

-- bits 31 to s, sign-extended
unfoldable pub shift_signed : ℕ → ℕ → ℕ
shift_signed x s = sext (32 - s) (word x / 2 ^ s)

-- SRAV: rules 0 gives 0 when rs mod 64 = 32
unfoldable pub shift_signed_by : Rules → ℕ → ℕ → ℕ
shift_signed_by rules x y = by_rules rules (cond (y % 64 == 32) 0 (shift_signed x (y % 32))) (shift_signed x (y % 32))

-- ---- shifts of the doubleword by s, below 64

unfoldable pub double_left : ℕ → ℕ → ℕ
double_left x s = x * 2 ^ s % 2 ^ 64

unfoldable pub double_right : ℕ → ℕ → ℕ
double_right x s = x / 2 ^ s

-- bits 63 to s, sign-extended
unfoldable pub double_signed : ℕ → ℕ → ℕ
double_signed x s = sext (64 - s) (x / 2 ^ s)

-- ---- sums, differences and products of words. ADD, ADDI, SUB, DADD, DADDI and DSUB wrap under both rules, by choice of document 01

unfoldable pub sum : ℕ → ℕ → ℕ
sum x y = sext 32 (x + y)

-- rules 0 sign-extends the 64-bit difference, rules 1 its low word
unfoldable pub difference : Rules → ℕ → ℕ → ℕ
difference rules x y = by_rules rules (sign_extend (minus x y) 32) (sext 32 (minus x y))

unfoldable pub mul : ℕ → ℕ → ℕ
mul x y = sext 32 (word x * word y)

unfoldable pub nor : ℕ → ℕ → ℕ
nor x y = 2 ^ 64 - 1 - or x y

-- ---- counts

unfoldable pub leading_zeros32 : ℕ → ℕ
leading_zeros32 x = count_leading_zeros 32 (word x)

unfoldable pub leading_ones32 : ℕ → ℕ
leading_ones32 x = count_leading_zeros 32 (2 ^ 32 - 1 - word x)

-- ---- the results

unfoldable pub result : Alu → Ins → ℕ
result SLL i = shift_left (rules_of i.rules) i.rt (shamt_of i.word)
result SRL i = shift_right i.rt (shamt_of i.word)
result SRA i = shift_signed i.rt (shamt_of i.word)
result SLLV i = shift_left (rules_of i.rules) i.rt (i.rs % 32)
result SRLV i = shift_right i.rt (i.rs % 32)
result SRAV i = shift_signed_by (rules_of i.rules) i.rt i.rs
result DSLL i = double_left i.rt (shamt_of i.word)
result DSRL i = double_right i.rt (shamt_of i.word)
result DSRA i = double_signed i.rt (shamt_of i.word)
result DSLL32 i = double_left i.rt (shamt_of i.word + 32)
result DSRL32 i = double_right i.rt (shamt_of i.word + 32)
result DSRA32 i = double_signed i.rt (shamt_of i.word + 32)
result DSLLV i = double_left i.rt (i.rs % 64)
result DSRLV i = double_right i.rt (i.rs % 64)
result DSRAV i = double_signed i.rt (i.rs % 64)
result ADD i = sum i.rs i.rt
result ADDU i = sum i.rs i.rt
result SUB i = difference (rules_of i.rules) i.rs i.rt
result SUBU i = difference (rules_of i.rules) i.rs i.rt
result DADD i = plus i.rs i.rt
result DADDU i = plus i.rs i.rt
result DSUB i = minus i.rs i.rt
result DSUBU i = minus i.rs i.rt
result AND i = and i.rs i.rt
result OR i = or i.rs i.rt
result XOR i = xor i.rs i.rt
result NOR i = nor i.rs i.rt
result SLT i = bit (less i.rs i.rt)
result SLTU i = bit (nat_lt i.rs i.rt)
result MFHI i = i.hi
result MFLO i = i.lo
result MUL i = mul i.rs i.rt
result CLZ i = leading_zeros32 i.rs
result CLO i = leading_ones32 i.rs
result DCLZ i = count_leading_zeros 64 i.rs

unfoldable pub immediate : Imm → Ins → ℕ
immediate ADDI i = sum i.rs (sext 16 (imm_of i.word))
immediate ADDIU i = sum i.rs (sext 16 (imm_of i.word))
immediate SLTI i = bit (less i.rs (sext 16 (imm_of i.word)))
immediate SLTIU i = bit (nat_lt i.rs (sext 16 (imm_of i.word)))
immediate ANDI i = and i.rs (imm_of i.word)
immediate ORI i = or i.rs (imm_of i.word)
immediate XORI i = xor i.rs (imm_of i.word)
immediate LUI i = sext 32 (imm_of i.word * 2 ^ 16)
immediate DADDI i = plus i.rs (sext 16 (imm_of i.word))
immediate DADDIU i = plus i.rs (sext 16 (imm_of i.word))

-- a group's answer to a code: the result of what was found
unfoldable pub known : Option Alu → Ins → Option ℕ
known (Some a) i = Some (result a i)
known None i = None

unfoldable pub known_imm : Option Imm → Ins → Option ℕ
known_imm (Some a) i = Some (immediate a i)
known_imm None i = None
