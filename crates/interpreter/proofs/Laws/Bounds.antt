-- What an instruction and a step leave is within 64 bits, and an instruction by itself is refused only with 2 to 7.
use Rattle.std.specs.Prelude.{Result, Ok, Err, IfSome}
use Rattle.std.proofs.Common.{◌≡◌, ℕ, zero, suc, ◌+◌, ◌-◌, ◌*◌, ◌/◌, ◌%◌, ◌^◌, ◌<◌, ◌≤◌, min, max, Bool, true, false, cond, not, eqb, ltb, lt_of_lt_of_le, lt_of_le_of_lt, mod-lt, div-le_self, arith, lit<, lit≤, pow_pos, pow_mono, shr_lt}
use native.Mathlib.Nat.{mod-le, pow-le-pow_right}
use lib.Count.{count_leading_zeros, leading_le}
use lib.Pow.{shr_le}
use Rattle.pages.specs.Bytes.{big}
use Rattle.pages.proofs.Laws.Numbers.{bytes_bytes}
use Rattle.interpreter.specs.Words.{rules_of, by_rules, word, plus, sext, sign_extend, less, bitwise, and, or, xor, magnitude, signed, quotient, remainder, product}
use Rattle.interpreter.specs.Isa.{shamt_of, imm_of, rd_of, rt_of, Alu, SLL, SRL, SRA, SLLV, SRLV, SRAV, DSLL, DSRL, DSRA, DSLL32, DSRL32, DSRA32, DSLLV, DSRLV, DSRAV, ADD, ADDU, SUB, SUBU, DADD, DADDU, DSUB, DSUBU, AND, OR, XOR, NOR, SLT, SLTU, MFHI, MFLO, MUL, CLZ, CLO, DCLZ, Imm, ADDI, ADDIU, SLTI, SLTIU, ANDI, ORI, XORI, LUI, DADDI, DADDIU, HiLo, MTHI, MTLO, MULT, MULTU, DMULT, DMULTU, DIV, DIVU, DDIV, DDIVU, Load, LB, LBU, LH, LHU, LW, LWU, LL, LD, LLD, LWL, LWR, LDL, LDR, Store, SB, SH, SW, SD, SWL, SWR, SDL, SDR, Conditional, SC, SCD, Branch, BEQ, BNE, BLEZ, BGTZ, BLTZ, BGEZ, BGEZAL, Jump, J, JAL, JR, JALR, Other, MOVZ, MOVN, SYNC, SYSCALL, Instruction, alu, imm, hilo, load, store, conditional, branch, jump, other, reserved, reserved_branch}
use Rattle.interpreter.specs.OpcodeMap.{decode}
use Rattle.interpreter.specs.Effects.{refusal_number, changes, storing, going, to_register, Effect}
use Rattle.interpreter.specs.Alu.{shift_left, shift_right, shift_signed, shift_signed_by, double_left, double_right, double_signed, sum, difference, mul, nor, leading_zeros32, leading_ones32, result, immediate}
use Rattle.interpreter.specs.HiLo.{pair, doublewords, mult, multu, dmult, dmultu, div, divu, ddiv, ddivu, overflows, to_hi_lo, dividing, hi_lo}
use Rattle.interpreter.specs.Loads.{offset_of, address_of, aligned, byte, part_at, lwl, lwr, ldl, ldr, loaded}
use Rattle.interpreter.specs.Stores.{part_put, sd, swl, swr, sdl, sdr, stored, answering, conditionally}
use Rattle.interpreter.specs.Kernel.{taken, branch_to, branching, region, jumping, after, does_other, does, kernel_def}
use Rattle.interpreter.specs.declared.hi_lo.Pair.{Pair}
use Rattle.interpreter.specs.declared.effect.Ins.{Ins}
use Rattle.interpreter.specs.declared.effect.Rules.{Rules}
use Rattle.interpreter.specs.declared.effect.Rules.TheVariants.{Interpreter, Manual}
use Rattle.interpreter.specs.declared.effect.Change.{Change}
use Rattle.interpreter.specs.declared.effect.Stop.TheVariants.{Refused, Call}
use Rattle.interpreter.specs.declared.effect.Refusal.{Refusal}
use Rattle.interpreter.specs.declared.effect.Refusal.TheVariants.{Reserved, DelaySlot, DivideByZero, AddressError}
use Rattle.interpreter.proofs.Laws.Powers.{product_small}
use Rattle.interpreter.proofs.Laws.Shifts.{bytes_pos, shl_cut, join_lt, shr_lt as cut_lt}
use Rattle.interpreter.proofs.Laws.Signed.{magnitude_le}
use Rattle.interpreter.proofs.Laws.Bytes.{big_lt}
use Rattle.interpreter.proofs.Laws.Puts.{put_lt}

-- ---- numbers within their bits, by what makes them

pick_lt : (b : Bool) {x y n : ℕ} → x < n → y < n → cond b x y < n
pick_lt true p q = p
pick_lt false p q = q

by_lt : (r : Rules) {x y n : ℕ} → x < n → y < n → by_rules r x y < n
by_lt Interpreter p q = p
by_lt Manual p q = q

pub wrapped : (x : ℕ) → x % 2 ^ 64 < 2 ^ 64
wrapped x = omega arith

-- an offset in eight bytes
offset_lt : (a : ℕ) → a % 8 < 8
offset_lt a = omega arith

bit_lt : (b : Bool) → cond b 1 0 < 2 ^ 64
bit_lt b = pick_lt b (lit< tt) (lit< tt)

-- the two ends of a sign extension
extended_lt : (b : Bool) (n x : ℕ) → n ≤ 64 → cond b (x % 2 ^ n) (x % 2 ^ n + (2 ^ 64 - 2 ^ n)) < 2 ^ 64
extended_lt b n x h =
    let m : x % 2 ^ n < 2 ^ n = mod-lt x (pow_pos n) in
    let p : 2 ^ n ≤ 2 ^ 64 = pow_mono {i = n} {j = 64} h in
    pick_lt b (omega arith) (omega arith)

sext_lt : (n x : ℕ) → n ≤ 64 → sext n x < 2 ^ 64
unfolding sext
sext_lt n x h = extended_lt (ltb (x % 2 ^ n) (2 ^ (n - 1))) n x h

word_lt : (x : ℕ) → sext 32 x < 2 ^ 64
word_lt x = sext_lt 32 x (lit≤ tt)

extend_lt : (x n : ℕ) → sign_extend x n < 2 ^ 64
unfolding sign_extend
extend_lt x n = pick_lt (eqb (n % 64) 0) (lit< tt) (extended_lt (ltb x (2 ^ (n % 64 - 1))) (n % 64) x (omega arith))

bitwise_lt : (f : ℕ → ℕ → ℕ) → ((a b : ℕ) → a < 2 → b < 2 → f a b < 2) → (n x y : ℕ) → bitwise f n x y < 2 ^ n
unfolding bitwise
bitwise_lt f h zero x y = omega arith
bitwise_lt f h (suc n) x y =
    let l = bitwise_lt f h n (x / 2) (y / 2) in
    let k = h (x % 2) (y % 2) (omega arith) (omega arith) in
    omega arith

and_lt : (x y : ℕ) → and x y < 2 ^ 64
and_lt x y = bitwise_lt min (λ a b h k. omega arith) 64 x y

or_lt : (x y : ℕ) → or x y < 2 ^ 64
or_lt x y = bitwise_lt max (λ a b h k. omega arith) 64 x y

xor_lt : (x y : ℕ) → xor x y < 2 ^ 64
xor_lt x y = bitwise_lt (λ a b. (a + b) % 2) (λ a b h k. omega arith) 64 x y

signed_lt : (n : ℕ) (s : Bool) (m : ℕ) → m < 2 ^ n → signed n s m < 2 ^ n
unfolding signed
signed_lt n s m h = pick_lt s (mod-lt (2 ^ n - m) (pow_pos n)) h

distance_lt : (x : ℕ) → magnitude 64 x < 2 ^ 64
distance_lt x = omega (arith, magnitude_le 64 (lit< tt) x)

-- ---- what an instruction reads, and what it changes

pub record Small (i : Ins) : Type 0 where
  pub rs : i.rs < 2 ^ 64
  pub rt : i.rt < 2 ^ 64
  pub pc : i.pc < 2 ^ 64
  pub next : i.next < 2 ^ 64
  pub hi : i.hi < 2 ^ 64
  pub lo : i.lo < 2 ^ 64
  pub mem : i.mem < 2 ^ 64

pub record Bounded (e : Change) : Type 0 where
  pub value : e.value < 2 ^ 64
  pub pc : e.pc < 2 ^ 64
  pub next : e.next < 2 ^ 64
  pub hi : e.hi < 2 ^ 64
  pub lo : e.lo < 2 ^ 64
  pub store : IfSome e.store (λ m. m < 2 ^ 64)

-- ---- results of registers and immediates

shift_left_lt : (rules : Rules) (x s : ℕ) → shift_left rules x s < 2 ^ 64
unfolding shift_left
shift_left_lt rules x s = by_lt rules (extend_lt (word x * 2 ^ s) 32) (word_lt (word x * 2 ^ s))

shift_signed_lt : (x s : ℕ) → shift_signed x s < 2 ^ 64
unfolding shift_signed
shift_signed_lt x s = sext_lt (32 - s) (word x / 2 ^ s) (omega arith)

double_right_lt : (x s : ℕ) → x < 2 ^ 64 → double_right x s < 2 ^ 64
unfolding double_right
double_right_lt x s h = lt_of_le_of_lt (shr_le x s) h

double_signed_lt : (x s : ℕ) → double_signed x s < 2 ^ 64
unfolding double_signed
double_signed_lt x s = sext_lt (64 - s) (x / 2 ^ s) (omega arith)

difference_lt : (rules : Rules) (x y : ℕ) → difference rules x y < 2 ^ 64
unfolding difference
difference_lt rules x y = by_lt rules (extend_lt _ 32) (word_lt _)

count_lt : (k n : ℕ) → k ≤ 64 → count_leading_zeros k n < 2 ^ 64
count_lt k n h = omega (arith, leading_le k n)

result_lt : (a : Alu) (i : Ins) → Small i → result a i < 2 ^ 64
unfolding result shift_right shift_signed_by double_left sum mul nor leading_zeros32 leading_ones32
result_lt SLL i s = shift_left_lt (rules_of i.rules) i.rt (shamt_of i.word)
result_lt SRL i s = word_lt _
result_lt SRA i s = shift_signed_lt i.rt (shamt_of i.word)
result_lt SLLV i s = shift_left_lt (rules_of i.rules) i.rt (i.rs % 32)
result_lt SRLV i s = word_lt _
result_lt SRAV i s =
    by_lt (rules_of i.rules) (pick_lt (eqb (i.rs % 64) 32) (lit< tt) (shift_signed_lt i.rt (i.rs % 32))) (shift_signed_lt i.rt (i.rs % 32))
result_lt DSLL i s = wrapped _
result_lt DSRL i s = double_right_lt i.rt (shamt_of i.word) s.rt
result_lt DSRA i s = double_signed_lt i.rt (shamt_of i.word)
result_lt DSLL32 i s = wrapped _
result_lt DSRL32 i s = double_right_lt i.rt (shamt_of i.word + 32) s.rt
result_lt DSRA32 i s = double_signed_lt i.rt (shamt_of i.word + 32)
result_lt DSLLV i s = wrapped _
result_lt DSRLV i s = double_right_lt i.rt (i.rs % 64) s.rt
result_lt DSRAV i s = double_signed_lt i.rt (i.rs % 64)
result_lt ADD i s = word_lt _
result_lt ADDU i s = word_lt _
result_lt SUB i s = difference_lt (rules_of i.rules) i.rs i.rt
result_lt SUBU i s = difference_lt (rules_of i.rules) i.rs i.rt
result_lt DADD i s = wrapped _
result_lt DADDU i s = wrapped _
result_lt DSUB i s = wrapped _
result_lt DSUBU i s = wrapped _
result_lt AND i s = and_lt i.rs i.rt
result_lt OR i s = or_lt i.rs i.rt
result_lt XOR i s = xor_lt i.rs i.rt
result_lt NOR i s = omega arith
result_lt SLT i s = bit_lt (less i.rs i.rt)
result_lt SLTU i s = bit_lt (ltb i.rs i.rt)
result_lt MFHI i s = s.hi
result_lt MFLO i s = s.lo
result_lt MUL i s = word_lt _
result_lt CLZ i s = count_lt 32 _ (lit≤ tt)
result_lt CLO i s = count_lt 32 _ (lit≤ tt)
result_lt DCLZ i s = count_lt 64 _ (lit≤ tt)

immediate_lt : (a : Imm) (i : Ins) → immediate a i < 2 ^ 64
unfolding immediate sum
immediate_lt ADDI i = word_lt _
immediate_lt ADDIU i = word_lt _
immediate_lt SLTI i = bit_lt (less i.rs (sext 16 (imm_of i.word)))
immediate_lt SLTIU i = bit_lt (ltb i.rs (sext 16 (imm_of i.word)))
immediate_lt ANDI i = and_lt i.rs (imm_of i.word)
immediate_lt ORI i = or_lt i.rs (imm_of i.word)
immediate_lt XORI i = xor_lt i.rs (imm_of i.word)
immediate_lt LUI i = word_lt _
immediate_lt DADDI i = wrapped _
immediate_lt DADDIU i = wrapped _

-- ---- results to hi and lo

abbrev Both : Pair → Type 0
Both p = (p.hi < 2 ^ 64) × (p.lo < 2 ^ 64)

halves_lt : (p : ℕ) → p < 2 ^ (64 + 64) → Both (doublewords p)
halves_lt p h = (shr_lt 64 64 h, wrapped p)

dmultu_lt : (x y : ℕ) → x < 2 ^ 64 → y < 2 ^ 64 → Both (dmultu x y)
unfolding dmultu
dmultu_lt x y h k = halves_lt (x * y) (product_small 64 h k)

product_lt : (x y : ℕ) → product 64 x y < 2 ^ (64 + 64)
unfolding product
product_lt x y = signed_lt (64 + 64) _ (magnitude 64 x * magnitude 64 y) (product_small 64 (distance_lt x) (distance_lt y))

dmult_lt : (rules : Rules) (x y : ℕ) → x < 2 ^ 64 → y < 2 ^ 64 → Both (dmult rules x y)
unfolding dmult
dmult_lt Interpreter x y h k = dmultu_lt x y h k
dmult_lt Manual x y h k = halves_lt (product 64 x y) (product_lt x y)

divu_lt : (rules : Rules) (x y : ℕ) → Both (divu rules x y)
unfolding divu
divu_lt Interpreter x y =
    let q = div-le_self (word x) (word y) in
    let r = mod-le (word x) (word y) in
    (omega arith, omega arith)
divu_lt Manual x y = (word_lt _, word_lt _)

ddiv_lt : (x y : ℕ) → Both (ddiv x y)
unfolding ddiv quotient remainder
ddiv_lt x y =
    (signed_lt 64 _ _ (lt_of_le_of_lt (mod-le (magnitude 64 x) (magnitude 64 y)) (distance_lt x)), signed_lt 64 _ _ (lt_of_le_of_lt (div-le_self (magnitude 64 x) (magnitude 64 y)) (distance_lt x)))

ddivu_lt : (x y : ℕ) → x < 2 ^ 64 → Both (ddivu x y)
unfolding ddivu
ddivu_lt x y h = (lt_of_le_of_lt (mod-le x y) h, lt_of_le_of_lt (div-le_self x y) h)

-- ---- bytes read

bytes_lt : (n m o : ℕ) → big n (byte m) o < 256 ^ n
bytes_lt n m o = big_lt n (byte m) o (bytes_bytes 8 m)

few_lt : (n m o : ℕ) → n ≤ 8 → big n (byte m) o < 2 ^ 64
few_lt n m o h = lt_of_lt_of_le (bytes_lt n m o) (pow-le-pow_right {n = 256} (lit< tt) {i = n} {j = 8} h)

ldl_lt : (m o t : ℕ) → o < 8 → ldl m o t < 2 ^ 64
unfolding ldl
ldl_lt m o t h =
    let e : 8 - o + o ≡ 8 = omega arith in
    rw e at (join_lt (8 - o) o (big (8 - o) (byte m) o) (t % 256 ^ o) (bytes_lt (8 - o) m o) (mod-lt t (bytes_pos o)))

ldr_lt : (rules : Rules) (m o t : ℕ) → o < 8 → t < 2 ^ 64 → ldr rules m o t < 2 ^ 64
unfolding ldr
ldr_lt rules m o t h k =
    let e : 7 - o + (o + 1) ≡ 8 = omega arith in
    let b = cut_lt (7 - o) (o + 1) t (rw e k) in
    pick_lt (by_rules rules (eqb o 7) false) (or_lt m t) (rw e at (join_lt (7 - o) (o + 1) (t / 256 ^ (o + 1)) (big (o + 1) (byte m) 0) b (bytes_lt (o + 1) m 0)))

-- ---- bytes written

sd_lt : (rules : Rules) (m o t : ℕ) → o < 8 → t < 2 ^ 64 → sd rules m o t < 2 ^ 64
unfolding sd
sd_lt rules m o t h k =
    let e : 8 - o + o ≡ 8 = omega arith in
    let c : t * 256 ^ o % 2 ^ 64 ≡ t % 256 ^ (8 - o) * 256 ^ o = rw e at (shl_cut (8 - o) o t) in
    by_lt rules (rw c (rw e at (join_lt (8 - o) o (t % 256 ^ (8 - o)) (m % 256 ^ o) (mod-lt t (bytes_pos (8 - o))) (mod-lt m (bytes_pos o))))) k

swr_lt : (rules : Rules) (m o t : ℕ) → swr rules m o t < 2 ^ 64
unfolding swr
swr_lt rules m o t = pick_lt (by_rules rules (not (ltb o 4)) false) (or_lt _ _) (put_lt m (o / 4 * 4) (o % 4 + 1) t)

-- ---- every instruction: its refusals are its own, and its change is bounded where what it reads is small

abbrev Own : Refusal → Type 0
Own n = (2 ≤ refusal_number n) × (refusal_number n ≤ 7)

abbrev Right : Ins → Effect → Type 0
Right i (Err (Refused n)) = Own n
Right i (Err Call) = record {}
Right i (Ok e) = Small i → Bounded e

data Fine (i : Ins) (e : Effect) : Type 0 where
  fine : Right i e → Fine i e

-- the same of what a load or a store answers
abbrev RightValue : Ins → Result ℕ Refusal → Type 0
RightValue i (Ok v) = Small i → v < 2 ^ 64
RightValue i (Err n) = Own n

data FineValue (i : Ins) (o : Result ℕ Refusal) : Type 0 where
  fine_value : RightValue i o → FineValue i o

module _ (i : Ins) where
  reserved_fine : Fine i (Err (Refused Reserved))
  unfolding refusal_number
  reserved_fine = fine (lit≤ tt, lit≤ tt)

  delay_fine : Fine i (Err (Refused DelaySlot))
  unfolding refusal_number
  delay_fine = fine (lit≤ tt, lit≤ tt)

  zero_fine : Fine i (Err (Refused DivideByZero))
  unfolding refusal_number
  zero_fine = fine (lit≤ tt, lit≤ tt)

  cond_fine : (t : Bool) {a b : Effect} → Fine i a → Fine i b → Fine i (cond t a b)
  cond_fine true p q = p
  cond_fine false p q = q

  pick_fine : (t : Bool) {a b : Change} → Fine i (Ok a) → Fine i (Ok b) → Fine i (Ok (cond t a b))
  pick_fine true p q = p
  pick_fine false p q = q

  by_fine : (r : Rules) {a b : Change} → Fine i (Ok a) → Fine i (Ok b) → Fine i (Ok (by_rules r a b))
  by_fine Interpreter p q = p
  by_fine Manual p q = q

  changes_fine : (d v h l : ℕ) → (Small i → v < 2 ^ 64) → (Small i → h < 2 ^ 64) → (Small i → l < 2 ^ 64) → Fine i (Ok (changes i d v h l))
  unfolding changes
  changes_fine d v h l p q r =
      fine (λ s. record { value = p s; pc = s.next; next = wrapped _; hi = q s; lo = r s; store = tt })

  register_fine : (d v : ℕ) → (Small i → v < 2 ^ 64) → Fine i (Ok (to_register i d v))
  register_fine d v p = changes_fine d v i.hi i.lo p (λ s. s.hi) (λ s. s.lo)

  none_fine : Fine i (Ok (to_register i 0 0))
  none_fine = register_fine 0 0 (λ s. lit< tt)

  storing_fine : (d v m : ℕ) → v < 2 ^ 64 → (Small i → m < 2 ^ 64) → Fine i (Ok (storing i d v m))
  unfolding storing
  storing_fine d v m p q =
      fine (λ s. record { value = p; pc = s.next; next = wrapped _; hi = s.hi; lo = s.lo; store = q s })

  going_fine : (d v t : ℕ) → v < 2 ^ 64 → (Small i → t < 2 ^ 64) → Fine i (going i d v t)
  unfolding going
  going_fine d v t p q =
      cond_fine (eqb i.next (plus i.pc 4))
      (fine (λ s. record { value = p; pc = s.next; next = q s; hi = s.hi; lo = s.lo; store = tt }))
      delay_fine

  -- ---- results to hi and lo

  pair_fine : (p : Pair) → (Small i → Both p) → Fine i (Ok (to_hi_lo i p))
  pair_fine p b = changes_fine _ 0 p.hi p.lo (λ s. lit< tt) (λ s. (b s).0) (λ s. (b s).1)

  dividing_fine : (n x y : ℕ) (p : Pair) → (Small i → Both p) → Fine i (dividing n i x y p)
  unfolding refusal_number
  dividing_fine n x y p b =
      cond_fine (eqb y 0) zero_fine (cond_fine (overflows n (rules_of i.rules) x y) (fine (lit≤ tt, lit≤ tt)) (pair_fine p b))

  hilo_fine : (h : HiLo) → Fine i (hi_lo h i)
  unfolding hi_lo mult multu div
  hilo_fine MTHI = pair_fine (pair i.rs i.lo) (λ s. (s.rs, s.lo))
  hilo_fine MTLO = pair_fine (pair i.hi i.rs) (λ s. (s.hi, s.rs))
  hilo_fine MULT = pair_fine (mult i.rs i.rt) (λ s. (word_lt _, word_lt _))
  hilo_fine MULTU = pair_fine (multu i.rs i.rt) (λ s. (word_lt _, word_lt _))
  hilo_fine DMULT = pair_fine (dmult (rules_of i.rules) i.rs i.rt) (λ s. dmult_lt (rules_of i.rules) i.rs i.rt s.rs s.rt)
  hilo_fine DMULTU = pair_fine (dmultu i.rs i.rt) (λ s. dmultu_lt i.rs i.rt s.rs s.rt)
  hilo_fine DIV = dividing_fine 32 (word i.rs) (word i.rt) (div i.rs i.rt) (λ s. (word_lt _, word_lt _))
  hilo_fine DIVU =
      cond_fine (eqb (word i.rt) 0) zero_fine (pair_fine (divu (rules_of i.rules) i.rs i.rt) (λ s. divu_lt (rules_of i.rules) i.rs i.rt))
  hilo_fine DDIV = dividing_fine 64 i.rs i.rt (ddiv i.rs i.rt) (λ s. ddiv_lt i.rs i.rt)
  hilo_fine DDIVU =
      cond_fine (eqb i.rt 0) zero_fine (pair_fine (ddivu i.rs i.rt) (λ s. ddivu_lt i.rs i.rt s.rs))

  -- ---- loads and stores

  value_fine : (v : ℕ) → (Small i → v < 2 ^ 64) → FineValue i (Ok v)
  value_fine v p = fine_value p

  aligned_fine : (n v : ℕ) → (Small i → v < 2 ^ 64) → FineValue i (aligned i n v)
  unfolding aligned refusal_number
  aligned_fine n v p = go (by_rules (rules_of i.rules) false (not (eqb (address_of i.word i.rs % n) 0)))
    where
      go : (b : Bool) → FineValue i (cond b (Err AddressError) (Ok v))
      go true = fine_value (lit≤ tt, lit≤ tt)
      go false = value_fine v p

  loaded_fine : (l : Load) → FineValue i (loaded l i)
  unfolding loaded part_at lwl lwr
  loaded_fine LB = value_fine _ (λ s. sext_lt 8 _ (lit≤ tt))
  loaded_fine LBU = value_fine _ (λ s. few_lt 1 i.mem _ (lit≤ tt))
  loaded_fine LH = aligned_fine 2 _ (λ s. sext_lt 16 _ (lit≤ tt))
  loaded_fine LHU = aligned_fine 2 _ (λ s. few_lt 2 i.mem _ (lit≤ tt))
  loaded_fine LW = aligned_fine 4 _ (λ s. word_lt _)
  loaded_fine LWU = aligned_fine 4 _ (λ s. few_lt 4 i.mem _ (lit≤ tt))
  loaded_fine LL = aligned_fine 4 _ (λ s. word_lt _)
  loaded_fine LD = aligned_fine 8 _ (λ s. s.mem)
  loaded_fine LLD = aligned_fine 8 _ (λ s. s.mem)
  loaded_fine LWL = value_fine _ (λ s. word_lt _)
  loaded_fine LWR = value_fine _ (λ s. word_lt _)
  loaded_fine LDL = value_fine _ (λ s. ldl_lt i.mem (offset_of i) i.rt (offset_lt _))
  loaded_fine LDR = value_fine _ (λ s. ldr_lt (rules_of i.rules) i.mem (offset_of i) i.rt (offset_lt _) s.rt)

  stored_fine : (x : Store) → FineValue i (stored x i)
  unfolding stored part_put swl sdl sdr
  stored_fine SB = value_fine _ (λ s. put_lt i.mem _ 1 _)
  stored_fine SH = aligned_fine 2 _ (λ s. put_lt i.mem _ 2 _)
  stored_fine SW = aligned_fine 4 _ (λ s. put_lt i.mem _ 4 _)
  stored_fine SD = aligned_fine 8 _ (λ s. sd_lt (rules_of i.rules) i.mem (offset_of i) i.rt (offset_lt _) s.rt)
  stored_fine SWL = value_fine _ (λ s. put_lt i.mem _ _ _)
  stored_fine SWR = value_fine _ (λ s. swr_lt (rules_of i.rules) i.mem (offset_of i) i.rt)
  stored_fine SDL = value_fine _ (λ s. put_lt i.mem _ _ _)
  stored_fine SDR = value_fine _ (λ s. put_lt i.mem 0 _ _)

  after_fine : (f : ℕ → Change) → ((v : ℕ) → (Small i → v < 2 ^ 64) → Fine i (Ok (f v))) → (o : Result ℕ Refusal) → FineValue i o → Fine i (after f o)
  after_fine f p (Ok v) (fine_value q) = p v q
  after_fine f p (Err n) (fine_value q) = fine q

  answering_fine : (o : Result ℕ Refusal) → FineValue i o → Fine i (answering i o)
  answering_fine (Ok m) (fine_value q) = pick_fine (by_rules (rules_of i.rules) (eqb (rt_of i.word) 0) false) none_fine (storing_fine (rt_of i.word) 1 m (lit< tt) q)
  answering_fine (Err n) (fine_value q) = fine q

  conditional_fine : (c : Conditional) → Fine i (conditionally c i)
  unfolding conditionally
  conditional_fine SC = answering_fine (stored SW i) (stored_fine SW)
  conditional_fine SCD = answering_fine (stored SD i) (stored_fine SD)

  -- ---- branches and jumps

  branch_to_lt : (t : Bool) → branch_to i t < 2 ^ 64
  branch_to_lt t = pick_lt t (wrapped _) (wrapped _)

  unlinked : (b : Branch) → Fine i (going i 0 0 (branch_to i (taken b i)))
  unlinked b = going_fine 0 0 _ (lit< tt) (λ s. branch_to_lt (taken b i))

  branch_fine : (b : Branch) → Fine i (branching b i)
  unfolding branching
  branch_fine BEQ = unlinked BEQ
  branch_fine BNE = unlinked BNE
  branch_fine BLEZ = unlinked BLEZ
  branch_fine BGTZ = unlinked BGTZ
  branch_fine BLTZ = unlinked BLTZ
  branch_fine BGEZ = unlinked BGEZ
  branch_fine BGEZAL = going_fine 31 _ _ (wrapped _) (λ s. branch_to_lt (taken BGEZAL i))

  region_lt : i.next < 2 ^ 64 → region i < 2 ^ 64
  region_lt h = omega arith

  jump_fine : (j : Jump) → Fine i (jumping j i)
  unfolding jumping
  jump_fine J = going_fine 0 0 _ (lit< tt) (λ s. region_lt s.next)
  jump_fine JAL = going_fine 31 _ _ (wrapped _) (λ s. region_lt s.next)
  jump_fine JR = going_fine 0 0 _ (lit< tt) (λ s. s.rs)
  jump_fine JALR = going_fine _ _ _ (wrapped _) (λ s. s.rs)

  -- ---- all of them

  move_fine : (t : Bool) → Fine i (Ok (cond t (to_register i (rd_of i.word) i.rs) (to_register i 0 0)))
  move_fine t = pick_fine t (register_fine _ _ (λ s. s.rs)) none_fine

  other_fine : (o : Other) → Fine i (does_other o i)
  unfolding does_other
  other_fine MOVZ = move_fine (eqb i.rt 0)
  other_fine MOVN = move_fine (not (eqb i.rt 0))
  other_fine SYNC = by_fine (rules_of i.rules) (register_fine _ _ (λ s. s.rs)) none_fine
  other_fine SYSCALL = fine (record {})

  does_fine : (n : Instruction) → Fine i (does n i)
  unfolding does
  does_fine (alu a) = register_fine _ _ (result_lt a i)
  does_fine (imm a) = register_fine _ _ (λ s. immediate_lt a i)
  does_fine (hilo h) = hilo_fine h
  does_fine (load l) = after_fine _ (λ v. register_fine _ v) (loaded l i) (loaded_fine l)
  does_fine (store x) = after_fine _ (λ v. storing_fine 0 0 v (lit< tt)) (stored x i) (stored_fine x)
  does_fine (conditional c) = conditional_fine c
  does_fine (branch b) = branch_fine b
  does_fine (jump j) = jump_fine j
  does_fine (other o) = other_fine o
  does_fine reserved = reserved_fine
  does_fine reserved_branch = cond_fine (eqb i.next (plus i.pc 4)) reserved_fine delay_fine

  kernel_fine : Fine i (kernel_def i)
  unfolding kernel_def refusal_number
  kernel_fine = cond_fine (eqb (i.pc % 4) 0) (does_fine (decode i.word)) (fine (lit≤ tt, lit≤ tt))

done_bounded : {i : Ins} {e : Change} → Fine i (Ok e) → Small i → Bounded e
done_bounded (fine p) = p

refused_own : {i : Ins} {n : Refusal} → Fine i (Err (Refused n)) → Own n
refused_own (fine p) = p

-- an instruction that reads numbers of 64 bits makes numbers of 64 bits
pub kernel_bounded : (i : Ins) → Small i → (e : Change) → kernel_def i ≡ Ok e → Bounded e
kernel_bounded i s e h = done_bounded (rw h at (kernel_fine i)) s

-- an instruction by itself is refused only with 2 to 7
pub kernel_refuses : (i : Ins) (n : Refusal) → kernel_def i ≡ Err (Refused n) → (2 ≤ refusal_number n) × (refusal_number n ≤ 7)
kernel_refuses i n h = refused_own (rw h at (kernel_fine i))
