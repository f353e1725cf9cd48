-- What the step needs to know of the kernel: the register that it writes is one, when it calls, and that the touched address is a doubleword's.
use Rattle.std.specs.Prelude.{Result, Ok, Err}
use Rattle.std.proofs.Common.{◌≡◌, ℕ, ◌*◌, ◌/◌, ◌%◌, ◌<◌, Bool, true, false, cond, not, eqb, sym, refl, ap, ◌∙◌, mod-lt, arith, lit<, eq-eqb, Option, Some, None}
use Rattle.interpreter.specs.Isa.{rt_of, rd_of, HiLo, MTHI, MTLO, MULT, MULTU, DMULT, DMULTU, DIV, DIVU, DDIV, DDIVU, Conditional, SC, SCD, Branch, BEQ, BNE, BLEZ, BGTZ, BLTZ, BGEZ, BGEZAL, Jump, J, JAL, JR, JALR, Other, MOVZ, MOVN, SYNC, SYSCALL, Instruction, alu, imm, hilo, load, store, conditional, branch, jump, other, reserved, reserved_branch}
use Rattle.interpreter.specs.OpcodeMap.{decode}
use Rattle.interpreter.specs.Effects.{changes, storing, going, to_register, Effect}
use Rattle.interpreter.specs.HiLo.{hi_lo, overflows, to_hi_lo, dividing, pair, mult, multu, dmult, dmultu, div, divu, ddiv, ddivu}
use Rattle.interpreter.specs.declared.hi_lo.Pair.{Pair}
use Rattle.interpreter.specs.Loads.{loaded, address_of}
use Rattle.interpreter.specs.Stores.{stored, conditionally, answering}
use Rattle.interpreter.specs.Kernel.{after, branching, jumping, does_other, does, kernel_def, touching, touch_def}
use Rattle.interpreter.specs.Words.{plus, word, rules_of, by_rules}
use Rattle.interpreter.specs.Isa.{SW, SD}
use Rattle.interpreter.specs.declared.effect.Ins.{Ins}
use Rattle.interpreter.specs.declared.effect.Rules.{Rules}
use Rattle.interpreter.specs.declared.effect.Rules.TheVariants.{Interpreter, Manual}
use Rattle.interpreter.specs.declared.effect.Change.{Change}
use Rattle.interpreter.specs.declared.effect.Stop.TheVariants.{Refused, Call}
use Rattle.interpreter.specs.declared.effect.Refusal.{Refusal}
use Rattle.interpreter.specs.declared.effect.Refusal.TheVariants.{PcMisaligned}
use Rattle.interpreter.specs.Recording.{other_calls, calls}

-- ---- the register

abbrev dest_of : Effect → ℕ
dest_of (Err n) = 0
dest_of (Ok e) = e.dest

-- a register, or none
abbrev is_call : Effect → Bool
is_call (Err (Refused n)) = false
is_call (Err Call) = true
is_call (Ok e) = false

-- and whether it is a system call
data Fine (b : Bool) (e : Effect) : Type 0 where
  fine : dest_of e < 32 → is_call e ≡ b → Fine b e

below : (b : Bool) (e : Effect) → Fine b e → dest_of e < 32
below b e (fine p q) = p

called : (b : Bool) (e : Effect) → Fine b e → is_call e ≡ b
called b e (fine p q) = q

fine_refused : (n : Refusal) → Fine false (Err (Refused n))
fine_refused n = fine (lit< tt) refl

fine_call : Fine true (Err Call)
fine_call = fine (lit< tt) refl

fine_done : (e : Change) → e.dest < 32 → Fine false (Ok e)
fine_done e p = fine p refl

fine_cond : (t : Bool) {z : Bool} {a b : Effect} → Fine z a → Fine z b → Fine z (cond t a b)
fine_cond true p q = p
fine_cond false p q = q

fine_pick : (t : Bool) {z : Bool} {a b : Change} → Fine z (Ok a) → Fine z (Ok b) → Fine z (Ok (cond t a b))
fine_pick true p q = p
fine_pick false p q = q

fine_by : (r : Rules) {z : Bool} {a b : Change} → Fine z (Ok a) → Fine z (Ok b) → Fine z (Ok (by_rules r a b))
fine_by Interpreter p q = p
fine_by Manual p q = q

small_by : (r : Rules) {a b : ℕ} → a < 32 → b < 32 → by_rules r a b < 32
small_by Interpreter p q = p
small_by Manual p q = q

none : 0 < 32
none = lit< tt

last : 31 < 32
last = lit< tt

pub field : (n : ℕ) → n % 32 < 32
field n = mod-lt n (lit< tt)

fine_changes : (i : Ins) (d v h l : ℕ) → d < 32 → Fine false (Ok (changes i d v h l))
unfolding changes
fine_changes i d v h l p = fine p refl

fine_storing : (i : Ins) (d v m : ℕ) → d < 32 → Fine false (Ok (storing i d v m))
unfolding storing
fine_storing i d v m p = fine p refl

fine_going : (i : Ins) (d v t : ℕ) → d < 32 → Fine false (going i d v t)
unfolding going
fine_going i d v t p = fine_cond (eqb i.next (plus i.pc 4)) (fine_done _ p) (fine_refused _)

fine_after : (f : ℕ → Change) (o : Result ℕ Refusal) → ((v : ℕ) → Fine false (Ok (f v))) → Fine false (after f o)
fine_after f (Ok v) p = p v
fine_after f (Err n) p = fine_refused _

fine_answering : (i : Ins) (o : Result ℕ Refusal) → Fine false (answering i o)
fine_answering i (Ok m) = fine_pick (by_rules (rules_of i.rules) (eqb (rt_of i.word) 0) false) (fine_changes i 0 0 i.hi i.lo none) (fine_storing i (rt_of i.word) 1 m (field _))
fine_answering i (Err n) = fine_refused _

fine_hilo : (i : Ins) (p : Pair) → Fine false (Ok (to_hi_lo i p))
fine_hilo i p = fine_changes i (by_rules (rules_of i.rules) (rd_of i.word) 0) 0 p.hi p.lo (small_by (rules_of i.rules) (field _) none)

fine_divides : (n : ℕ) (i : Ins) (x y : ℕ) (p : Pair) → Fine false (dividing n i x y p)
fine_divides n i x y p = fine_cond (eqb y 0) (fine_refused _) (fine_cond (overflows n (rules_of i.rules) x y) (fine_refused _) (fine_hilo i p))

hilo_fine : (h : HiLo) (i : Ins) → Fine false (hi_lo h i)
unfolding hi_lo
hilo_fine MTHI i = fine_hilo i (pair i.rs i.lo)
hilo_fine MTLO i = fine_hilo i (pair i.hi i.rs)
hilo_fine MULT i = fine_hilo i (mult i.rs i.rt)
hilo_fine MULTU i = fine_hilo i (multu i.rs i.rt)
hilo_fine DMULT i = fine_hilo i (dmult (rules_of i.rules) i.rs i.rt)
hilo_fine DMULTU i = fine_hilo i (dmultu i.rs i.rt)
hilo_fine DIV i = fine_divides 32 i (word i.rs) (word i.rt) (div i.rs i.rt)
hilo_fine DIVU i = fine_cond (eqb (word i.rt) 0) (fine_refused _) (fine_hilo i (divu (rules_of i.rules) i.rs i.rt))
hilo_fine DDIV i = fine_divides 64 i i.rs i.rt (ddiv i.rs i.rt)
hilo_fine DDIVU i = fine_cond (eqb i.rt 0) (fine_refused _) (fine_hilo i (ddivu i.rs i.rt))

conditional_fine : (c : Conditional) (i : Ins) → Fine false (conditionally c i)
unfolding conditionally
conditional_fine SC i = fine_answering i (stored SW i)
conditional_fine SCD i = fine_answering i (stored SD i)

branch_fine : (b : Branch) (i : Ins) → Fine false (branching b i)
unfolding branching
branch_fine BEQ i = fine_going i 0 0 _ none
branch_fine BNE i = fine_going i 0 0 _ none
branch_fine BLEZ i = fine_going i 0 0 _ none
branch_fine BGTZ i = fine_going i 0 0 _ none
branch_fine BLTZ i = fine_going i 0 0 _ none
branch_fine BGEZ i = fine_going i 0 0 _ none
branch_fine BGEZAL i = fine_going i 31 _ _ last

jump_fine : (j : Jump) (i : Ins) → Fine false (jumping j i)
unfolding jumping
jump_fine J i = fine_going i 0 0 _ none
jump_fine JAL i = fine_going i 31 _ _ last
jump_fine JR i = fine_going i 0 0 _ none
jump_fine JALR i = fine_going i _ _ _ (field _)

move_fine : (t : Bool) (i : Ins) → Fine false (Ok (cond t (to_register i (rd_of i.word) i.rs) (to_register i 0 0)))
move_fine t i = fine_pick t (fine_changes i _ _ _ _ (field _)) (fine_changes i 0 0 _ _ none)

other_fine : (o : Other) (i : Ins) → Fine (other_calls o) (does_other o i)
unfolding does_other
other_fine MOVZ i = move_fine (eqb i.rt 0) i
other_fine MOVN i = move_fine (not (eqb i.rt 0)) i
other_fine SYNC i = fine_by (rules_of i.rules) (fine_changes i _ _ _ _ (field _)) (fine_changes i 0 0 _ _ none)
other_fine SYSCALL i = fine_call

does_fine : (n : Instruction) (i : Ins) → Fine (calls n) (does n i)
unfolding does calls
does_fine (alu a) i = fine_changes i _ _ _ _ (field _)
does_fine (imm a) i = fine_changes i _ _ _ _ (field _)
does_fine (hilo h) i = hilo_fine h i
does_fine (load l) i = fine_after _ (loaded l i) (λ v. fine_changes i _ _ _ _ (field _))
does_fine (store s) i = fine_after _ (stored s i) (λ v. fine_storing i 0 0 v none)
does_fine (conditional c) i = conditional_fine c i
does_fine (branch b) i = branch_fine b i
does_fine (jump j) i = jump_fine j i
does_fine (other o) i = other_fine o i
does_fine reserved i = fine_refused _
does_fine reserved_branch i = fine_cond (eqb i.next (plus i.pc 4)) (fine_refused _) (fine_refused _)

kernel_small : (t : Bool) (i : Ins) → dest_of (cond t (does (decode i.word) i) (Err (Refused PcMisaligned))) < 32
kernel_small true i = below _ (does (decode i.word) i) (does_fine (decode i.word) i)
kernel_small false i = none

-- the register that an instruction writes
pub kernel_dest : (i : Ins) (e : Change) {f : Effect} → f ≡ kernel_def i → f ≡ Ok e → e.dest < 32
unfolding kernel_def
kernel_dest i e g h = let q : e.dest ≡ dest_of (kernel_def i) = ap dest_of (sym h ∙ g) in rw q (kernel_small (eqb (i.pc % 4) 0) i)

-- at an aligned pc the kernel calls where the instruction does
kernel_calls : (i : Ins) {e : Effect} → i.pc % 4 ≡ 0 → e ≡ kernel_def i → is_call e ≡ calls (decode i.word)
unfolding kernel_def
kernel_calls i {e} h g = let q : e ≡ does (decode i.word) i = g ∙ rw (eq-eqb _ _ h) in ap is_call q ∙ called _ (does (decode i.word) i) (does_fine (decode i.word) i)

pub calls_call : (i : Ins) {e : Effect} → i.pc % 4 ≡ 0 → e ≡ kernel_def i → e ≡ Err Call → calls (decode i.word) ≡ true
calls_call i h g z = sym (kernel_calls i h g) ∙ ap is_call z

pub calls_done : (i : Ins) {e : Effect} {a : Change} → i.pc % 4 ≡ 0 → e ≡ kernel_def i → e ≡ Ok a → calls (decode i.word) ≡ false
calls_done i h g z = sym (kernel_calls i h g) ∙ ap is_call z

pub calls_refused : (i : Ins) {e : Effect} {n : Refusal} → i.pc % 4 ≡ 0 → e ≡ kernel_def i → e ≡ Err (Refused n) → calls (decode i.word) ≡ false
calls_refused i h g z = sym (kernel_calls i h g) ∙ ap is_call z

-- ---- the touched address

abbrev pub touched_at : Option ℕ → ℕ
touched_at None = 0
touched_at (Some a) = a

-- what holds of 0 and of an address holds of what an instruction there touches
pub touching_all : (P : ℕ → Type 0) → P 0 → (n : Instruction) (a : ℕ) → P a → P (touched_at (touching n a))
unfolding touching
touching_all P z (alu x) a h = z
touching_all P z (imm x) a h = z
touching_all P z (hilo x) a h = z
touching_all P z (load x) a h = h
touching_all P z (store x) a h = h
touching_all P z (conditional x) a h = h
touching_all P z (branch x) a h = z
touching_all P z (jump x) a h = z
touching_all P z (other x) a h = z
touching_all P z reserved a h = z
touching_all P z reserved_branch a h = z

pub touch_even : (w b a : ℕ) → touch_def w b ≡ Some a → a % 8 ≡ 0
unfolding touch_def
touch_even w b a e = let q : a ≡ touched_at (touch_def w b) = ap touched_at (sym e) in rw q (touching_all (λ k. k % 8 ≡ 0) refl (decode w) (address_of w b / 8 * 8) (omega arith))
