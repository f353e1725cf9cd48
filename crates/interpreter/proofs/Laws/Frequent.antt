-- A quick answer that agrees with the definition.
use Rattle.std.proofs.Common.{◌≡◌, ℕ, ◌+◌, ◌*◌, ◌/◌, ◌<◌, Bool, true, false, cond, eqb, List, sym, ap, ◌∙◌, subst, arith}
use Rattle.std.specs.Prelude.{Option, Some, None, Ok, Err}
use Rattle.std.specs.Result.{result_ok}
use Rattle.pages.specs.Bytes.{big}
use Rattle.pages.specs.Pages.{byte_at}
use Rattle.interpreter.specs.Isa.{opcode_of, funct_of, Instruction}
use Rattle.interpreter.specs.OpcodeMap.{special, decode_by, decode, accesses}
use Rattle.interpreter.specs.Effects.{seeing, Effect}
use Rattle.interpreter.specs.Loads.{address_of}
use Rattle.interpreter.specs.Kernel.{does}
use Rattle.interpreter.specs.Parts.{Agrees, key_of, Quiet, Sees, Reaches}
use Rattle.interpreter.specs.declared.effect.Ins.{Ins}
use Rattle.interpreter.specs.declared.effect.Change.{Change}
use Rattle.interpreter.specs.declared.window.Window.{Window}
use Rattle.interpreter.proofs.Laws.Touches.{special_nothing, touches_by}

abbrev change_or : Option Change → Change → Change
change_or (Some e) d = e
change_or None d = d

abbrev IsNone : Option Change → Type 0
IsNone None = Unit {0}
IsNone (Some e) = ⊥

no_change : {A : Type 0} {e : Change} → None ≡ Some e → A
no_change h = absurd (subst IsNone h tt)

-- a change that an effect is
ok_change : (s : Effect) {e : Change} → result_ok s ≡ Some e → s ≡ Ok e
ok_change (Ok a) h = ap (λ k. Ok (change_or k a)) h
ok_change (Err n) h = no_change h

pub agrees_same : {r : Option Change} (s : Effect) → r ≡ result_ok s → Agrees r s
unfolding Agrees
agrees_same s p e h = ok_change s (sym p ∙ h)

-- the definition, said otherwise
pub agrees_as : (r : Option Change) {s t : Effect} → Agrees r s → s ≡ t → Agrees r t
unfolding Agrees
agrees_as r a p e h = sym p ∙ a e h

-- what is no change agrees with anything
pub agrees_none : (s : Effect) → Agrees None s
unfolding Agrees
agrees_none s e h = no_change h

-- ---- keys

module _ (w : ℕ) {k : ℕ} (e : k ≡ key_of w) where
  key_op : (n : ℕ) → k ≡ n → n < 64 → opcode_of w ≡ n
  unfolding key_of
  key_op n h l = go (eqb (opcode_of w) 0x00) e
    where
      go : (b : Bool) → k ≡ cond b (0x40 + funct_of w) (opcode_of w) → opcode_of w ≡ n
      go true q = absurd (omega arith)
      go false q = sym q ∙ h

  key_special : (f : ℕ) → k ≡ 0x40 + f → decode w ≡ special f
  unfolding key_of decode_by
  key_special f h = go (eqb (opcode_of w) 0x00) _ e
    where
      go : (b : Bool) (d : Instruction) → k ≡ cond b (0x40 + funct_of w) (opcode_of w) → cond b (special (funct_of w)) d ≡ special f
      go true d q = let g : funct_of w ≡ f = omega arith in ap special g
      go false d q = absurd (omega arith)

-- ---- instructions that touch no memory

module _ (i : Ins) {k : ℕ} (e : k ≡ key_of i.word) where
  pub quiet_special : (f : ℕ) → k ≡ 0x40 + f → {r : Option Change} → r ≡ result_ok (does (special f) i) → Quiet r i
  unfolding Quiet
  quiet_special f h q c g = let d = key_special i.word e f h in (rw d (ok_change (does (special f) i) (sym q ∙ g)), λ a. rw d (special_nothing a f))

  pub quiet_op : (n : ℕ) → k ≡ n → n < 64 → accesses n ≡ false → (r : Option Change) → Agrees r (does (decode_by n i.word) i) → Quiet r i
  unfolding Quiet Agrees
  quiet_op n h l s r a c g = let d = key_op i.word e n h l in (rw d (a c g), λ x. rw d (touches_by n i.word x l false (sym s)))

pub quiet_none : (i : Ins) → Quiet None i
unfolding Quiet
quiet_none i e h = no_change h

-- ---- loads and stores in the page

abbrev inside : Option Ins → Ins → Ins
inside (Some j) i = j
inside None i = i

-- the instruction that was given its eight bytes
pub sees : (p : List ℕ) (u : ℕ) (w : Window) (i : Ins) {a m : ℕ} {n j : Ins} → a ≡ address_of i.word i.rs → n ≡ seeing i m → m ≡ big 8 (byte_at p u) (a / 8 * 8) → a / 8 * 8 / 4096 ≡ w.number
    → Some n ≡ Some j → Sees p u w i j
sees p u w i q1 q2 q3 q4 e =
    record { here = sym (ap (λ (x : ℕ). x / 8 * 8 / 4096) q1) ∙ q4; eight = sym (ap (λ k. inside k i) e) ∙ q2 ∙ ap (seeing i) (q3 ∙ ap (λ (x : ℕ). big 8 (byte_at p u) (x / 8 * 8)) q1) }

module _ (p : List ℕ) (u : ℕ) (w : Window) (i : Ins) {k : ℕ} (e : k ≡ key_of i.word) where
  pub reaches : (n : ℕ) → k ≡ n → n < 64 → accesses n ≡ true → {m : Option Ins} {j : Ins} → ((j : Ins) → m ≡ Some j → Sees p u w i j) → m ≡ Some j
      → {r : Option Change} → r ≡ result_ok (does (decode_by n i.word) j) → Reaches p u w i r
  unfolding Reaches
  reaches n h l s {j = j} z y q c g =
      let d = key_op i.word e n h l in
      let b = z j y in
      (rw (d, ← b.eight) (ok_change (does (decode_by n i.word) j) (sym q ∙ g)), λ a. rw d (touches_by n i.word a l true (sym s)), b.here)

pub reaches_none : (p : List ℕ) (u : ℕ) (w : Window) (i : Ins) → Reaches p u w i None
unfolding Reaches
reaches_none p u w i e h = no_change h
