-- Two states that are the same in every field are one.
use Rattle.std.proofs.Common.{◌≡◌, refl, sym, ap, ◌∙◌, Bool, true, false, not, List, ℕ, arith, length, eq-eqb, eqb-true, ◌&&◌, eqb}
use Rattle.std.proofs.Math.Bool.{beq}
use Rattle.std.specs.Str.{bytes_eq}
use Rattle.std.proofs.lemmas.Slice.Eq.{bytes_eq-Decides}
use Rattle.pages.specs.Bytes.{cell}
use Rattle.interpreter.specs.declared.state.Cpu.{Cpu}
use Rattle.interpreter.specs.declared.state.State.{State}
use Rattle.interpreter.specs.Machine.{reg, cpu_of, state_of}
use Rattle.interpreter.proofs.Laws.Tests.{no_true, both, on}
use Rattle.interpreter.proofs.Laws.Inputs.{same_self, same_list}
use Rattle.interpreter.proofs.Laws.Layout.{state_parts}
use Rattle.checker.specs.declared.verdict.Fault.{Fault}
use Rattle.checker.specs.Verdicts.{Accepted, Refused}
use Rattle.checker.specs.Check.{same_numbers, same_state}

-- ---- tests

beq_out : (a b : Bool) → beq a b ≡ true → a ≡ b
beq_out true true e = refl
beq_out true false e = no_true (sym e)
beq_out false true e = no_true (sym e)
beq_out false false e = refl

beq_in : (a : Bool) → beq a a ≡ true
beq_in true = refl
beq_in false = refl

-- the two verdicts differ
pub refused_not : {A : Type 0} {f : Fault} → Refused f ≡ Accepted → A
refused_not e = let z : ◌≡◌ {A = ℕ} 0 1 = cc in absurd (omega arith)

-- ---- states

numbers_are : {pc pc' next next' hi hi' lo lo' heap heap' step step' offset offset' hint hint' : ℕ} {exited exited' : Bool} {code code' rules rules' : ℕ}
    → pc ≡ pc' → next ≡ next' → hi ≡ hi' → lo ≡ lo' → heap ≡ heap' → step ≡ step' → offset ≡ offset' → hint ≡ hint' → exited ≡ exited' → code ≡ code' → rules ≡ rules'
    → ◌≡◌ {A = Cpu} (record { pc = pc; next = next; hi = hi; lo = lo; heap = heap; step = step; offset = offset; hint = hint; exited = exited; code = code; rules = rules })
    (record { pc = pc'; next = next'; hi = hi'; lo = lo'; heap = heap'; step = step'; offset = offset'; hint = hint'; exited = exited'; code = code'; rules = rules' })
numbers_are a b c d e f g h i j k = rw (a, b, c, d, e, f, g, h, i, j, k)

numbers_is : (c d : Cpu) → same_numbers c d ≡ true → c ≡ d
unfolding same_numbers
numbers_is c d e =
    let k = both e in
    let j = both k.0 in
    let i = both j.0 in
    let h = both i.0 in
    let g = both h.0 in
    let f = both g.0 in
    let y = both f.0 in
    let x = both y.0 in
    let w = both x.0 in
    let v = both w.0 in
    numbers_are (eqb-true _ _ v.0) (eqb-true _ _ v.1) (eqb-true _ _ w.1) (eqb-true _ _ x.1) (eqb-true _ _ y.1) (eqb-true _ _ f.1) (eqb-true _ _ g.1) (eqb-true _ _ h.1) (beq_out _ _ i.1) (eqb-true _ _ j.1) (eqb-true _ _ k.1)

is_numbers : (c : Cpu) → same_numbers c c ≡ true
unfolding same_numbers
is_numbers c = rw (eq-eqb c.pc _ refl, eq-eqb c.next _ refl, eq-eqb c.hi _ refl, eq-eqb c.lo _ refl, eq-eqb c.heap _ refl, eq-eqb c.step _ refl, eq-eqb c.offset _ refl, eq-eqb c.hint _ refl, beq_in c.exited, eq-eqb c.code _ refl, eq-eqb c.rules _ refl)

pub state_is : (s t : State) → length s.regs ≡ 32 → length t.regs ≡ 32 → length s.key ≡ 32 → length t.key ≡ 32 → same_state s t ≡ true → s ≡ t
unfolding same_state state_of cpu_of
state_is s t a b c d e =
    let n = both e in
    let k = both n.0 in
    sym (state_parts s)
    ∙ ap (λ (r : List ℕ). state_of (cpu_of s) r s.key) (same_list 32 s.regs t.regs a b k.0)
    ∙ ap (λ (y : List ℕ). state_of (cpu_of s) t.regs y) (same_list 32 s.key t.key c d k.1)
    ∙ ap (λ (m : Cpu). state_of m t.regs t.key) (numbers_is (cpu_of s) (cpu_of t) n.1)
    ∙ state_parts t

pub is_state : (s : State) → same_state s s ≡ true
unfolding same_state
is_state s = rw (same_self 32 (reg s.regs), same_self 32 (cell s.key), is_numbers (cpu_of s))

pub not_state : (s t : State) → length s.regs ≡ 32 → length t.regs ≡ 32 → length s.key ≡ 32 → length t.key ≡ 32 → (s ≡ t → ⊥) → same_state s t ≡ false
not_state s t a b c d h = go (same_state s t) refl
  where
    go : (q : Bool) → same_state s t ≡ q → q ≡ false
    go true e = absurd (h (state_is s t a b c d e))
    go false e = refl

-- what the derived test of two states compares
abbrev tested : State → State → Bool
tested s t =
    bytes_eq s.regs t.regs
    && (eqb s.pc t.pc
    && (eqb s.next t.next
    && (eqb s.hi t.hi
    && (eqb s.lo t.lo
    && (eqb s.heap t.heap
    && (eqb s.step t.step
    && (eqb s.offset t.offset
    && (eqb s.hint t.hint
    && (bytes_eq s.key t.key
    && (beq s.exited t.exited
    && (eqb s.code t.code
    && eqb s.rules t.rules)))))))))))

module _ (s t : State) {b : Bool} (e : b ≡ not (tested s t)) where
  pub tested_same : b ≡ false → s ≡ t
  unfolding cpu_of
  tested_same f =
      let a = both (on (tested s t) (sym e ∙ f)) in
      let c = both a.1 in
      let d = both c.1 in
      let g = both d.1 in
      let h = both g.1 in
      let i = both h.1 in
      let j = both i.1 in
      let k = both j.1 in
      let l = both k.1 in
      let m = both l.1 in
      let n = both m.1 in
      let o = both n.1 in
      sym (state_parts s)
      ∙ ap (λ (r : List ℕ). state_of (cpu_of s) r s.key) ((bytes_eq-Decides s.regs t.regs).0 a.0)
      ∙ ap (λ (y : List ℕ). state_of (cpu_of s) t.regs y) ((bytes_eq-Decides s.key t.key).0 m.0)
      ∙ ap (λ (z : Cpu). state_of z t.regs t.key)
      (numbers_are (eqb-true _ _ c.0) (eqb-true _ _ d.0) (eqb-true _ _ g.0) (eqb-true _ _ h.0) (eqb-true _ _ i.0) (eqb-true _ _ j.0) (eqb-true _ _ k.0) (eqb-true _ _ l.0) (beq_out _ _ n.0) (eqb-true _ _ o.0) (eqb-true _ _ o.1))
      ∙ state_parts t

  pub tested_not : b ≡ true → s ≡ t → ⊥
  tested_not f q = no_true (sym f ∙ e ∙ ap (λ (x : State). not (tested x t)) q ∙ ap not itself)
    where
      itself : tested t t ≡ true
      itself =
          rw (
            (bytes_eq-Decides t.regs t.regs).1 refl,
            (bytes_eq-Decides t.key t.key).1 refl,
            eq-eqb t.pc _ refl,
            eq-eqb t.next _ refl,
            eq-eqb t.hi _ refl,
            eq-eqb t.lo _ refl,
            eq-eqb t.heap _ refl,
            eq-eqb t.step _ refl,
            eq-eqb t.offset _ refl,
            eq-eqb t.hint _ refl,
            beq_in t.exited,
            eq-eqb t.code _ refl,
            eq-eqb t.rules _ refl,
          )
