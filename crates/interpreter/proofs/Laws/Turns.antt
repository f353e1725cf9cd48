-- Many steps in a row: from the parts of a quick step to the definition's, and how the steps add up.
use Rattle.std.proofs.Common.{◌≡◌, ℕ, zero, suc, ◌+◌, ◌*◌, ◌/◌, ◌%◌, ◌^◌, ◌<◌, true, false, List, sym, refl, ap, ◌∙◌, add-one, arith, eq-eqb, Ok, Option, Some, None}
use Rattle.std.specs.Prelude.{Option, Some, Ok}
use Rattle.pages.specs.Bytes.{big}
use Rattle.pages.specs.Pages.{byte_at}
use Rattle.pages.specs.Calls.{stored}
use Rattle.interpreter.specs.declared.effect.Ins.{Ins}
use Rattle.interpreter.specs.declared.effect.Change.{Change}
use Rattle.interpreter.specs.Effects.{Effect, seeing}
use Rattle.interpreter.specs.declared.state.Cpu.{Cpu}
use Rattle.interpreter.specs.declared.quick.Core.{Core}
use Rattle.interpreter.specs.declared.quick.Turn.{Turn}
use Rattle.interpreter.specs.declared.quick.Went.{Went}
use Rattle.interpreter.specs.declared.window.Window.{Window}
use Rattle.interpreter.specs.declared.window.Pair.{Pair}
use Rattle.interpreter.specs.Words.{plus}
use Rattle.interpreter.specs.OpcodeMap.{decode_by, decode}
use Rattle.interpreter.specs.Isa.{opcode_of, rs_of}
use Rattle.interpreter.specs.Loads.{address_of}
use Rattle.interpreter.specs.Kernel.{does, kernel_def, touching, touch_def}
use Rattle.interpreter.specs.declared.step.Answer.TheVariants.{Stepped}
use Rattle.interpreter.specs.Machine.{machine, reg, counted, changed, bad}
use Rattle.interpreter.specs.Step.{left, putting, advance}
use Rattle.interpreter.specs.Plan.{eight_at, storing, ins_of, touch_of}
use Rattle.interpreter.specs.Parts.{Agrees, Shows, Both, key_of, Quiet, Reaches, eight_of, covered, core_of, core_after, later, cpu_with, Completed, Makes, Gone}
use Rattle.interpreter.proofs.Laws.Frequent.{agrees_as}
use Rattle.interpreter.proofs.Laws.Plans.{change_stored, exec_done, step_done}
use Rattle.interpreter.proofs.Laws.Runs.{turn_good, run_holds, run_turn}

-- at an aligned pc a quick change is the kernel's
aligned_kernel : (i : Ins) {f : Option Change} {e : Change} → i.pc % 4 ≡ 0 → Agrees f (does (decode i.word) i) → f ≡ Some e → kernel_def i ≡ Ok e
unfolding kernel_def Agrees
aligned_kernel i {f} {e} h a g = rw (eq-eqb _ _ h) (a e g)

-- a quick answer by the opcode of the word that the instruction was made of
pub slow_agrees : (c : Cpu) (r : List ℕ) (w y : ℕ) (f : Option Change) {o : ℕ} {i : Ins} → i ≡ ins_of c r w y → o ≡ opcode_of w → Agrees f (does (decode_by o i.word) i) → Agrees f (does (decode i.word) i)
unfolding ins_of
slow_agrees c r w y f {i = i} z e a = let q : opcode_of i.word ≡ opcode_of w = ap (λ (n : Ins). opcode_of n.word) z in agrees_as f a (ap (λ (n : ℕ). does (decode_by n i.word) i) (e ∙ sym q))

ins_pc : (c : Cpu) (k : Core) (r : List ℕ) (w y : ℕ) → k.pc % 4 ≡ 0 → (ins_of (cpu_with c k 0) r w y).pc % 4 ≡ 0
unfolding ins_of cpu_with
ins_pc c k r w y h = h

module _ (c : Cpu) (k : Core) (r : List ℕ) (w y : ℕ) {b : Cpu} {i : Ins} (z1 : b ≡ cpu_with c k 0) (z2 : i ≡ ins_of b r w y) where
  ins_is : i ≡ ins_of (cpu_with c k 0) r w y
  ins_is = z2 ∙ ap (λ n. ins_of n r w y) z1

  pub kernel_is : {f : Effect} {e : Change} → f ≡ kernel_def i → f ≡ Ok e → kernel_def (ins_of (cpu_with c k 0) r w y) ≡ Ok e
  kernel_is q g = rw (← ins_is) (sym q ∙ g)

  pub quick_kernel : {f : Option Change} {e : Change} → k.pc % 4 ≡ 0 → Agrees f (does (decode i.word) i) → f ≡ Some e → kernel_def (ins_of (cpu_with c k 0) r w y) ≡ Ok e
  quick_kernel h a g = rw (← ins_is) (aligned_kernel i (rw ins_is (ins_pc c k r w y h)) a g)

  -- the same of an instruction that touches no memory, and of one whose eight bytes are in the page
  pub quiet_kernel : {f : Option Change} {e : Change} → k.pc % 4 ≡ 0 → Quiet f i → f ≡ Some e → kernel_def (ins_of (cpu_with c k 0) r w y) ≡ Ok e
  unfolding Quiet Agrees
  quiet_kernel h a g = quick_kernel h (λ e q. (a e q).0) g

  pub quiet_touch : {f : Option Change} {e : Change} → Quiet f i → f ≡ Some e → None ≡ touch_of r w
  unfolding Quiet touch_of touch_def ins_of
  quiet_touch {e = e} a g = sym (ap (λ n. touching (decode n.word) (address_of w (reg r (rs_of w)) / 8 * 8)) (sym ins_is) ∙ (a e g).1 _)

  seeing_is : (x : ℕ) → seeing i x ≡ ins_of (cpu_with c k 0) r w x
  unfolding seeing ins_of
  seeing_is x = ap (λ n. seeing n x) ins_is

  pub reach_kernel : (p : List ℕ) (u : ℕ) (v : Window) {f : Option Change} {e : Change} → k.pc % 4 ≡ 0 → Reaches p u v i f → f ≡ Some e
      → kernel_def (ins_of (cpu_with c k 0) r w (big 8 (byte_at p u) (eight_of i))) ≡ Ok e
  unfolding Reaches Agrees seeing
  reach_kernel p u v h a g =
      let x = big 8 (byte_at p u) (eight_of i) in
      rw (← seeing_is x) (aligned_kernel (seeing i x) (rw ins_is (ins_pc c k r w y h)) (λ e q. (a e q).0) g)

  module _ (p : List ℕ) (u : ℕ) (v : Window) {f : Option Change} {e : Change} (a : Reaches p u v i f) (g : f ≡ Some e) {o : ℕ} (z : o ≡ address_of i.word i.rs) where
    pub reach_touch : Some (o / 8 * 8) ≡ touch_of r w
    unfolding Reaches touch_of touch_def ins_of
    reach_touch = ap (λ (x : ℕ). Some (x / 8 * 8)) z ∙ sym ((a e g).1 (eight_of i)) ∙ ap (λ n. touching (decode n.word) (eight_of n)) ins_is

    pub reach_covered : covered v (Some (o / 8 * 8)) ≡ true
    unfolding Reaches
    reach_covered = eq-eqb _ _ (ap (λ (x : ℕ). x / 8 * 8 / 4096) z ∙ (a e g).2)

    pub reach_eight : big 8 (byte_at p u) (eight_of i) ≡ eight_at (byte_at p u) (Some (o / 8 * 8))
    reach_eight = ap (λ (x : ℕ). big 8 (byte_at p u) (x / 8 * 8)) (sym z)

  pub ins_key : {n : ℕ} → n ≡ key_of w → n ≡ key_of i.word
  unfolding ins_of
  ins_key h = h ∙ ap (λ (x : Ins). key_of x.word) (sym ins_is)

module _ (c : Cpu) (k : Core) (w u : ℕ) (r p : List ℕ) {t : Option ℕ} {y : ℕ} {e : Change} {b : Pair} where
  pub turned : t ≡ touch_of r w → y ≡ eight_at (byte_at p u) t → kernel_def (ins_of (cpu_with c k 0) r w y) ≡ Ok e → Both p u b
      → {q : Turn} {r' p' : List ℕ} → Completed r p u b t e q r' p' → Makes c k w u r p q r' p'
  unfolding ins_of counted changed cpu_with core_after later
  turned z1 z2 z3 s {q} g =
      record {
        shows = rw g.window (g.kept b.near s.0, g.kept b.far s.1);
        kept = g.kept;
        step = λ n a h o x d. exec_done (counted (cpu_with c k n)) r a u p h o x d w z1 z2 refl refl z3
            (change_stored (counted (cpu_with c k n)) r a u p h o x d t e g.pages g.regs (rw (g.core, add-one)));
      }

-- the same with what was stored
pub completed : {r p : List ℕ} {u : ℕ} {b : Pair} {t : Option ℕ} {e : Change} {q : Turn} {r' p' : List ℕ} → ((s : List ℕ) (n : ℕ) → Completed r s n b None e q r' s) → stored (Ok u) p' ≡ putting p u (storing t e)
    → ((v : Window) → Shows p u v → Shows p' u v) → Completed r p u b t e q r' p'
completed {p = p} {u = u} f g h = let z = f p u in record { core = z.core; window = z.window; regs = z.regs; pages = g; kept = h }

-- ---- what a turn leaves, by whether it was made

makes_advance : {c : Cpu} {k : Core} {w u : ℕ} {r p : List ℕ} {q : Turn} {r' p' : List ℕ} → c.exited ≡ false → w ≡ big 4 (byte_at p u) k.pc → Makes c k w u r p q r' p'
    → (n : ℕ) (y h o x d : List ℕ) → left Stepped (machine (cpu_with c q.core (n + 1)) r' y u p' h o) true ≡ advance x d (machine (cpu_with c k n) r y u p h o)
unfolding cpu_with
makes_advance {c} {k} {w} {u} {r} {p} e z g n y i o x d = step_done (cpu_with c k n) r y u p i o x d e refl z (g.step n y i o x d)

-- ---- the steps add up

pub core_pc : (c : Cpu) {k : Core} → k ≡ core_of c → k.pc ≡ c.pc
unfolding core_of
core_pc c e = ap (λ (x : Core). x.pc) e

module _ (c : Cpu) (u : ℕ) (r p : List ℕ) (budget : ℕ) (y h o x d : List ℕ) where
  pub gone_none : bad (machine c r y u p h o) ≡ false → Gone c u r p budget (record { cpu = c; count = 0 }) r p y h o x d
  gone_none b = record { within = omega arith; fine = b; rest = run_holds x d budget (machine c r y u p h o) }

  -- nothing has changed yet
  pub gone_core : {k : Core} → k ≡ core_of c → bad (machine c r y u p h o) ≡ false → Gone c u r p budget (record { cpu = cpu_with c k 0; count = 0 }) r p y h o x d
  unfolding core_of cpu_with later
  gone_core e b = rw e (gone_none b)

  pub gone_here : (k : Core) (n : ℕ) {e : Went} {r' p' : List ℕ} → e ≡ record { cpu = cpu_with c k n; count = n }
      → Gone c u r p budget (record { cpu = cpu_with c k n; count = n }) r' p' y h o x d → Gone c u r p budget e r' p' y h o x d
  gone_here k n i g = rw i g

  pub gone_stays : (k : Core) (n : ℕ) {e : Went} {r1 p1 r2 p2 : List ℕ} → (r2 ≡ r1) × (p2 ≡ p1) → e ≡ record { cpu = cpu_with c k n; count = n }
      → Gone c u r p budget (record { cpu = cpu_with c k n; count = n }) r1 p1 y h o x d → Gone c u r p budget e r2 p2 y h o x d
  gone_stays k n s i g = rw (i, s.0, s.1) g

  pub gone_turn : (k : Core) (n : ℕ) {w : ℕ} {q : Turn} {r1 p1 r2 p2 : List ℕ} → c.exited ≡ false → n < budget → w ≡ big 4 (byte_at p1 u) k.pc
      → Makes c k w u r1 p1 q r2 p2 → Gone c u r p budget (record { cpu = cpu_with c k n; count = n }) r1 p1 y h o x d
      → Gone c u r p budget (record { cpu = cpu_with c q.core (n + 1); count = n + 1 }) r2 p2 y h o x d
  gone_turn k n {r1 = r1} {p1 = p1} e l z t g =
      let a = makes_advance e z t n y h o x d in
      record { within = omega arith; fine = turn_good x d (machine (cpu_with c k n) r1 y u p1 h o) _ g.fine a; rest = run_turn x d _ budget n (machine (cpu_with c k n) r1 y u p1 h o) g.rest _ g.fine l a refl refl }

-- ---- the step counter

later_sum : (s n : ℕ) → later s (suc n) ≡ plus s (n + 1)
unfolding later
later_sum s zero = refl
later_sum s (suc n) = ap (λ (m : ℕ). (m + 1) % 2 ^ 64) (later_sum s n) ∙ omega arith

later_is : (s n : ℕ) → (n ≡ 0 → ⊥) → plus s n ≡ later s n
later_is s zero h = absurd (h refl)
later_is s (suc n) h = sym (later_sum s n ∙ ap (plus s) (add-one n))

abbrev went : Cpu → ℕ → Went
went b n = record { cpu = b; count = n }

module _ (c : Cpu) (k : Core) {b : Cpu} {n : ℕ} (e : b ≡ cpu_with c k 0) where
  pub after_none : n ≡ 0 → went b n ≡ went (cpu_with c k n) n
  after_none g = rw (g, e)

  pub after_some : {m : ℕ} → (n ≡ 0 → ⊥) → m ≡ plus c.step n
      → went (record { pc = b.pc; next = b.next; hi = b.hi; lo = b.lo; heap = b.heap; step = m; offset = b.offset; hint = b.hint; exited = b.exited; code = b.code; rules = b.rules }) n ≡ went (cpu_with c k n) n
  unfolding cpu_with
  after_some h g = rw (e, g, later_is c.step n h)
