-- How the parts of a recording step meet its definition.
use Rattle.std.specs.Prelude.{Ok, Err}
use Rattle.std.proofs.Common.{◌≡◌, ℕ, ◌*◌, ◌/◌, ◌%◌, Bool, true, false, cond, not, ◌&&◌, List, length, sym, refl, ap, ◌∙◌, arith, eq-eqb, ne_eqb, Option, Some}
use lib.Seq.{sets}
use Rattle.pages.specs.Bytes.{big}
use Rattle.pages.specs.Pages.{byte_at}
use Rattle.interpreter.specs.OpcodeMap.{decode}
use Rattle.interpreter.specs.Kernel.{kernel_def}
use Rattle.interpreter.specs.declared.effect.Ins.{Ins}
use Rattle.interpreter.specs.declared.effect.Change.{Change}
use Rattle.interpreter.specs.Effects.{Effect}
use Rattle.interpreter.specs.declared.effect.Stop.TheVariants.{Refused as RefusedBy, Call as CallBy}
use Rattle.interpreter.specs.declared.effect.Refusal.{Refusal}
use Rattle.interpreter.specs.declared.effect.Refusal.TheVariants.{BadMachine}
use Rattle.interpreter.specs.declared.state.Cpu.{Cpu}
use Rattle.interpreter.specs.declared.state.State.{State}
use Rattle.interpreter.specs.declared.record.Seen.{Seen}
use Rattle.interpreter.specs.declared.record.Seen.TheVariants.{Wide, Narrow}
use Rattle.interpreter.specs.declared.linux.Call.{Call}
use Rattle.interpreter.specs.declared.linux.Call.TheVariants.{Answer as Reply, Heap, Exit, Key, Input, Write, Hint}
use Rattle.interpreter.specs.Machine.{Machine, reg, cpu_of, state_of, bad}
use Rattle.interpreter.specs.Plan.{eight_at, call_in, ins_of, touch_of}
use Rattle.interpreter.specs.Step.{Left, refused, advance, step_def, machine_of}
use Rattle.interpreter.specs.Layout.{encode}
use Rattle.interpreter.specs.Records.{rest_of, record_of}
use Rattle.interpreter.specs.Recording.{calls, call_wide, call_touch, wide, touched, memory_of, state_in, word_in, record_from, recorded, Recorded, recording, recorded_def}
use Rattle.interpreter.specs.Parts.{seen_call, seen, recording_as}
use Rattle.interpreter.proofs.Laws.Dests.{calls_call, calls_done, calls_refused, touched_at, touch_even}
use Rattle.interpreter.proofs.Laws.Plans.{step_unaligned}
use Rattle.interpreter.proofs.Laws.Layout.{state_parts}
use Rattle.interpreter.proofs.Laws.Records.{record_whole}

-- ---- what is seen of a step

pub see_by : (c : Cpu) (r : List ℕ) (a : ℕ) {g f : Call} {s : Seen} → g ≡ call_in c r → g ≡ f → s ≡ seen_call a f → s ≡ seen_call a (call_in c r)
see_by c r a y z q = q ∙ rw (← y, z)

pub see_key : (c : Cpu) (r : List ℕ) (a : ℕ) {b : ℕ} {g : Call} {s : Seen} → g ≡ call_in c r → g ≡ Key → b ≡ a / 8 * 8
    → s ≡ Narrow (Some b) → s ≡ seen_call a (call_in c r)
see_key c r a y z e q = see_by c r a y z (q ∙ rw e)

module _ (c : Cpu) (r : List ℕ) (w : ℕ) {i : Ins} {e : Effect} (h : c.pc % 4 ≡ 0) (y : i ≡ ins_of c r w 0) (g : e ≡ kernel_def i) where
  word_as : i.word ≡ w
  unfolding ins_of
  word_as = rw y

  pc_as : i.pc % 4 ≡ 0
  unfolding ins_of
  pc_as = rw y h

  look_by : {s : Seen} {b : Bool} → calls (decode i.word) ≡ b → s ≡ cond (b && call_wide (call_in c r)) Wide (Narrow (cond b (call_touch (reg r 5) (call_in c r)) (touch_of r w))) → s ≡ seen c r w
  unfolding wide touched
  look_by {s} {b} z q = let k : calls (decode w) ≡ b = sym (ap (λ n. calls (decode n)) word_as) ∙ z in q ∙ rw k

  pub look_call : {s : Seen} → e ≡ Err CallBy → s ≡ seen_call (reg r 5) (call_in c r) → s ≡ seen c r w
  look_call z q = look_by (calls_call i pc_as g z) q

  pub look_refused : {s : Seen} {n : Refusal} {t : Option ℕ} → e ≡ Err (RefusedBy n) → t ≡ touch_of r w → s ≡ Narrow t → s ≡ seen c r w
  look_refused z k q = look_by (calls_refused i pc_as g z) (q ∙ rw k)

  pub look_done : {s : Seen} {a : Change} {t : Option ℕ} → e ≡ Ok a → t ≡ touch_of r w → s ≡ Narrow t → s ≡ seen c r w
  look_done z k q = look_by (calls_done i pc_as g z) (q ∙ rw k)

-- the touched address is a doubleword's
call_even : (a : ℕ) (g : Call) → touched_at (call_touch a g) % 8 ≡ 0
call_even a (Reply v e) = refl
call_even a (Heap h) = refl
call_even a (Exit n) = refl
call_even a Key = omega arith
call_even a Input = refl
call_even a (Write s) = refl
call_even a Hint = refl

even_by : (b : Bool) (a x : ℕ) (g : Call) (t : Option ℕ) → ((a : ℕ) → t ≡ Some a → a % 8 ≡ 0) → cond b (call_touch x g) t ≡ Some a → a % 8 ≡ 0
even_by true a x g t h e = let q : a ≡ touched_at (call_touch x g) = ap touched_at (sym e) in rw q (call_even x g)
even_by false a x g t h e = h a e

-- what is seen says which it is
seen_wide : (b : Bool) (u : Option ℕ) {s : Seen} → s ≡ cond b Wide (Narrow u) → s ≡ Wide → b ≡ true
seen_wide true u y z = refl
seen_wide false u y z = cc

seen_narrow : (b : Bool) (u : Option ℕ) {s : Seen} {t : Option ℕ} → s ≡ cond b Wide (Narrow u) → s ≡ Narrow t → (b ≡ false) × (t ≡ u)
seen_narrow true u y z = ((cc), (cc))
seen_narrow false u y z = (refl, (cc))

pub touched_even : (c : Cpu) (r : List ℕ) (w : ℕ) {s : Seen} {t : Option ℕ} → s ≡ seen c r w → s ≡ Narrow t → (a : ℕ) → t ≡ Some a → a % 8 ≡ 0
unfolding touched touch_of
touched_even c r w y z a e =
    even_by (calls (decode w)) a (reg r 5) (call_in c r) (touch_of r w) (λ b k. touch_even _ _ b k) (sym (seen_narrow (wide c r w) (touched c r w) y z).1 ∙ e)

-- ---- the record

pub record_filled : (b : List ℕ) (s n : State) (w : ℕ) (t : Option ℕ) (x y : ℕ) {c e : Cpu} {d1 d2 d3 : List ℕ} → length b ≡ 752 → c ≡ cpu_of s → d1 ≡ sets b 0 (encode (state_of c s.regs s.key))
    → e ≡ cpu_of n → d2 ≡ sets d1 360 (encode (state_of e n.regs n.key)) → d3 ≡ sets d2 720 (rest_of w t x y) → d3 ≡ record_of s n w t x y
record_filled b s n w t x y l y1 z1 y2 z2 z3 = z3 ∙ rw (z2, z1, y1, y2, state_parts s, state_parts n) (record_whole b s n w t x y l)

module _ (s : State) (u : ℕ) (p h o b : List ℕ) (w : ℕ) (t : Option ℕ) {k l : Left} (y : k ≡ l) where
  pub seen_counts : {v z : ℕ} {e : List ℕ} → k.counts ≡ true → v ≡ eight_at (byte_at p u) t → z ≡ eight_at (memory_of k.machine) t
      → e ≡ record_of s (state_in k.machine) w t v z → recorded k e ≡ recording_as (machine_of s u p h o) b w t l
  unfolding recording_as cpu_of state_of
  seen_counts g x1 x2 x3 = rw (← y, g, x3, x2, x1)

  pub seen_not : k.counts ≡ false → recorded k b ≡ recording_as (machine_of s u p h o) b w t l
  unfolding recording_as
  seen_not g = rw (← y, g)

-- ---- the whole

-- from a misaligned pc no step counts
uncounted_exited : (x d : List ℕ) (m : Machine) → m.cpu.exited ≡ true → (advance x d m).counts ≡ false
unfolding advance
uncounted_exited x d m e = rw e

uncounted_by : (x d : List ℕ) (m : Machine) → (m.cpu.pc % 4 ≡ 0 → ⊥) → (t v : Bool) → m.cpu.exited ≡ v → (cond t (refused m BadMachine) (advance x d m)).counts ≡ false
uncounted_by x d m h true v e = refl
uncounted_by x d m h false true e = uncounted_exited x d m e
uncounted_by x d m h false false e = sym (ap (λ (l : Left). l.counts) (step_unaligned m.cpu m.regs m.key m.used m.pages m.hint m.output x d e h))

uncounted : (x d : List ℕ) (m : Machine) → (m.cpu.pc % 4 ≡ 0 → ⊥) → (step_def x d m).counts ≡ false
unfolding step_def
uncounted x d m h = uncounted_by x d m h (bad m) m.cpu.exited refl

no_record : (a c : Bool) (x y : List ℕ) → c ≡ false → cond (a && c) x y ≡ y
no_record true c x y e = rw e
no_record false c x y e = refl

module _ (x d : List ℕ) (s : State) (u : ℕ) (p h o b : List ℕ) where
  abbrev m0 : Machine
  m0 = machine_of s u p h o

  pub record_short : {l : Left} → (length b ≡ 752 → ⊥) → l ≡ refused m0 BadMachine → recorded l b ≡ recorded_def x d m0 b
  unfolding recorded_def
  record_short k q = rw (ne_eqb _ _ k, q)

  module _ (k : length b ≡ 752) {c : Cpu} (y : c ≡ cpu_of s) where
    pub record_misaligned : {l : Left} → (c.pc % 4 ≡ 0 → ⊥) → l ≡ step_def x d m0 → recorded l b ≡ recorded_def x d m0 b
    unfolding recorded_def recording
    record_misaligned n q =
        let f : (cpu_of s).pc % 4 ≡ 0 → ⊥ = λ e. n (rw y e) in
        rw (eq-eqb _ _ k, q) (ap (recorded (step_def x d m0)) (sym (no_record (not (wide (cpu_of s) s.regs (word_in m0))) (step_def x d m0).counts _ b (uncounted x d m0 f))))

    module _ {w : ℕ} {n : Seen} (z : w ≡ big 4 (byte_at p u) c.pc) (v : n ≡ seen c s.regs w) where
      word_is : w ≡ word_in m0
      word_is = z ∙ rw y

      seen_is : n ≡ seen (cpu_of s) s.regs (word_in m0)
      seen_is = v ∙ rw (y, word_is)

      pub record_wide : {l : Left} → n ≡ Wide → l ≡ step_def x d m0 → recorded l b ≡ recorded_def x d m0 b
      unfolding recorded_def recording
      record_wide e q = rw (eq-eqb _ _ k, q, seen_wide (wide (cpu_of s) s.regs (word_in m0)) (touched (cpu_of s) s.regs (word_in m0)) seen_is e)

      pub record_done : {t : Option ℕ} {l : Recorded} → n ≡ Narrow t → l ≡ recording_as m0 b w t (step_def x d m0) → l ≡ recorded_def x d m0 b
      unfolding recorded_def recording recording_as record_from
      record_done e q =
          let i = seen_narrow (wide (cpu_of s) s.regs (word_in m0)) (touched (cpu_of s) s.regs (word_in m0)) seen_is e in
          q ∙ rw (eq-eqb _ _ k, word_is, i.0, i.1)
