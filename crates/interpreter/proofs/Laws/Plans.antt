-- How the parts of a step meet its definition.
use Rattle.std.proofs.Common.{◌≡◌, ℕ, ◌+◌, ◌-◌, ◌*◌, ◌/◌, ◌%◌, ◌<◌, ◌≤◌, Bool, true, false, cond, ltb, leb, List, length, sym, refl, ap, ◌∙◌, arith, ltb-false, le-ltb, lt-ltb, ne_eqb, le-leb, Result, Ok, Err, Option, Some, None}
use Rattle.std.specs.Prelude.{Ok, Err}
use lib.Seq.{sets}
use borrow.Author.Tests.{lt-leb}
use Rattle.pages.specs.Bytes.{big, row, cell, bytes_of}
use Rattle.pages.specs.Pages.{byte_at}
use Rattle.pages.specs.Memory.{span}
use Rattle.pages.specs.Calls.{stored, set_def, put_def}
use Rattle.pages.proofs.Laws.Runs.{length_row}
use Rattle.pages.proofs.Laws.Loads.{length_span}
use Rattle.pages.proofs.Laws.Places.{put_fits}
use Rattle.pages.specs.declared.memory.StoreError.{StoreError}
use Rattle.interpreter.specs.Words.{plus}
use Rattle.interpreter.specs.declared.effect.Change.{Change}
use Rattle.interpreter.specs.declared.effect.Refusal.{Refusal}
use Rattle.interpreter.specs.declared.effect.Refusal.TheVariants.{PcMisaligned, NoRoom, NoInput, InputOffset}
use Rattle.interpreter.specs.declared.effect.Ins.{Ins}
use Rattle.interpreter.specs.Effects.{Effect}
use Rattle.interpreter.specs.declared.effect.Stop.TheVariants.{Refused as RefusedBy, Call as CallBy}
use Rattle.interpreter.specs.Kernel.{kernel_def}
use Rattle.interpreter.specs.declared.state.Cpu.{Cpu}
use Rattle.interpreter.specs.declared.step.Answer.TheVariants.{Stepped, Wrote, Hint, Exited, Refused}
use Rattle.interpreter.specs.declared.linux.Call.TheVariants.{Answer as Reply, Heap, Exit, Key, Input, Write, Hint as HintWrite}
use Rattle.interpreter.specs.Machine.{Machine, machine, reg, set_reg, answering, counted, changed, onward, leaving, room_of}
use Rattle.interpreter.specs.Inputs.{entry_of, inside, part_def, moving, moved, merged, shifting, shifted}
use Rattle.interpreter.specs.declared.input.Entry.{Entry}
use Rattle.interpreter.specs.declared.linux.Call.{Call}
use Rattle.interpreter.specs.Hints.{heard}
use Rattle.interpreter.specs.Parts.{Listened, listened, listened_to, joined, listening}
use Rattle.interpreter.specs.Plan.{View, Deed, storing, does, changing, staying, replying, exiting, keying, wrote, writing, hinted, hearing, hinting, read, read_from, reading_in, reading, refuse, calling, call_in, eight_at, ins_of, touch_of, planned, executing, plan}
use Rattle.interpreter.specs.Lent.{with_regs, Kept, kept, put_as, put_by}
use Rattle.interpreter.specs.Step.{Left, left, with_cpu, landed, putting, lay, settled, view_of, working, advance}
use Rattle.interpreter.proofs.Laws.Tests.{no_true}
use Rattle.interpreter.proofs.Laws.Hints.{length_joined}

abbrev is_made : Result (Unit {0}) Refusal → Bool
is_made (Ok z) = true
is_made (Err e) = false

abbrev worked_by : Result (Unit {0}) Refusal → Machine → Left
worked_by (Ok z) m = left Stepped m true
worked_by (Err e) m = left (Refused e) m false

module _ (c : Cpu) (r k : List ℕ) (u : ℕ) (p h o x d : List ℕ) where
  abbrev m0 : Machine
  m0 = machine c r k u p h o

  -- all but the pages is as it was
  put_rest : (q : List ℕ) (a : Result ℕ StoreError) {f : Result (Unit {0}) Refusal} {n : Machine} → kept f n ≡ put_as m0 q a → n ≡ machine c r k n.used n.pages h o
  put_rest q (Ok w) e = let g = ap (λ (z : Kept). z.machine) e in g ∙ sym (ap (λ (z : Machine). machine c r k z.used z.pages h o) g)
  put_rest q (Err z) e = let g = ap (λ (z : Kept). z.machine) e in g ∙ sym (ap (λ (z : Machine). machine c r k z.used z.pages h o) g)

  landed_ok : (d : Deed) (q : List ℕ) (a : Result ℕ StoreError) {n : Machine} → kept (Ok tt) n ≡ put_as m0 q a → settled m0 d n.used n.pages ≡ landed m0 d q a
  landed_ok d q (Ok w) e = ap (λ (z : Kept). settled m0 d z.machine.used z.machine.pages) e
  landed_ok d q (Err z) e = no_true (ap (λ (z : Kept). is_made z.made) e)

  landed_err : (d : Deed) (q : List ℕ) (a : Result ℕ StoreError) {f : Refusal} {n : Machine} → kept (Err f) n ≡ put_as m0 q a → left (Refused f) n false ≡ landed m0 d q a
  landed_err d q (Ok w) e = no_true (sym (ap (λ (z : Kept). is_made z.made) e))
  landed_err d q (Err z) e = ap (λ (z : Kept). worked_by z.made z.machine) e

  -- a deed whose store was not made
  pub deed_full : (f : View → Deed) {g : Refusal} {n : Machine} → kept (Err g) n ≡ put_by m0 (putting p u (f (view_of x d m0)).store)
      → left (Refused g) n false ≡ working x d m0 (λ v. does (f v))
  unfolding working lay
  deed_full f e = landed_err (f (view_of x d m0)) _ _ e

  -- a deed whose store was made, if it had one
  pub deed_done : (f : View → Deed) {n : Machine} → kept (Ok tt) n ≡ put_by m0 (putting p u (f (view_of x d m0)).store)
      → settled m0 (f (view_of x d m0)) n.used n.pages ≡ working x d m0 (λ v. does (f v))
  unfolding working lay
  deed_done f e = landed_ok (f (view_of x d m0)) _ _ e

  pub change_done : (t : Option ℕ) (e : Change) {n q : Machine} {b : Cpu} → kept (Ok tt) n ≡ put_by m0 (putting p u (storing t e)) → q ≡ with_regs n (set_reg n.regs e.dest e.value)
      → b ≡ changed q.cpu e → left Stepped (with_cpu q b) true ≡ working x d m0 (λ v. does (changing v t e))
  unfolding settled changing view_of
  change_done t e {n} {q} {b} i z y = rw (y, z, put_rest _ _ i) (deed_done (λ v. changing v t e) i)

  -- the same by what was stored
  pub change_stored : (t : Option ℕ) (e : Change) {q l : List ℕ} {w : ℕ} {b : Cpu} → stored (Ok w) q ≡ putting p u (storing t e) → l ≡ set_reg r e.dest e.value → b ≡ changed c e
      → left Stepped (machine b l k w q h o) true ≡ working x d m0 (λ v. does (changing v t e))
  unfolding settled changing view_of working lay
  change_stored t e i y b = rw (y, b, ← i)

  pub change_full : (t : Option ℕ) (e : Change) {g : Refusal} {n : Machine} → kept (Err g) n ≡ put_by m0 (putting p u (storing t e))
      → left (Refused g) n false ≡ working x d m0 (λ v. does (changing v t e))
  unfolding changing view_of
  change_full t e = deed_full (λ v. changing v t e)

  -- ---- the calls

  pub reply_done : (a e : ℕ) {q : Machine} {b : Cpu} → q ≡ with_regs m0 (answering r a e) → b ≡ staying c
      → left Stepped (with_cpu q b) true ≡ working x d m0 (λ v. calling v (Reply a e))
  unfolding working calling lay replying view_of settled
  reply_done a e y z = rw (z, y)

  pub heap_done : (a : ℕ) {q : Machine} {b : Cpu} → q ≡ with_regs m0 (answering r c.heap 0) → b ≡ onward c a c.offset c.hint
      → left Stepped (with_cpu q b) true ≡ working x d m0 (λ v. calling v (Heap a))
  unfolding working calling lay replying view_of settled
  heap_done a y z = rw (z, y)

  pub exit_done : (a : ℕ) {b : Cpu} → b ≡ leaving c a → left (Exited a) (with_cpu m0 b) true ≡ working x d m0 (λ v. calling v (Exit a))
  unfolding working calling lay exiting view_of settled
  exit_done a z = rw z

  pub key_shifted : (y : ℕ) {q : Machine} {b : Cpu} {j : List ℕ} {g : ℕ} → g ≡ shifting (reg r 5) (reg r 6)
      → j ≡ shifted k (row (cell (bytes_of 8 y)) (reg r 5 % 8) g) → q ≡ machine c (answering r g 0) j u p h o → b ≡ onward c c.heap 0 c.hint
      → left Stepped (with_cpu q b) true ≡ working x d m0 (λ v. does (keying v y))
  unfolding working lay keying view_of settled
  key_shifted y z1 z2 z3 z4 = rw (z4, z3, z2, z1)

  pub key_done : {f : Left} {y a : ℕ} → a ≡ reg r 5 / 8 * 8 → y ≡ big 8 (byte_at p u) a → f ≡ working x d m0 (λ v. does (keying v y)) → f ≡ working x d m0 (λ v. calling v Key)
  unfolding working calling view_of
  key_done z1 z2 q = q ∙ rw (z2, z1)

  pub write_done : (s : ℕ) {q : Machine} {b : Cpu} {g : List ℕ} → reg r 6 ≤ length o → g ≡ put_def o 0 (span (byte_at p u) (reg r 5) (reg r 6))
      → q ≡ machine c (answering r (reg r 6) 0) k u p h g → b ≡ staying c → left (Wrote s (reg r 6)) (with_cpu q b) true ≡ working x d m0 (λ v. calling v (Write s))
  unfolding working calling writing wrote lay view_of settled
  write_done s i y z2 z3 =
      let g = length_span (byte_at p u) (reg r 5) (reg r 6) in
      rw (z3, z2, y, put_fits o 0 (span (byte_at p u) (reg r 5) (reg r 6)) (omega arith), le-leb (reg r 6) (length o) i)

  pub write_refused : (s : ℕ) → length o < reg r 6 → left (Refused NoRoom) m0 false ≡ working x d m0 (λ v. calling v (Write s))
  unfolding working calling writing lay view_of
  write_refused s i = rw (lt-leb _ _ i)

  -- ---- 5000 on 5

  read_store : (t : List ℕ) {f : Result (Unit {0}) Refusal} {n : Machine} {g y z a : ℕ} → g ≡ moving (length t) c.offset (reg r 5) (reg r 6) → a ≡ reg r 5 / 8 * 8
      → y ≡ big 8 (byte_at p u) a → z ≡ merged y (reg r 5 % 8) (moved t c.offset g) → kept f n ≡ put_by m0 (set_def 8 p u a z)
      → kept f n ≡ put_by m0 (putting p u (read_from (view_of x d m0) t).store)
  unfolding read view_of
  read_store t z1 z2 z3 z4 e = e ∙ rw (z4, z3, z2, z1)

  pub read_done : (t : List ℕ) {n q : Machine} {g y z a i : ℕ} {b : Cpu} → g ≡ moving (length t) c.offset (reg r 5) (reg r 6) → a ≡ reg r 5 / 8 * 8
      → y ≡ big 8 (byte_at p u) a → z ≡ merged y (reg r 5 % 8) (moved t c.offset g) → kept (Ok tt) n ≡ put_by m0 (set_def 8 p u a z)
      → q ≡ with_regs n (answering n.regs g 0) → i ≡ plus c.offset g → b ≡ onward c c.heap i c.hint
      → left Stepped (with_cpu q b) true ≡ working x d m0 (λ v. does (read_from v t))
  unfolding settled read view_of
  read_done t z1 z2 z3 z4 e y1 y2 y3 = let s = read_store t z1 z2 z3 z4 e in rw (y3, y2, y1, put_rest _ _ s, z1) (deed_done (λ v. read_from v t) s)

  pub read_full : (t : List ℕ) {f : Refusal} {n : Machine} {g y z a : ℕ} → g ≡ moving (length t) c.offset (reg r 5) (reg r 6) → a ≡ reg r 5 / 8 * 8
      → y ≡ big 8 (byte_at p u) a → z ≡ merged y (reg r 5 % 8) (moved t c.offset g) → kept (Err f) n ≡ put_by m0 (set_def 8 p u a z)
      → left (Refused f) n false ≡ working x d m0 (λ v. does (read_from v t))
  read_full t z1 z2 z3 z4 e = deed_full (λ v. read_from v t) (read_store t z1 z2 z3 z4 e)

  -- ---- 5001 on 4

  -- what a write to the hint descriptor leaves, by what was heard
  abbrev hint_left : Result (Option ℕ) Refusal → List ℕ → List ℕ → Left
  hint_left (Err n) g e = left (Refused n) (machine c r k u p g e) false
  hint_left (Ok None) g e = left Stepped (machine (onward c c.heap c.offset (plus c.hint (reg r 6))) (answering r (reg r 6) 0) k u p g e) true
  hint_left (Ok (Some n)) g e = left (Hint n) (machine (onward c c.heap c.offset 0) (answering r (reg r 6) 0) k u p g e) true

  abbrev hint_as : Listened → Left
  hint_as z = hint_left z.heard z.hint z.output

  abbrev v0 : View
  v0 = view_of x d m0

  abbrev t0 : List ℕ
  t0 = joined (byte_at p u) h c.hint (reg r 5) (reg r 6)

  heard_as : (g : Result (Option ℕ) Refusal) → length t0 ≡ plus c.hint (reg r 6)
      → hint_as (listened_to h (sets h c.hint (span (byte_at p u) (reg r 5) (reg r 6))) t0 o g) ≡ lay m0 (hearing v0 t0 g)
  unfolding lay hinted settled view_of
  heard_as (Err n) e = refl
  heard_as (Ok None) e = rw e
  heard_as (Ok (Some n)) e = refl

  hint_small : c.hint + reg r 6 ≤ room_of h → c.hint + reg r 6 ≡ plus c.hint (reg r 6)
  unfolding room_of
  hint_small e = omega arith

  hint_by : (b : Bool) → ltb (room_of h) (c.hint + reg r 6) ≡ b
      → hint_as (cond b (listened (Err NoRoom) h o) (listened_to h (sets h c.hint (span (byte_at p u) (reg r 5) (reg r 6))) t0 o (heard t0 (λ n. leb n (length o)))))
      ≡ lay m0 (cond b (refuse NoRoom) (hearing v0 t0 (heard t0 (λ n. leb n (length o)))))
  unfolding lay
  hint_by true e = refl
  hint_by false e = heard_as (heard t0 (λ n. leb n (length o))) (length_joined (byte_at p u) h c.hint (reg r 5) (reg r 6) ∙ hint_small (ltb-false _ _ e))

  hint_as_lem : hint_as (listening (byte_at p u) h c.hint (reg r 5) (reg r 6) o) ≡ working x d m0 (λ v. calling v HintWrite)
  unfolding listening joined working calling hinting view_of
  hint_as_lem = hint_by (ltb (room_of h) (c.hint + reg r 6)) refl ∙ rw (length_row (cell h) 0 c.hint)

  pub hint_done : {g f : Result (Option ℕ) Refusal} {e q : List ℕ} {l : Left} → listened g e q ≡ listening (byte_at p u) h c.hint (reg r 5) (reg r 6) o → g ≡ f → l ≡ hint_left f e q
      → l ≡ working x d m0 (λ v. calling v HintWrite)
  hint_done {g} {f} {e} {q} y z b = b ∙ ap (λ f. hint_left f e q) (sym z) ∙ ap hint_as y ∙ hint_as_lem

  pub hint_refused : {g : Result (Option ℕ) Refusal} {f : Refusal} {e q : List ℕ} → listened g e q ≡ listening (byte_at p u) h c.hint (reg r 5) (reg r 6) o → g ≡ Err f
      → left (Refused f) (machine c r k u p e q) false ≡ working x d m0 (λ v. calling v HintWrite)
  hint_refused y z = hint_done y z refl

  pub hint_kept : {g : Result (Option ℕ) Refusal} {e z : List ℕ} {q : Machine} {b : Cpu} {a : ℕ} → listened g e z ≡ listening (byte_at p u) h c.hint (reg r 5) (reg r 6) o → g ≡ Ok None
      → q ≡ machine c (answering r (reg r 6) 0) k u p e z → a ≡ plus c.hint (reg r 6) → b ≡ onward c c.heap c.offset a
      → left Stepped (with_cpu q b) true ≡ working x d m0 (λ v. calling v HintWrite)
  hint_kept y z b1 b2 b3 = hint_done y z (rw (b3, b2, b1))

  pub hint_handed : {g : Result (Option ℕ) Refusal} {f : ℕ} {e z : List ℕ} {q : Machine} {b : Cpu} → listened g e z ≡ listening (byte_at p u) h c.hint (reg r 5) (reg r 6) o → g ≡ Ok (Some f)
      → q ≡ machine c (answering r (reg r 6) 0) k u p e z → b ≡ onward c c.heap c.offset 0
      → left (Hint f) (with_cpu q b) true ≡ working x d m0 (λ v. calling v HintWrite)
  hint_handed y z b1 b2 = hint_done y z (rw (b2, b1))

  -- ---- 5000 on 5, from the index to the offset

  pub offset_past : (t : List ℕ) {g : ℕ} → g ≡ c.offset - 8 → length t < g → left (Refused InputOffset) m0 false ≡ working x d m0 (λ v. reading_in v t)
  unfolding working reading_in lay view_of
  offset_past t e i = rw (lt-ltb (8 + length t) c.offset (omega arith))

  pub offset_in : (t : List ℕ) {l : Left} {g : ℕ} → g ≡ c.offset - 8 → g ≤ length t → l ≡ working x d m0 (λ v. does (read_from v t)) → l ≡ working x d m0 (λ v. reading_in v t)
  unfolding working reading_in view_of
  offset_in t e i y = y ∙ rw (le-ltb (8 + length t) c.offset (omega arith))

  pub input_absent : {e : Option Entry} → e ≡ entry_of x k → e ≡ None → left (Refused NoInput) m0 false ≡ working x d m0 (λ v. calling v Input)
  unfolding working calling reading lay view_of
  input_absent y z = rw (← y, z)

  pub input_outside : {e : Option Entry} {f : Entry} {b : Bool} → e ≡ entry_of x k → e ≡ Some f → b ≡ inside d f.start f.length → b ≡ false
      → left (Refused NoInput) m0 false ≡ working x d m0 (λ v. calling v Input)
  unfolding working calling reading lay view_of
  input_outside y z i f = rw (← y, z, ← i, f)

  pub input_part : {e : Option Entry} {f : Entry} {b : Bool} {t : List ℕ} {l : Left} → e ≡ entry_of x k → e ≡ Some f → b ≡ inside d f.start f.length → b ≡ true → t ≡ part_def d f.start f.length
      → l ≡ working x d m0 (λ v. reading_in v t) → l ≡ working x d m0 (λ v. calling v Input)
  unfolding working calling reading part_def view_of
  input_part y z i f g w = w ∙ rw (← y, z, g, ← i, f)

  -- ---- from the call to the whole step

  pub call_by : {g f : Call} {l : Left} → g ≡ call_in c r → g ≡ f → l ≡ working x d m0 (λ v. calling v f) → l ≡ working x d m0 (λ v. calling v (call_in v.cpu v.regs))
  unfolding working view_of
  call_by y z w = w ∙ rw (← y, z)

  module _ (w : ℕ) {t : Option ℕ} {y : ℕ} {i : Ins} {e : Effect} (z1 : t ≡ touch_of r w) (z2 : y ≡ eight_at (byte_at p u) t) (z3 : i ≡ ins_of c r w y) (z4 : e ≡ kernel_def i) where
    exec_by : {f : Effect} {l : Left} → e ≡ f → l ≡ working x d m0 (λ v. planned v t f) → l ≡ working x d m0 (λ v. executing v w (touch_of v.regs w))
    unfolding working executing view_of
    exec_by g q = q ∙ rw (← z1, ← z2, ← z3, ← z4, g)

    pub exec_refused : {f : Refusal} → e ≡ Err (RefusedBy f) → left (Refused f) m0 false ≡ working x d m0 (λ v. executing v w (touch_of v.regs w))
    unfolding working planned lay
    exec_refused {f} g = exec_by g refl

    pub exec_call : {l : Left} → e ≡ Err CallBy → l ≡ working x d m0 (λ v. calling v (call_in v.cpu v.regs)) → l ≡ working x d m0 (λ v. executing v w (touch_of v.regs w))
    unfolding working planned
    exec_call g q = exec_by g q

    pub exec_done : {a : Change} {l : Left} → e ≡ Ok a → l ≡ working x d m0 (λ v. does (changing v t a)) → l ≡ working x d m0 (λ v. executing v w (touch_of v.regs w))
    unfolding working planned
    exec_done g q = exec_by g q

  pub step_misaligned : (c.pc % 4 ≡ 0 → ⊥) → left (Refused PcMisaligned) m0 false ≡ working x d m0 plan
  unfolding working plan executing kernel_def ins_of view_of planned lay
  step_misaligned i = rw (ne_eqb _ _ i)

  pub step_planned : {w : ℕ} {l : Left} → w ≡ big 4 (byte_at p u) c.pc → l ≡ working x d m0 (λ v. executing v w (touch_of v.regs w)) → l ≡ working x d m0 plan
  unfolding working plan view_of
  step_planned z q = q ∙ rw z

  pub step_done : {b : Cpu} {w : ℕ} {l : Left} → c.exited ≡ false → b ≡ counted c → w ≡ big 4 (byte_at p u) c.pc
      → l ≡ working x d (machine b r k u p h o) (λ v. executing v w (touch_of v.regs w)) → l ≡ advance x d m0
  unfolding advance working plan view_of counted
  step_done e y z q = q ∙ rw (z, y, e)

  pub step_unaligned : c.exited ≡ false → (c.pc % 4 ≡ 0 → ⊥) → left (Refused PcMisaligned) (machine (counted c) r k u p h o) false ≡ advance x d m0
  unfolding advance working plan executing kernel_def ins_of view_of counted planned lay
  step_unaligned e i = rw (e, ne_eqb _ _ i)

  pub step_exited : c.exited ≡ true → left (Exited c.code) m0 false ≡ advance x d m0
  unfolding advance
  step_exited e = rw e

  pub step_counted : {b : Cpu} {l : Left} → c.exited ≡ false → b ≡ counted c → l ≡ working x d (machine b r k u p h o) plan → l ≡ advance x d m0
  unfolding advance
  step_counted e y q = q ∙ rw (y, e)
