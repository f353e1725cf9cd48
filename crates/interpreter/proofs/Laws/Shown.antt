-- The step that a record shows: how the code meets it, and that it is the step of every memory that shows the same eight bytes.
use Rattle.std.specs.Prelude.{Option, Some, None, Ok, Err, unwrap_or}
use Rattle.std.proofs.Common.{◌≡◌, ℕ, ◌*◌, ◌/◌, ◌%◌, ◌^◌, ◌<◌, Bool, true, false, cond, eqb, List, [], sym, refl, ap, ◌∙◌, mod-eq_of_lt, eqb-true, Option, Some, None, Result, Err}
use Rattle.pages.specs.Bytes.{big, bytes_of}
use Rattle.pages.specs.Memory.{Memory, write}
use Rattle.pages.proofs.Laws.Numbers.{length_bytes, big_bytes}
use Rattle.pages.proofs.Laws.Meaning.{write_number}
use Rattle.interpreter.specs.Isa.{Instruction, alu, imm, hilo, load, store, conditional, branch, jump, other, reserved, reserved_branch}
use Rattle.interpreter.specs.OpcodeMap.{decode}
use Rattle.interpreter.specs.Kernel.{does, kernel_def, touching, touch_def}
use Rattle.interpreter.specs.declared.effect.Ins.{Ins}
use Rattle.interpreter.specs.declared.effect.Change.{Change}
use Rattle.interpreter.specs.Effects.{Effect}
use Rattle.interpreter.specs.declared.effect.Stop.TheVariants.{Refused as RefusedBy, Call as CallBy}
use Rattle.interpreter.specs.declared.effect.Refusal.{Refusal}
use Rattle.interpreter.specs.declared.effect.Refusal.TheVariants.{PcMisaligned}
use Rattle.interpreter.specs.declared.state.Cpu.{Cpu}
use Rattle.interpreter.specs.declared.step.Answer.TheVariants.{Stepped as Answered, Exited}
use Rattle.interpreter.specs.declared.linux.Call.{Call}
use Rattle.interpreter.specs.declared.linux.Call.TheVariants.{Answer as Reply, Heap, Exit, Key, Input, Write, Hint}
use Rattle.interpreter.specs.declared.shown.Shown.{Shown}
use Rattle.interpreter.specs.declared.shown.Unshown.{Unshown}
use Rattle.interpreter.specs.declared.shown.Unshown.TheVariants.{Refused, Wide}
use Rattle.interpreter.specs.Machine.{reg, set_reg, changed, counted, machine, Machine}
use Rattle.interpreter.specs.Plan.{View, Plan, does as doing, store_of, storing, changing, eight_at, keying, replying, exiting, call_in, calling, ins_of, touch_of, planned, executing}
use Rattle.interpreter.specs.Step.{Left, lay, settled, view_of, working, left}
use Rattle.interpreter.specs.Recording.{calls, call_wide, call_touch, wide, touched}
use Rattle.interpreter.specs.Ideal.{ideal, ideal_view, remember}
use Rattle.interpreter.specs.Shown.{shown_at, effect_shown, plan_shown, shown, made_by, unless_refused, made_with, step_shown, Showing, stepped}
use Rattle.interpreter.specs.Parts.{called_shown, call_shown, change_shown}
use Rattle.interpreter.proofs.Laws.Tests.{no_true}
use Rattle.interpreter.proofs.Laws.Dests.{calls_call, calls_done}

-- ---- eight bytes written and read back

pub write_back : (m : Memory) (a v : ℕ) → v < 2 ^ 64 → big 8 (write m a (bytes_of 8 v)) a ≡ v
write_back m a v h = write_number m a (bytes_of 8 v) 8 (length_bytes 8 v) ∙ big_bytes 8 v ∙ mod-eq_of_lt h

-- ---- the parts of the code

pub given_eight : {t : Option ℕ} (a x : ℕ) → t ≡ Some a → x < 2 ^ 64 → x ≡ eight_at (shown_at t x) t
unfolding shown_at
given_eight a x e h = rw e (sym (write_back (λ b. 0) a x h))

pub kept_eight : {t : Option ℕ} (a x : ℕ) (m : Option ℕ) → t ≡ Some a → x < 2 ^ 64 → unwrap_or m x < 2 ^ 64 → unwrap_or m x ≡ eight_at (remember (shown_at t x) (store_of t m)) t
unfolding shown_at
kept_eight a x (Some v) g h l = rw g (sym (write_back (write (λ b. 0) a (bytes_of 8 x)) a v l))
kept_eight a x None g h l = rw g (sym (write_back (λ b. 0) a x h))

pub change_made : (c : Cpu) (r k : List ℕ) (t : Option ℕ) (x : ℕ) (e : Change) {l : List ℕ} {b : Cpu} {y : ℕ} → l ≡ set_reg r e.dest e.value → b ≡ changed c e
    → y ≡ eight_at (remember (shown_at t x) (storing t e)) t → shown (stepped b t y) l k ≡ change_shown c r k t x e
unfolding change_shown
change_made c r k t x e p q s = rw (p, q, s)

pub shown_as : (r k : List ℕ) {s t : Result Shown Unshown} → s ≡ t → shown s r k ≡ shown t r k
shown_as r k e = ap (λ (s : Result Shown Unshown). shown s r k) e

-- a call that the step makes too, on a machine with no bytes
module _ (c : Cpu) (r k : List ℕ) (x : ℕ) where
  wide_made : {g : Call} → g ≡ call_in c r → call_wide g ≡ true → shown (Err Wide) r k ≡ call_shown c r k x
  unfolding call_shown called_shown
  wide_made y z = rw (← y, z)

  pub input_made : {g : Call} → g ≡ call_in c r → g ≡ Input → shown (Err Wide) r k ≡ call_shown c r k x
  input_made y z = wide_made y (ap call_wide z)

  pub write_made : {g : Call} (s : ℕ) → g ≡ call_in c r → g ≡ Write s → shown (Err Wide) r k ≡ call_shown c r k x
  write_made s y z = wide_made y (ap call_wide z)

  pub hint_made : {g : Call} → g ≡ call_in c r → g ≡ Hint → shown (Err Wide) r k ≡ call_shown c r k x
  hint_made y z = wide_made y (ap call_wide z)

  abbrev works : (View → Plan) → Left
  works f = working [] [] (machine c r k 0 [] [] []) f

  pub reply_made : {g : Call} (v e : ℕ) {m : Machine} {l j : List ℕ} → g ≡ call_in c r → g ≡ Reply v e → left Answered m true ≡ works (λ w. calling w (Reply v e))
      → l ≡ m.regs → j ≡ m.key → shown (stepped m.cpu None 0) l j ≡ call_shown c r k x
  unfolding call_shown called_shown working lay settled calling replying view_of ideal_view
  reply_made v e y z q a b = rw (a, b, ← y, z, ap (λ (m : Left). m.machine.cpu) q, ap (λ (m : Left). m.machine.regs) q, ap (λ (m : Left). m.machine.key) q)

  pub heap_made : {g : Call} (v : ℕ) {m : Machine} {l j : List ℕ} → g ≡ call_in c r → g ≡ Heap v → left Answered m true ≡ works (λ w. calling w (Heap v))
      → l ≡ m.regs → j ≡ m.key → shown (stepped m.cpu None 0) l j ≡ call_shown c r k x
  unfolding call_shown called_shown working lay settled calling replying view_of ideal_view
  heap_made v y z q a b = rw (a, b, ← y, z, ap (λ (m : Left). m.machine.cpu) q, ap (λ (m : Left). m.machine.regs) q, ap (λ (m : Left). m.machine.key) q)

  pub exit_made : {g : Call} (v : ℕ) {m : Machine} {l j : List ℕ} → g ≡ call_in c r → g ≡ Exit v → left (Exited v) m true ≡ works (λ w. calling w (Exit v))
      → l ≡ m.regs → j ≡ m.key → shown (stepped m.cpu None 0) l j ≡ call_shown c r k x
  unfolding call_shown called_shown working lay settled calling exiting view_of ideal_view
  exit_made v y z q a b = rw (a, b, ← y, z, ap (λ (m : Left). m.machine.cpu) q, ap (λ (m : Left). m.machine.regs) q, ap (λ (m : Left). m.machine.key) q)

  pub key_made : {g : Call} {m : Machine} {l j : List ℕ} {i : ℕ} → g ≡ call_in c r → g ≡ Key → i ≡ reg r 5 / 8 * 8 → x < 2 ^ 64 → left Answered m true ≡ works (λ w. doing (keying w x))
      → l ≡ m.regs → j ≡ m.key → shown (stepped m.cpu (Some i) x) l j ≡ call_shown c r k x
  unfolding call_shown called_shown working lay settled calling keying view_of ideal_view shown_at
  key_made y z i h q a b =
      rw (a, b, ← y, z, i, write_back (λ b. 0) (reg r 5 / 8 * 8) x h, ap (λ (m : Left). m.machine.cpu) q, ap (λ (m : Left). m.machine.regs) q, ap (λ (m : Left). m.machine.key) q)

-- ---- the whole step

abbrev pub unrefused : Effect → Bool
unrefused (Err (RefusedBy n)) = false
unrefused (Err CallBy) = true
unrefused (Ok e) = true

-- what is not refused stands at an aligned pc
pub pc_aligned : (i : Ins) {e : Effect} → e ≡ kernel_def i → unrefused e ≡ true → i.pc % 4 ≡ 0
unfolding kernel_def
pc_aligned i {e} y h = go (eqb (i.pc % 4) 0) refl (sym (ap unrefused y) ∙ h)
  where
    go : (b : Bool) → eqb (i.pc % 4) 0 ≡ b → unrefused (cond b (does (decode i.word) i) (Err (RefusedBy PcMisaligned))) ≡ true → i.pc % 4 ≡ 0
    go true q z = eqb-true _ _ q
    go false q z = no_true (sym z)

-- a system call is no load or store
call_untouching : (n : Instruction) (a : ℕ) → calls n ≡ true → touching n a ≡ None
unfolding calls touching
call_untouching (alu x) a h = no_true (sym h)
call_untouching (imm x) a h = no_true (sym h)
call_untouching (hilo x) a h = no_true (sym h)
call_untouching (load x) a h = no_true (sym h)
call_untouching (store x) a h = no_true (sym h)
call_untouching (conditional x) a h = no_true (sym h)
call_untouching (branch x) a h = no_true (sym h)
call_untouching (jump x) a h = no_true (sym h)
call_untouching (other x) a h = refl
call_untouching reserved a h = no_true (sym h)
call_untouching reserved_branch a h = no_true (sym h)

module _ (c : Cpu) (r : List ℕ) (w : ℕ) where
  pub touch_call : calls (decode w) ≡ true → touch_of r w ≡ None
  unfolding touch_of touch_def
  touch_call h = call_untouching (decode w) _ h

  pub touched_call : calls (decode w) ≡ true → touched c r w ≡ call_touch (reg r 5) (call_in c r)
  unfolding touched
  touched_call h = rw h

  pub touched_other : calls (decode w) ≡ false → touched c r w ≡ touch_of r w
  unfolding touched
  touched_other h = rw h

  -- a memory that shows what the step touches shows what the instruction reads
  pub reads_shown : (m n : Memory) → eight_at m (touched c r w) ≡ eight_at n (touched c r w) → eight_at m (touch_of r w) ≡ eight_at n (touch_of r w)
  reads_shown m n h = go (calls (decode w)) refl
    where
      go : (b : Bool) → calls (decode w) ≡ b → eight_at m (touch_of r w) ≡ eight_at n (touch_of r w)
      go true q = rw (touch_call q)
      go false q = rw (touched_other q) at h

  given_shown : (x : ℕ) → eight_at (shown_at (touch_of r w) x) (touch_of r w) ≡ eight_at (shown_at (touched c r w) x) (touch_of r w)
  given_shown x = go (calls (decode w)) refl
    where
      go : (b : Bool) → calls (decode w) ≡ b → eight_at (shown_at (touch_of r w) x) (touch_of r w) ≡ eight_at (shown_at (touched c r w) x) (touch_of r w)
      go true q = rw (touch_call q)
      go false q = rw (touched_other q)

  abbrev sees : List ℕ → Memory → View
  sees k m = ideal_view [] [] (ideal (counted c) r k m [])

  -- the plan, by what the kernel says
  plan_by : (k : List ℕ) (m : Memory) {e : Effect} → e ≡ effect_shown c r w m → plan_shown c r k w m ≡ planned (sees k m) (touch_of r w) e
  unfolding plan_shown executing effect_shown ideal_view
  plan_by k m y = rw y

  made_by_lem : (k : List ℕ) (x : ℕ) {e : Effect} → e ≡ effect_shown c r w (shown_at (touched c r w) x)
      → step_shown c r k w x ≡ unless_refused r k e (cond (wide c r w) (shown (Err Wide) r k) (made_by r k (shown_at (touched c r w) x) (touched c r w) (planned (sees k (shown_at (touched c r w) x)) (touch_of r w) e)))
  unfolding step_shown made_with
  made_by_lem k x y = rw (← y, plan_by k (shown_at (touched c r w) x) y)

  call_made : (k : List ℕ) (x : ℕ) → calls (decode w) ≡ true
      → call_shown (counted c) r k x ≡ cond (wide c r w) (shown (Err Wide) r k) (made_by r k (shown_at (touched c r w) x) (touched c r w) (planned (sees k (shown_at (touched c r w) x)) (touch_of r w) (Err CallBy)))
  unfolding call_shown called_shown wide planned ideal_view call_in counted
  call_made k x h = rw (h, touched_call h)

  done_made : (k : List ℕ) (x : ℕ) (f : Change) → calls (decode w) ≡ false
      → change_shown (counted c) r k (touch_of r w) x f ≡ cond (wide c r w) (shown (Err Wide) r k) (made_by r k (shown_at (touched c r w) x) (touched c r w) (planned (sees k (shown_at (touched c r w) x)) (touch_of r w) (Ok f)))
  unfolding change_shown wide planned changing ideal_view
  done_made k x f h = rw (h, touched_other h)

  module _ (k : List ℕ) (x : ℕ) {n : Cpu} {t : Option ℕ} {g : ℕ} {i : Ins} {e : Effect} (yn : n ≡ counted c) (yt : t ≡ touch_of r w) (yg : g ≡ eight_at (shown_at t x) t)
      (yi : i ≡ ins_of n r w g) (ye : e ≡ kernel_def i) where
    effect_is : e ≡ effect_shown c r w (shown_at (touched c r w) x)
    unfolding effect_shown
    effect_is = ye ∙ rw (yi, yg, yt, yn, given_shown x)

    aligned : unrefused e ≡ true → i.pc % 4 ≡ 0
    aligned h = pc_aligned i ye h

    word_is : i.word ≡ w
    unfolding ins_of
    word_is = rw yi

    pub shown_refused : {f : Refusal} → e ≡ Err (RefusedBy f) → shown (Err (Refused f)) r k ≡ step_shown c r k w x
    shown_refused z = sym (made_by_lem k x (sym z ∙ effect_is))

    pub shown_call : {s : Showing} → e ≡ Err CallBy → s ≡ call_shown n r k x → s ≡ step_shown c r k w x
    shown_call z q =
        let h : calls (decode w) ≡ true = sym (ap (λ v. calls (decode v)) word_is) ∙ calls_call i (aligned (ap unrefused z)) ye z in
        q ∙ rw yn (call_made k x h) ∙ sym (made_by_lem k x (sym z ∙ effect_is))

    pub shown_done : {s : Showing} {f : Change} → e ≡ Ok f → s ≡ change_shown n r k t x f → s ≡ step_shown c r k w x
    shown_done {f = f} z q =
        let h : calls (decode w) ≡ false = sym (ap (λ v. calls (decode v)) word_is) ∙ calls_done i (aligned (ap unrefused z)) ye z in
        q ∙ rw (yn, yt) (done_made k x f h) ∙ sym (made_by_lem k x (sym z ∙ effect_is))
