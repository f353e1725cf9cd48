-- Steps that are not wide: every memory that shows the touched eight bytes has the same step, and no other byte of it changes.
use Rattle.std.specs.Prelude.{Option, Some, None, Ok, Err}
use Rattle.std.proofs.Common.{◌≡◌, ℕ, ◌^◌, ◌<◌, Bool, true, false, cond, eqb, List, [], length, set, sym, refl, ap, ◌∙◌, subst, length-set, Option, Some, None}
use Rattle.pages.specs.Bytes.{big, bytes_of}
use Rattle.pages.specs.Memory.{Memory, write}
use Rattle.pages.proofs.Laws.Runs.{length_row}
use Rattle.pages.proofs.Laws.Numbers.{length_bytes}
use Rattle.pages.proofs.Laws.Meaning.{write_outside, write_number}
use Rattle.interpreter.specs.OpcodeMap.{decode}
use Rattle.interpreter.specs.Kernel.{kernel_def}
use Rattle.interpreter.specs.declared.effect.Ins.{Ins}
use Rattle.interpreter.specs.declared.effect.Change.{Change}
use Rattle.interpreter.specs.Effects.{Effect}
use Rattle.interpreter.specs.declared.effect.Stop.TheVariants.{Refused as RefusedBy, Call as CallBy}
use Rattle.interpreter.specs.declared.effect.Refusal.{Refusal}
use Rattle.interpreter.specs.declared.state.Cpu.{Cpu}
use Rattle.interpreter.specs.declared.linux.Call.{Call}
use Rattle.interpreter.specs.declared.linux.Call.TheVariants.{Answer as Reply, Heap, Exit, Key, Input, Write, Hint as HintWrite}
use Rattle.interpreter.specs.Machine.{reg, set_reg, answering, counted}
use Rattle.interpreter.specs.Inputs.{shifted}
use Rattle.interpreter.specs.Plan.{View, Store, keeps, stores, Deed, Plan, refuse, does, store_of, storing, changing, eight_at, keying, replying, exiting, call_in, calling, ins_of, touch_of, planned, executing, plan}
use Rattle.interpreter.specs.Recording.{calls, call_wide, call_touch, wide, touched}
use Rattle.interpreter.specs.Ideal.{ideal, ideal_view, counting, follow, remember, ideal_step}
use Rattle.interpreter.specs.Runs.{is_refused}
use Rattle.interpreter.specs.Shown.{Outside, effect_shown, plan_shown}
use Rattle.interpreter.proofs.Laws.Tests.{no_true}
use Rattle.interpreter.proofs.Laws.Dests.{calls_call, calls_done, touched_at}
use Rattle.interpreter.proofs.Laws.Kept.{Aligned, zero_aligned, cut_aligned, touch_aligned}
use Rattle.interpreter.proofs.Laws.Shown.{unrefused, pc_aligned, touched_call, touched_other, reads_shown}

-- ---- what such a step does

-- a store goes to the touched eight bytes
abbrev pub Goes : Option ℕ → Store → Type 0
Goes t keeps = Unit {0}
Goes t (stores a v) = t ≡ Some a

pub record Narrow (r k : List ℕ) (t : Option ℕ) (d : Deed) : Type 0 where
  pub regs : length d.regs ≡ length r
  pub key : length k ≡ 32 → length d.key ≡ 32
  pub goes : Goes t d.store
  pub answer : is_refused d.answer ≡ false

pub data Found (P : Deed → Type 0) (p : Plan) : Type 0 where
  found : (d : Deed) → p ≡ does d → P d → Found P p

length_answer : (r : List ℕ) (v e : ℕ) → length (answering r v e) ≡ length r
unfolding answering
length_answer r v e = length-set (set r 2 v) 7 e ∙ length-set r 2 v

length_written : (r : List ℕ) (i v : ℕ) → length (set_reg r i v) ≡ length r
unfolding set_reg
length_written r i v = go (eqb i 0)
  where
    go : (b : Bool) → length (cond b r (set r i v)) ≡ length r
    go true = refl
    go false = length-set r i v

storing_goes : (t : Option ℕ) (e : Change) → Goes t (storing t e)
storing_goes None e = tt
storing_goes (Some a) e = go e.store
  where
    go : (m : Option ℕ) → Goes (Some a) (store_of (Some a) m)
    go (Some m) = refl
    go None = tt

module _ (v : View) where
  change_narrow : (t : Option ℕ) (e : Change) → Narrow v.regs v.key t (changing v t e)
  unfolding changing
  change_narrow t e = record { regs = length_written v.regs e.dest e.value; key = λ h. h; goes = storing_goes t e; answer = refl }

  reply_narrow : (t : Option ℕ) (x e : ℕ) (c : Cpu) → Narrow v.regs v.key t (replying v x e c)
  unfolding replying
  reply_narrow t x e c = record { regs = length_answer v.regs x e; key = λ h. h; goes = tt; answer = refl }

  exit_narrow : (t : Option ℕ) (n : ℕ) → Narrow v.regs v.key t (exiting v n)
  unfolding exiting
  exit_narrow t n = record { regs = refl; key = λ h. h; goes = tt; answer = refl }

  key_narrow : (t : Option ℕ) (x : ℕ) → Narrow v.regs v.key t (keying v x)
  unfolding keying shifted
  key_narrow t x = record { regs = length_answer v.regs _ 0; key = λ h. length_row _ _ 32; goes = tt; answer = refl }

  call_narrow : (t : Option ℕ) (g : Call) → call_wide g ≡ false → Found (Narrow v.regs v.key t) (calling v g)
  unfolding calling
  call_narrow t (Reply x e) h = found _ refl (reply_narrow t x e _)
  call_narrow t (Heap n) h = found _ refl (reply_narrow t _ 0 _)
  call_narrow t (Exit n) h = found _ refl (exit_narrow t n)
  call_narrow t Key h = found _ refl (key_narrow t _)
  call_narrow t Input h = no_true h
  call_narrow t (Write s) h = no_true h
  call_narrow t HintWrite h = no_true h

-- ---- of two memories that show the same

module _ (c : Cpu) (r : List ℕ) (w : ℕ) (narrow : wide c r w ≡ false) where
  not_wide : calls (decode w) ≡ true → call_wide (call_in c r) ≡ false
  unfolding wide
  not_wide h = rw h at narrow

  abbrev sees : List ℕ → List ℕ → List ℕ → Memory → List ℕ → View
  sees x d k m h = ideal_view x d (ideal (counted c) r k m h)

  module _ (m : Memory) {i : Ins} (yi : i ≡ ins_of (counted c) r w (eight_at m (touch_of r w))) where
    word_is : i.word ≡ w
    unfolding ins_of
    word_is = rw yi

    is_call : (e : Effect) → e ≡ kernel_def i → e ≡ Err CallBy → calls (decode w) ≡ true
    is_call e y z = sym (ap (λ v. calls (decode v)) word_is) ∙ calls_call i (pc_aligned i y (ap unrefused z)) y z

    is_done : (e : Effect) {f : Change} → e ≡ kernel_def i → e ≡ Ok f → calls (decode w) ≡ false
    is_done e y z = sym (ap (λ v. calls (decode v)) word_is) ∙ calls_done i (pc_aligned i y (ap unrefused z)) y z

  -- a step that is not refused has such a deed
  plan_found : (k : List ℕ) (m : Memory) (e : Effect) → e ≡ effect_shown c r w m → unrefused e ≡ true
      → Found (Narrow r k (touched c r w)) (planned (sees [] [] k m []) (touch_of r w) e)
  unfolding planned effect_shown ideal_view call_in counted
  plan_found k m (Err (RefusedBy n)) y h = no_true (sym h)
  plan_found k m (Err CallBy) y h = call_narrow (sees [] [] k m []) (touched c r w) (call_in c r) (not_wide (is_call m refl (Err CallBy) y refl))
  plan_found k m (Ok f) y h = rw (touched_other c r w (is_done m refl (Ok f) y refl)) (found _ refl (change_narrow (sees [] [] k m []) (touch_of r w) f))

  pub shown_found : (k : List ℕ) (m : Memory) → unrefused (effect_shown c r w m) ≡ true → Found (Narrow r k (touched c r w)) (plan_shown c r k w m)
  unfolding plan_shown executing effect_shown ideal_view
  shown_found k m h = plan_found k m (effect_shown c r w m) refl h

  pub shown_stops : (k : List ℕ) (m : Memory) {n : Refusal} → effect_shown c r w m ≡ Err (RefusedBy n) → plan_shown c r k w m ≡ refuse n
  unfolding plan_shown executing effect_shown ideal_view planned
  shown_stops k m e = rw e

  -- the same memory bytes, the same plan
  call_same : (x d k h : List ℕ) (m n : Memory) (g : Call) → call_wide g ≡ false → eight_at m (call_touch (reg r 5) g) ≡ eight_at n (call_touch (reg r 5) g)
      → calling (sees x d k m h) g ≡ calling (sees [] [] k n []) g
  unfolding calling replying exiting keying ideal_view
  call_same x d k h m n (Reply a e) q s = refl
  call_same x d k h m n (Heap a) q s = refl
  call_same x d k h m n (Exit a) q s = refl
  call_same x d k h m n Key q s = rw s
  call_same x d k h m n Input q s = no_true q
  call_same x d k h m n (Write a) q s = no_true q
  call_same x d k h m n HintWrite q s = no_true q

  planned_same : (x d k h : List ℕ) (m n : Memory) (e : Effect) → e ≡ effect_shown c r w m → eight_at m (touched c r w) ≡ eight_at n (touched c r w)
      → planned (sees x d k m h) (touch_of r w) e ≡ planned (sees [] [] k n []) (touch_of r w) e
  unfolding planned effect_shown changing ideal_view call_in counted
  planned_same x d k h m n (Err (RefusedBy f)) y s = refl
  planned_same x d k h m n (Err CallBy) y s =
      let g : calls (decode w) ≡ true = is_call m refl (Err CallBy) y refl in
      call_same x d k h m n (call_in c r) (not_wide g) (rw (touched_call c r w g) at s)
  planned_same x d k h m n (Ok f) y s = refl

  pub shown_same : (x d k h : List ℕ) (m n : Memory) → eight_at m (touched c r w) ≡ eight_at n (touched c r w)
      → executing (sees x d k m h) w (touch_of r w) ≡ plan_shown c r k w n
  unfolding executing plan_shown effect_shown ideal_view
  shown_same x d k h m n s = planned_same x d k h m n (effect_shown c r w m) refl s ∙ rw (reads_shown c r w m n s)

-- ---- a step of the definition's machine

pub ideal_fetches : (x d : List ℕ) (c : Cpu) (r k : List ℕ) (m : Memory) (h : List ℕ) (w : ℕ) → c.exited ≡ false → big 4 m c.pc ≡ w
    → ideal_step x d (ideal c r k m h) ≡ follow (counting (ideal c r k m h)) (executing (ideal_view x d (ideal (counted c) r k m h)) w (touch_of r w))
unfolding ideal_step plan ideal_view counted
ideal_fetches x d c r k m h w e f = rw (e, f)

-- ---- what a store leaves

pub remember_outside : (m : Memory) (t : Option ℕ) (s : Store) → Goes t s → (b : ℕ) → Outside t b → remember m s b ≡ m b
remember_outside m t keeps g b o = refl
remember_outside m t (stores a v) g b o = write_outside m a (bytes_of 8 v) 8 (length_bytes 8 v) b (rw g at o)

write_same : (m n : Memory) (a v : ℕ) → big 8 (write m a (bytes_of 8 v)) a ≡ big 8 (write n a (bytes_of 8 v)) a
write_same m n a v = write_number m a (bytes_of 8 v) 8 (length_bytes 8 v) ∙ sym (write_number n a (bytes_of 8 v) 8 (length_bytes 8 v))

pub remember_same : (m n : Memory) (t : Option ℕ) (s : Store) → Goes t s → eight_at m t ≡ eight_at n t → eight_at (remember m s) t ≡ eight_at (remember n s) t
remember_same m n t keeps g e = e
remember_same m n t (stores a v) g e = rw g (write_same m n a v)

-- ---- where it touches

call_aligned : (x : ℕ) (g : Call) → x < 2 ^ 64 → Aligned (touched_at (call_touch x g))
call_aligned x (Reply v e) h = zero_aligned
call_aligned x (Heap n) h = zero_aligned
call_aligned x (Exit n) h = zero_aligned
call_aligned x Key h = cut_aligned x h
call_aligned x Input h = zero_aligned
call_aligned x (Write s) h = zero_aligned
call_aligned x HintWrite h = zero_aligned

pub touched_aligned : (c : Cpu) (r : List ℕ) (w a : ℕ) → ((i : ℕ) → reg r i < 2 ^ 64) → touched c r w ≡ Some a → Aligned a
unfolding touched
touched_aligned c r w a s e = go (calls (decode w)) e
  where
    go : (b : Bool) → cond b (call_touch (reg r 5) (call_in c r)) (touch_of r w) ≡ Some a → Aligned a
    go true q = subst Aligned (ap touched_at q) (call_aligned (reg r 5) (call_in c r) (s 5))
    go false q = subst Aligned (ap touched_at q) (touch_aligned r w)
