-- Refusal 1 changes no byte of the state, whichever test gives it.
use Rattle.std.proofs.Common.{◌≡◌, refl, sym, ap, ◌∙◌, Bool, true, false, ◌&&◌, ◌||◌, not, cond, List, ℕ, zero, suc, ◌≤◌, arith, eqb, leb, ltb, length, le-leb, lt-ltb, ltb-true, ne_eqb, Option, Some, None, is_some}
use Rattle.pages.specs.Bytes.{cell, big}
use Rattle.interpreter.specs.declared.effect.Refusal.TheVariants.{BadMachine}
use Rattle.interpreter.specs.declared.state.Cpu.{Cpu}
use Rattle.interpreter.specs.declared.state.State.{State}
use Rattle.interpreter.specs.declared.step.Answer.{Answer}
use Rattle.interpreter.specs.declared.step.Answer.TheVariants.{Stepped, Refused}
use Rattle.interpreter.specs.Machine.{Machine, largest_rules, hint_room, formless, room_of, bad, cpu_of, state_of}
use Rattle.interpreter.specs.Layout.{encode, decode_at, formed_at, decode_def}
use Rattle.interpreter.specs.Step.{Left, refused, step_def}
use Rattle.interpreter.specs.Recording.{wide, state_in, word_in, record_from, recorded, recording, recorded_def}
use Rattle.interpreter.specs.Runs.{Ran, ran, ended, run_def}
use Rattle.interpreter.proofs.Laws.Tests.{no_true}
use Rattle.pages.proofs.Laws.Runs.{Bytes}
use Rattle.interpreter.proofs.Laws.Hints.{room_fits}
use Rattle.interpreter.proofs.Laws.Kept.{bad_step}
use Rattle.interpreter.proofs.Laws.Layout.{state_parts, some_formed}
use Rattle.interpreter.proofs.Laws.Codec.{decode_out, encode_decode}
use Rattle.rocchivanda.specs.Calls.{Lent, well_formed, machine_in, ends, calling, step_call, idle, run_call, filed, record_call}

-- a state that was decoded is written back as it was
pub same_state_lem : (l : Lent) → Bytes l.state → is_some (decode_def l.state) ≡ true → encode (state_in (machine_in l)) ≡ l.state
unfolding machine_in
same_state_lem l small f = go (decode_def l.state) refl f
  where
    go : (t : Option State) → decode_def l.state ≡ t → is_some t ≡ true → encode (state_of (cpu_of (decode_at l.state 0)) (decode_at l.state 0).regs (decode_at l.state 0).key) ≡ l.state
    go (Some s) e f = rw (state_parts (decode_at l.state 0), (decode_out l.state s e).state) (encode_decode l.state small s e)
    go None e f = no_true (sym f)

-- ---- well-formed bytes that `decode_def` takes for no state: their rules are above 1 or their hint length is above 65,536

formless_by : (n x s f : Bool) → (n && x && s) ≡ true → (n && (x && s && not f)) ≡ false → f ≡ true
formless_by true true true true w e = refl
formless_by true true true false w e = no_true e
formless_by true true false f w e = no_true (sym w)
formless_by true false s f w e = no_true (sym w)
formless_by false x s f w e = no_true (sym w)

less_room : (a b n : ℕ) → a ≤ b → ltb b n ≡ true → ltb a n ≡ true
less_room a b n h e = let l = ltb-true b n e in lt-ltb a n (omega arith)

formless_less : (a b : ℕ) (c : Cpu) → a ≤ b → formless b c ≡ true → formless a c ≡ true
unfolding formless
formless_less a b c h e = go (ltb largest_rules c.rules) (ltb b c.hint) refl e
  where
    go : (p q : Bool) → ltb b c.hint ≡ q → (p || q) ≡ true → (p || ltb a c.hint) ≡ true
    go true q g k = refl
    go false true g k = less_room a b c.hint h g
    go false false g k = no_true (sym k)

run_bad : (x d : List ℕ) (n : ℕ) (m : Machine) → bad m ≡ true → run_def x d (suc n) m ≡ ran (Refused BadMachine) m 0
unfolding run_def
run_bad x d n m e = rw (bad_step x d m e)

-- no record of a step that does not count
unrecorded : (t w : Bool) (l : Left) (r b : List ℕ) → cond t (recorded l (cond (not w && false) r b)) (recorded l b) ≡ recorded l b
unrecorded true true l r b = refl
unrecorded true false l r b = refl
unrecorded false w l r b = refl

record_bad : (x d : List ℕ) (m : Machine) (b : List ℕ) → bad m ≡ true → recorded_def x d m b ≡ recorded (refused m BadMachine) b
unfolding recorded_def recording
record_bad x d m b e = rw (bad_step x d m e) (unrecorded (eqb (length b) 752) (wide m.cpu m.regs (word_in m)) (refused m BadMachine) (record_from m m) b)

-- the step refuses such a state, so the calls leave what they would leave if these bytes were decoded too

module _ (l : Lent) (well : well_formed l.state ≡ true) (none : is_some (decode_def l.state) ≡ false) where
  formless_in : formless hint_room (cpu_of (decode_at l.state 0)) ≡ true
  unfolding well_formed decode_def formed_at
  formless_in = let s = l.state in formless_by (eqb (length s) 360) (leb (cell s 352) 1) (eqb (big 5 (cell s) 355) 0) _ well (sym (some_formed _ (decode_at s 0)) ∙ none)

  bad_in : bad (machine_in l) ≡ true
  unfolding bad machine_in
  bad_in = rw (formless_less (room_of l.hint) hint_room (cpu_of (decode_at l.state 0)) (room_fits l.hint (room_of l.hint) (omega arith)).0 formless_in)

  module _ (room : 4 ≤ length l.answer) where
    stays_as : (w : Answer) (r : Ran) → r ≡ ran w (machine_in l) 0 → calling l w r ≡ ends l.answer l.state r
    unfolding calling
    stays_as w r e = rw (le-leb _ _ room, none, e)

    module _ (x d : List ℕ) where
      pub beyond_step : step_call x d l ≡ ends l.answer l.state (ended (step_def x d (machine_in l)))
      unfolding step_call
      beyond_step = stays_as _ _ (ap ended (bad_step x d (machine_in l) bad_in))

      pub beyond_run : (n : ℕ) → run_call x d n l ≡ ends l.answer l.state (run_def x d n (machine_in l))
      unfolding run_call idle run_def
      beyond_run zero = rw well (stays_as Stepped (ran Stepped (machine_in l) 0) refl)
      beyond_run (suc n) = rw (ne_eqb (suc n) 0 (λ e. absurd (omega arith))) (stays_as (Refused BadMachine) (run_def x d (suc n) (machine_in l)) (run_bad x d n (machine_in l) bad_in))

      pub beyond_record : (b : List ℕ) → record_call x d l b ≡ filed (ends l.answer l.state (ended (recorded_def x d (machine_in l) b).left)) (recorded_def x d (machine_in l) b).buf
      unfolding record_call
      beyond_record b = rw (record_bad x d (machine_in l) b bad_in, none, stays_as (Refused BadMachine) (ran (Refused BadMachine) (machine_in l) 0) refl, le-leb 4 (length l.answer) room)
