-- Every record that the machine fills is accepted.
use Rattle.std.proofs.Common.{◌≡◌, refl, sym, ap, subst, ◌∙◌, Bool, true, false, not, List, ℕ, ◌+◌, ◌^◌, ◌<◌, mod-eq_of_lt, arith, length, eq-eqb, Option, Some, None}
use Rattle.pages.specs.Bytes.{cell, row, big}
use Rattle.pages.specs.Memory.{Memory}
use Rattle.pages.proofs.Laws.Places.{big_bound}
use Rattle.pages.proofs.Laws.Meaning.{byte_small}
use Rattle.interpreter.specs.declared.state.State.{State}
use Rattle.interpreter.specs.Machine.{Machine, cpu_of, state_of, bad}
use Rattle.interpreter.specs.Plan.{eight_at}
use Rattle.interpreter.specs.Layout.{formed_at, Typed, Fits}
use Rattle.interpreter.specs.Step.{Left, step_def}
use Rattle.interpreter.specs.Records.{record_of}
use Rattle.interpreter.specs.Recording.{wide, memory_of, state_in, word_in as word_at, touch_in as touch_at, record_from, recording, recorded_def}
use Rattle.interpreter.specs.Ideal.{Ideal, meant, Outcome, ideal_step, Follows}
use Rattle.interpreter.specs.Runs.{is_refused}
use Rattle.interpreter.proofs.Laws.Tests.{no_true, both, off}
use Rattle.interpreter.proofs.Laws.Bytes.{big_lt}
use Rattle.interpreter.proofs.Laws.Hints.{room_fits}
use Rattle.interpreter.proofs.Laws.Records.{length_record, record_old, record_new, record_word, record_spare, record_touch, touch_none, touch_address, touch_old, touch_new, record_bytes}
use Rattle.interpreter.proofs.Laws.Kept.{formed, bad_step}
use Rattle.interpreter.proofs.Laws.Refine.{refines_unless}
use Rattle.interpreter.proofs.Laws.Runs.{step_works}
use Rattle.interpreter.proofs.Laws.Sizes.{step_bytes, step_fits}
use Rattle.interpreter.proofs.Laws.Narrow.{touched_aligned}
use Rattle.checker.specs.Verdicts.{Accepted}
use Rattle.checker.specs.Records.{old_in, new_in, word_in, address_in, old_eight, new_eight, touch_in}
use Rattle.checker.specs.Check.{wrong_length, malformed, exited_in, wide_in, placed, check_def}
use Rattle.checker.specs.Statement.{Bytes, Form, Has, Holds, step_from, Gives}
use Rattle.checker.proofs.Laws.Theorem.{unrefused_not, has_eight, steps_accepted}

-- ---- the touched eight bytes in a record

module _ (s n : State) (w : ℕ) where
  abbrev filled : Option ℕ → Memory → Memory → List ℕ
  filled t k l = record_of s n w t (eight_at k t) (eight_at l t)

  old_shown : (t : Option ℕ) (k l : Memory) → Bytes k → old_eight (filled t k l) ≡ eight_at k t
  unfolding old_eight
  old_shown None k l b = record_touch s n w None 0 0 8 ∙ touch_none 0 0 8 (omega arith)
  old_shown (Some a) k l b = record_touch s n w (Some a) (big 8 k a) (big 8 l a) 8 ∙ touch_old a (big 8 k a) (big 8 l a) ∙ mod-eq_of_lt (big_lt 8 k a b)

  new_shown : (t : Option ℕ) (k l : Memory) → Bytes l → new_eight (filled t k l) ≡ eight_at l t
  unfolding new_eight
  new_shown None k l b = record_touch s n w None 0 0 16 ∙ touch_none 0 0 16 (omega arith)
  new_shown (Some a) k l b = record_touch s n w (Some a) (big 8 k a) (big 8 l a) 16 ∙ touch_new a (big 8 k a) (big 8 l a) ∙ mod-eq_of_lt (big_lt 8 l a b)

  place_shown : (t : Option ℕ) (k l : Memory) → Bytes k → Bytes l → ((a : ℕ) → t ≡ Some a → a < 2 ^ 64) → placed (filled t k l) t ≡ true
  unfolding address_in
  place_shown None k l b c h =
      rw (record_touch s n w None 0 0 0 ∙ touch_none 0 0 0 (omega arith), old_shown None k l b, new_shown None k l c)
  place_shown (Some a) k l b c h =
      eq-eqb _ _ (record_touch s n w (Some a) (big 8 k a) (big 8 l a) 0 ∙ touch_address a (big 8 k a) (big 8 l a) ∙ mod-eq_of_lt (h a refl))

-- ---- the record of a step

good : (x d : List ℕ) (m : Machine) → is_refused (step_def x d m).answer ≡ false → bad m ≡ false
good x d m e = go (bad m) refl
  where
    go : (b : Bool) → bad m ≡ b → b ≡ false
    go true y = no_true (sym (ap (λ (l : Left). is_refused l.answer) (bad_step x d m y)) ∙ e)
    go false y = refl

-- where 1 does not apply, rules and hint length are in bounds too
typed_fits : (m : Machine) → Typed (state_in m) → bad m ≡ false → Fits (state_in m)
unfolding state_of
typed_fits m t e = let f = formed m e in record { typed = t; hint = (room_fits m.hint m.cpu.hint f.hint).0; rules = f.rules }

module _ (x d : List ℕ) (m : Machine) (pages : Bytes (cell m.pages)) (typed : Typed (state_in m)) (counts : (step_def x d m).counts ≡ true)
    (narrow : wide m.cpu m.regs (word_at m) ≡ false) where
  abbrev m' : Machine
  m' = (step_def x d m).machine

  abbrev old : ℕ
  old = eight_at (memory_of m) (touch_at m)

  abbrev new : ℕ
  new = eight_at (memory_of m') (touch_at m)

  abbrev r : List ℕ
  r = filled (state_in m) (state_in m') (word_at m) (touch_at m) (memory_of m) (memory_of m')

  unrefused : is_refused (step_def x d m).answer ≡ false
  unrefused = off _ (both {a = not (is_refused (step_def x d m).answer)} {b = not m.cpu.exited} (sym (step_works x d m) ∙ counts)).0

  running : m.cpu.exited ≡ false
  running = off _ (both {a = not (is_refused (step_def x d m).answer)} {b = not m.cpu.exited} (sym (step_works x d m) ∙ counts)).1

  fits : Fits (state_in m)
  fits = typed_fits m typed (good x d m unrefused)

  fits' : Fits (state_in m')
  fits' = step_fits x d m pages fits

  memory : Bytes (memory_of m)
  memory = byte_small m.pages m.used pages

  memory' : Bytes (memory_of m')
  memory' = byte_small m'.pages m'.used (step_bytes x d m pages)

  old_is : old_in r ≡ state_in m
  unfolding old_in
  old_is = (record_old (state_in m) (state_in m') (word_at m) (touch_at m) old new fits).0

  new_is : new_in r ≡ state_in m'
  unfolding new_in
  new_is = (record_new (state_in m) (state_in m') (word_at m) (touch_at m) old new fits').0

  word_is : word_in r ≡ word_at m
  unfolding word_in
  word_is = record_word (state_in m) (state_in m') (word_at m) (touch_at m) old new ∙ mod-eq_of_lt (big_bound 4 (memory_of m) m.cpu.pc (λ i z. memory (m.cpu.pc + i)))

  touch_is : touch_in r ≡ touch_at m
  unfolding touch_in cpu_of state_of
  touch_is = rw (old_is, word_is)

  address_small : (a : ℕ) → touch_at m ≡ Some a → a < 2 ^ 64
  unfolding state_of
  address_small a e = (touched_aligned m.cpu m.regs (word_at m) a typed.values e).1

  old_formed : formed_at r 0 ≡ true
  old_formed = (record_old (state_in m) (state_in m') (word_at m) (touch_at m) old new fits).1

  new_formed : formed_at r 360 ≡ true
  new_formed = (record_new (state_in m) (state_in m') (word_at m) (touch_at m) old new fits').1

  spare_zero : big 4 (cell r) 724 ≡ 0
  spare_zero = record_spare (state_in m) (state_in m') (word_at m) (touch_at m) old new

  long : length r ≡ 752
  long = length_record (state_in m) (state_in m') (word_at m) (touch_at m) old new

  form : Form r
  unfolding wrong_length malformed exited_in wide_in cpu_of state_of
  form =
      record {
        long = rw (eq-eqb _ _ long);
        formed = rw (old_formed, new_formed, spare_zero);
        running = ap (λ (s : State). s.exited) old_is ∙ running;
        narrow = rw (old_is, word_is) narrow;
        touch = rw touch_is (place_shown (state_in m) (state_in m') (word_at m) (touch_at m) (memory_of m) (memory_of m') memory memory' address_small);
      }

  holds : Holds r (memory_of m)
  unfolding state_of
  holds =
      record {
        bytes = memory;
        instruction = rw (old_is, word_is);
        eight = rw touch_is (has_eight (memory_of m) (touch_at m) (old_eight r) (sym (old_shown (state_in m) (state_in m') (word_at m) (touch_at m) (memory_of m) (memory_of m') memory)));
      }

  follows : Follows x d m
  unfolding state_of
  follows = refines_unless x d m typed.values (unrefused_not _ _ unrefused) (unrefused_not _ _ unrefused) (unrefused_not _ _ unrefused)

  abbrev held : List ℕ
  held = row (cell m.hint) 0 m.cpu.hint

  step_is : step_from r (memory_of m) x d held ≡ ideal_step x d (meant m)
  unfolding meant cpu_of state_of
  step_is = rw old_is

  made : (step_from r (memory_of m) x d held).machine ≡ meant m'
  made = ap (λ (o : Outcome). o.machine) step_is ∙ sym follows.machine

  gives : Gives r (memory_of m) x d held
  unfolding meant
  gives =
      record {
        unrefused = λ n e. unrefused_not (step_def x d m).answer n unrefused (follows.answer ∙ sym (ap (λ (o : Outcome). o.answer) step_is) ∙ e);
        state = ap (λ (i : Ideal). state_of i.cpu i.regs i.key) made ∙ sym new_is;
        eight =
            subst (λ (k : Memory). Has k (touch_in r) (new_eight r)) (sym (ap (λ (i : Ideal). i.memory) made))
            (rw touch_is (has_eight (memory_of m') (touch_at m) (new_eight r) (sym (new_shown (state_in m) (state_in m') (word_at m) (touch_at m) (memory_of m) (memory_of m') memory'))));
      }

  record_accepted : check_def r ≡ Accepted
  record_accepted = steps_accepted r (record_bytes (state_in m) (state_in m') (word_at m) (touch_at m) old new fits fits') form (memory_of m) holds x d held gives

  pub filled_accepted : (b : List ℕ) → length b ≡ 752 → check_def (recorded_def x d m b).buf ≡ Accepted
  unfolding recorded_def recording record_from
  filled_accepted b long = rw (eq-eqb _ _ long, narrow, counts) record_accepted
