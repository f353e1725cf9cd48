-- What every step keeps: the form of its state, and that a store goes to a doubleword.
use Rattle.std.proofs.Common.{◌≡◌, ℕ, ◌+◌, ◌*◌, ◌/◌, ◌%◌, ◌^◌, ◌<◌, ◌≤◌, Bool, true, false, cond, ltb, List, [], length, sym, refl, ap, ◌∙◌, arith, length-append, length-drop, ltb-false, le-ltb, Result, Ok, Err, Option, Some, None}
use Rattle.std.specs.Prelude.{Option, Some, None, Ok, Err}
use lib.Seq.{length-sets}
use Rattle.pages.specs.Bytes.{cell, big, bytes_of}
use Rattle.pages.specs.Memory.{span}
use Rattle.pages.specs.Pages.{whole}
use Rattle.pages.specs.Calls.{Set, stored, store_def, set_def}
use Rattle.pages.specs.declared.memory.StoreError.{StoreError}
use Rattle.pages.specs.declared.memory.StoreError.TheVariants.{Full}
use Rattle.pages.proofs.Laws.Runs.{length_row}
use Rattle.pages.proofs.Laws.Loads.{length_span}
use Rattle.pages.proofs.Laws.Lookups.{lookup_fine}
use Rattle.pages.proofs.Laws.Stores.{store_cases, set_aligned, set_stored, set_length, used_same, used_refused}
use Rattle.interpreter.specs.Isa.{rs_of}
use Rattle.interpreter.specs.OpcodeMap.{decode}
use Rattle.interpreter.specs.Loads.{address_of}
use Rattle.interpreter.specs.Kernel.{touch_def}
use Rattle.interpreter.specs.declared.effect.Change.{Change}
use Rattle.interpreter.specs.Effects.{Effect}
use Rattle.interpreter.specs.declared.effect.Stop.TheVariants.{Refused as RefusedBy, Call as CallBy}
use Rattle.interpreter.specs.declared.effect.Refusal.{Refusal}
use Rattle.interpreter.specs.declared.effect.Refusal.TheVariants.{BadMachine, NoRoom}
use Rattle.interpreter.specs.declared.state.Cpu.{Cpu}
use Rattle.interpreter.specs.declared.step.Answer.{Answer}
use Rattle.interpreter.specs.declared.step.Answer.TheVariants.{Stepped, Hint, Exited}
use Rattle.interpreter.specs.declared.linux.Call.{Call}
use Rattle.interpreter.specs.declared.linux.Call.TheVariants.{Answer as Reply, Heap, Exit, Key, Input, Write, Hint as HintWrite}
use Rattle.interpreter.specs.declared.input.Entry.{Entry}
use Rattle.interpreter.specs.Machine.{Machine, reg, counted, changed, onward, leaving, formless, room_of, bad}
use Rattle.interpreter.specs.Inputs.{entry_of, inside, part_of}
use Rattle.interpreter.specs.Hints.{text_of, heard}
use Rattle.interpreter.specs.Plan.{View, Store, keeps, stores, Deed, Plan, refuse, does, store_of, storing, changing, a1, a2, place, call_in, replying, staying, exiting, keying, wrote, writing, hinted, hearing, together, hinting, read, reading_in, reading_at, reading, calling, touch_of, planned, executing, word_of, plan}
use Rattle.interpreter.specs.Step.{left, refused, landed, putting, lay, settled, view_of, with_cpu, working, advance, step_def}
use Rattle.interpreter.proofs.Laws.Tests.{no_true, neither}
use Rattle.interpreter.proofs.Laws.Paging.{is_used}
use Rattle.interpreter.proofs.Laws.Dests.{touched_at, touching_all}
use Rattle.interpreter.proofs.Laws.Hints.{out_whole}
use Rattle.interpreter.proofs.Laws.Bounds.{wrapped}

-- ---- where a store goes

-- a doubleword's address
abbrev pub Aligned : ℕ → Type 0
Aligned a = (a % 8 ≡ 0) × (a < 2 ^ 64)

pub zero_aligned : Aligned 0
zero_aligned = (refl, omega arith)

abbrev pub address_in : Store → ℕ
address_in keeps = 0
address_in (stores a x) = a

pub cut_aligned : (a : ℕ) → a < 2 ^ 64 → Aligned (a / 8 * 8)
cut_aligned a h = (omega arith, omega arith)

pub touch_aligned : (r : List ℕ) (w : ℕ) → Aligned (touched_at (touch_of r w))
unfolding touch_of touch_def
touch_aligned r w = touching_all Aligned zero_aligned (decode w) (address_of w (reg r (rs_of w)) / 8 * 8) (cut_aligned (address_of w (reg r (rs_of w))) (wrapped _))

storing_aligned : (t : Option ℕ) (e : Change) → Aligned (touched_at t) → Aligned (address_in (storing t e))
storing_aligned None e h = zero_aligned
storing_aligned (Some a) e h = go e.store
  where
    go : (m : Option ℕ) → Aligned (address_in (store_of (Some a) m))
    go (Some m) = h
    go None = zero_aligned

-- ---- what a deed keeps

pub record Good (v : View) (d : Deed) : Type 0 where
  pub rules : d.cpu.rules ≡ v.cpu.rules
  pub hint : d.cpu.hint ≤ length v.held + length d.appended
  pub room : length v.held + length d.appended ≤ v.room
  pub goes : ((i : ℕ) → reg v.regs i < 2 ^ 64) → Aligned (address_in d.store)
  pub out : v.fits 0 ≡ true → v.fits (length d.written) ≡ true

-- the deed of a plan, if it has one
abbrev pub Each : (Deed → Type 0) → Plan → Type 0
Each P (refuse n) = record {}
Each P (does d) = P d

pub data Sound (v : View) (p : Plan) : Type 0 where
  sound : Each (Good v) p → Sound v p

pub deed_good : {v : View} {d : Deed} → Sound v (does d) → Good v d
deed_good (sound g) = g

refuse_sound : {v : View} (n : Refusal) → Sound v (refuse n)
refuse_sound n = sound (record {})

cond_sound : {v : View} (b : Bool) {p q : Plan} → Sound v p → Sound v q → Sound v (cond b p q)
cond_sound true g h = g
cond_sound false g h = h

module _ (v : View) (counts : length v.held ≡ v.cpu.hint) (within : length v.held ≤ v.room) where
  same_hint : v.cpu.hint ≤ length v.held + 0
  same_hint = omega arith

  same_room : length v.held + 0 ≤ v.room
  same_room = omega arith

  -- a deed that appends nothing
  still : (d : Deed) → d.appended ≡ [] → d.cpu.rules ≡ v.cpu.rules → d.cpu.hint ≡ v.cpu.hint
      → (((i : ℕ) → reg v.regs i < 2 ^ 64) → Aligned (address_in d.store)) → (v.fits 0 ≡ true → v.fits (length d.written) ≡ true) → Sound v (does d)
  still d e r h g o = sound (record { rules = r; hint = rw (e, h) same_hint; room = rw e same_room; goes = g; out = o })

  change_sound : (t : Option ℕ) (e : Change) → Aligned (touched_at t) → Sound v (does (changing v t e))
  unfolding changing changed
  change_sound t e h = still (changing v t e) refl refl refl (λ s. storing_aligned t e h) (λ o. o)

  reply_sound : (x e : ℕ) (c : Cpu) → c.rules ≡ v.cpu.rules → c.hint ≡ v.cpu.hint → Sound v (does (replying v x e c))
  unfolding replying
  reply_sound x e c r h = still (replying v x e c) refl r h (λ s. zero_aligned) (λ o. o)

  exit_sound : (n : ℕ) → Sound v (does (exiting v n))
  unfolding exiting leaving
  exit_sound n = still (exiting v n) refl refl refl (λ s. zero_aligned) (λ o. o)

  key_sound : (x : ℕ) → Sound v (does (keying v x))
  unfolding keying onward
  key_sound x = still (keying v x) refl refl refl (λ s. zero_aligned) (λ o. o)

  wrote_sound : (n : ℕ) → v.fits (a2 v) ≡ true → Sound v (does (wrote v n))
  unfolding wrote onward
  wrote_sound n e =
      still (wrote v n) refl refl refl (λ s. zero_aligned) (λ o. ap v.fits (length_span v.memory (a1 v) (a2 v)) ∙ e)

  write_sound : (n : ℕ) → Sound v (writing v n)
  unfolding writing
  write_sound n = go (v.fits (a2 v)) refl
    where
      go : (b : Bool) → v.fits (a2 v) ≡ b → Sound v (cond b (does (wrote v n)) (refuse NoRoom))
      go true e = wrote_sound n e
      go false e = refuse_sound NoRoom

  read_sound : (t : List ℕ) (n : ℕ) → Sound v (does (read v t n))
  unfolding read onward
  read_sound t n = still (read v t n) refl refl refl (λ s. cut_aligned (a1 v) (s 5)) (λ o. o)

  reading_in_lem : (t : List ℕ) → Sound v (reading_in v t)
  unfolding reading_in
  reading_in_lem t = cond_sound (ltb (8 + length t) v.cpu.offset) (refuse_sound _) (read_sound t _)

  reading_at_lem : (e : Option Entry) → Sound v (reading_at v e)
  reading_at_lem None = refuse_sound _
  reading_at_lem (Some e) = cond_sound (inside v.input e.start e.length) (reading_in_lem (part_of v.input e.start e.length)) (refuse_sound _)

  -- the bytes appended have room
  hinted_sound : (r : Answer) (n : ℕ) (text : List ℕ) → n ≤ length v.held + a2 v → length v.held + a2 v ≤ v.room
      → (v.fits 0 ≡ true → v.fits (length text) ≡ true) → Sound v (does (hinted v r n text))
  unfolding hinted onward
  hinted_sound r n text h k o =
      let e : length (span v.memory (a1 v) (a2 v)) ≡ a2 v = length_span v.memory (a1 v) (a2 v) in
      sound (record { rules = refl; hint = rw e h; room = rw e k; goes = λ s. zero_aligned; out = o })

  together_length : length (together v) ≡ length v.held + a2 v
  together_length = length-append v.held (span v.memory (a1 v) (a2 v)) ∙ rw (length_span v.memory (a1 v) (a2 v))

  -- a hint that is handed out fits
  text_fits : (n : ℕ) → heard (together v) v.fits ≡ Ok (Some n) → v.fits (length (text_of (together v))) ≡ true
  text_fits n e =
      let w = out_whole (together v) v.fits n e in
      ap v.fits (length-drop 4 (together v) ∙ omega (arith, w.0)) ∙ w.1

  hearing_sound : (g : Result (Option ℕ) Refusal) → heard (together v) v.fits ≡ g → length v.held + a2 v ≤ v.room → Sound v (hearing v (together v) g)
  hearing_sound (Err n) e k = refuse_sound n
  hearing_sound (Ok None) e k = hinted_sound Stepped (length (together v)) [] (omega (arith, together_length)) k (λ o. o)
  hearing_sound (Ok (Some n)) e k = hinted_sound (Hint n) 0 (text_of (together v)) (omega arith) k (λ o. text_fits n e)

  hinting_sound : Sound v (hinting v)
  unfolding hinting
  hinting_sound = go (ltb v.room (length v.held + a2 v)) refl
    where
      go : (b : Bool) → ltb v.room (length v.held + a2 v) ≡ b → Sound v (cond b (refuse NoRoom) (hearing v (together v) (heard (together v) v.fits)))
      go true e = refuse_sound NoRoom
      go false e = hearing_sound (heard (together v) v.fits) refl (ltb-false v.room (length v.held + a2 v) e)

  calling_sound : (c : Call) → Sound v (calling v c)
  unfolding calling reading onward
  calling_sound (Reply x e) = reply_sound x e (staying v.cpu) refl refl
  calling_sound (Heap h) = reply_sound v.cpu.heap 0 (onward v.cpu h v.cpu.offset v.cpu.hint) refl refl
  calling_sound (Exit n) = exit_sound n
  calling_sound Key = key_sound (big 8 v.memory (place v))
  calling_sound Input = reading_at_lem (entry_of v.index v.key)
  calling_sound (Write s) = write_sound s
  calling_sound HintWrite = hinting_sound

  planned_sound : (t : Option ℕ) (e : Effect) → Aligned (touched_at t) → Sound v (planned v t e)
  unfolding planned
  planned_sound t (Err (RefusedBy n)) h = refuse_sound n
  planned_sound t (Err CallBy) h = calling_sound (call_in v.cpu v.regs)
  planned_sound t (Ok e) h = change_sound t e h

  pub plan_sound : Sound v (plan v)
  unfolding plan executing
  plan_sound = planned_sound (touch_of v.regs (word_of v)) _ (touch_aligned v.regs (word_of v))

-- ---- the form of a machine

pub record Formed (m : Machine) : Type 0 where
  pub rules : m.cpu.rules ≤ 1
  pub hint : m.cpu.hint ≤ room_of m.hint
  pub used : m.used ≤ whole m.pages

pub formed : (m : Machine) → bad m ≡ false → Formed m
unfolding bad formless
formed m e =
    let f = neither e in
    let g = neither f.0 in
    record { rules = ltb-false _ _ g.0; hint = ltb-false _ _ g.1; used = ltb-false _ _ f.1 }

pub formed_good : (m : Machine) → Formed m → bad m ≡ false
unfolding bad formless
formed_good m f = rw (le-ltb _ _ f.rules, le-ltb _ _ f.hint, le-ltb _ _ f.used)

-- what a step looks at: the bytes held are counted and have room
pub view_counts : (x d : List ℕ) (m : Machine) → length (view_of x d m).held ≡ (view_of x d m).cpu.hint
unfolding view_of
view_counts x d m = length_row (cell m.hint) 0 m.cpu.hint

pub view_within : (x d : List ℕ) (m : Machine) → Formed m → length (view_of x d m).held ≤ (view_of x d m).room
unfolding view_of
view_within x d m f = rw (length_row (cell m.hint) 0 m.cpu.hint) f.hint

pub view_sound : (x d : List ℕ) (m : Machine) → Formed m → Sound (view_of x d m) (plan (view_of x d m))
view_sound x d m f = plan_sound (view_of x d m) (view_counts x d m) (view_within x d m f)

-- ---- what a store keeps

put_length : (p : List ℕ) (u : ℕ) (s : Store) → length (putting p u s).pages ≡ length p
put_length p u keeps = refl
put_length p u (stores a x) = set_length 8 p u a x

store_used : (p : List ℕ) (u a w : ℕ) (vs : List ℕ) → u ≤ whole p → (store_def p u a vs).answer ≡ Ok w → w ≤ whole p
store_used p u a w vs h e =
    store_cases p u a vs (λ s. s.answer ≡ Ok w → w ≤ whole p)
    (λ i f g. rw (← (used_same g)) h)
    (λ f l g. let k = used_same g in omega arith)
    (λ f l g. absurd (used_refused g))
    (λ z f g. absurd (used_refused g))
    e

put_used : (p : List ℕ) (u w : ℕ) (s : Store) → u ≤ whole p → (putting p u s).answer ≡ Ok w → w ≤ whole p
put_used p u w keeps h e = rw (← (used_same e)) h
put_used p u w (stores a x) h e =
    let g = set_stored 8 p u a x {u = w} {q = (set_def 8 p u a x).pages} (ap (λ (r : Result ℕ StoreError). stored r (set_def 8 p u a x).pages) e) in
    store_used p u a w (bytes_of 8 x) h (ap (λ (r : Set). r.answer) g.1)

-- a store to a doubleword, with the used records there, is made or finds no record left; so the other refusals cannot come
pub put_full : (p : List ℕ) (u : ℕ) (s : Store) → u ≤ whole p → Aligned (address_in s) → is_used (putting p u s).answer ≡ false → (putting p u s).answer ≡ Err Full
put_full p u keeps h g e = no_true e
put_full p u (stores a x) h g e =
    let i = set_aligned 8 p u a x g.0 in
    ap (λ (r : Set). r.answer) i
    ∙ store_cases p u a (bytes_of 8 x) (λ s. is_used s.answer ≡ false → s.answer ≡ Err Full)
    (λ j f k. no_true k) (λ f l k. no_true k) (λ f l k. refl)
    (λ z f k. absurd (lookup_fine p u (a / 4096) h f))
    (ap (λ (r : Set). is_used r.answer) (sym i) ∙ e)

-- ---- every step

module _ (x d : List ℕ) (m : Machine) (f : Formed m) where
  settled_formed : (w : Deed) → Good (view_of x d m) w → (u : ℕ) (q : List ℕ) → length q ≡ length m.pages → u ≤ whole m.pages
      → Formed (settled m w u q).machine
  unfolding settled view_of room_of
  settled_formed w g u q e h =
      record {
        rules = rw g.rules f.rules;
        hint = rw (length-sets m.hint m.cpu.hint w.appended) (omega (arith, g.hint, g.room));
        used = rw e h;
      }

  landed_formed : (w : Deed) → Good (view_of x d m) w → (q : List ℕ) → length q ≡ length m.pages → (s : Result ℕ StoreError)
      → ((u : ℕ) → s ≡ Ok u → u ≤ whole m.pages) → Formed (landed m w q s).machine
  landed_formed w g q e (Ok u) h = settled_formed w g u q e (h u refl)
  landed_formed w g q e (Err z) h = f

  lay_formed : (p : Plan) → Sound (view_of x d m) p → Formed (lay m p).machine
  unfolding lay
  lay_formed (refuse n) s = f
  lay_formed (does w) s =
      landed_formed w (deed_good s) (putting m.pages m.used w.store).pages (put_length m.pages m.used w.store)
      (putting m.pages m.used w.store).answer (λ u e. put_used m.pages m.used u w.store f.used e)

  pub work_formed : Formed (working x d m plan).machine
  unfolding working
  work_formed = lay_formed (plan (view_of x d m)) (view_sound x d m f)

pub count_formed : (m : Machine) → Formed m → Formed (with_cpu m (counted m.cpu))
unfolding counted
count_formed m f = record { rules = f.rules; hint = f.hint; used = f.used }

step_formed : (x d : List ℕ) (m : Machine) → bad m ≡ false → Formed m → Formed (step_def x d m).machine
unfolding step_def advance
step_formed x d m e f = rw e (go m.cpu.exited)
  where
    go : (b : Bool) → Formed (cond b (left (Exited m.cpu.code) m false) (working x d (with_cpu m (counted m.cpu)) plan)).machine
    go true = f
    go false = work_formed x d (with_cpu m (counted m.cpu)) (count_formed m f)

-- 1 changes nothing
pub bad_step : (x d : List ℕ) (m : Machine) → bad m ≡ true → step_def x d m ≡ refused m BadMachine
unfolding step_def
bad_step x d m e = rw e

-- a machine that is not refused with 1 stays so
pub step_keeps_good : (x d : List ℕ) (m : Machine) → bad m ≡ false → bad (step_def x d m).machine ≡ false
step_keeps_good x d m e = formed_good (step_def x d m).machine (step_formed x d m e (formed m e))
