-- Hints: the order of what is heard, and the bytes held with those appended behind them.
use Rattle.std.proofs.Common.{◌≡◌, ℕ, ◌+◌, ◌-◌, ◌<◌, ◌≤◌, Bool, true, false, cond, not, ltb, leb, List, ◌++◌, length, take, drop, sym, refl, ap, ◌∙◌, zero-add, arith, length-append, length-drop, get_or-drop, take_all, take_at, ext_get_or, ltb-false, le-ltb, lt-ltb, leb-true, Option, Some, None, Result, Ok, Err, min, IsErrAnd}
use native.Mathlib.Decide.{dec_lt}
use lib.Seq.{sets, sets-eq, length-sets}
use Rattle.pages.specs.Bytes.{cell, row}
use Rattle.pages.specs.Memory.{Memory, span}
use Rattle.pages.proofs.Laws.Runs.{length_row, cell_row, sets_below, sets_among}
use Rattle.pages.proofs.Laws.Loads.{length_span}
use Rattle.interpreter.specs.declared.effect.Refusal.{Refusal}
use Rattle.interpreter.specs.declared.effect.Refusal.TheVariants.{NoRoom, HintShort, HintText}
use Rattle.interpreter.specs.Machine.{room_of}
use Rattle.interpreter.specs.Utf8.{utf8}
use Rattle.interpreter.specs.Hints.{announced, text_of, heard}
use Rattle.interpreter.specs.Parts.{joined, Listened, listened, listened_to, listening}
use Rattle.pages.specs.Calls.{number_at, put_def, copy_def}
use Rattle.pages.proofs.Laws.Places.{number_fits, put_fits, copy_fits, cell_left, cell_past}
use Rattle.interpreter.proofs.Laws.Tests.{ltb_rest}

-- ---- room

module _ (l : List ℕ) where
  pub room_fits : (n : ℕ) → n ≤ room_of l → (n ≤ 65536) × (n ≤ length l)
  unfolding room_of
  room_fits n h = (omega arith, omega arith)

  pub room_least : min 65536 (length l) ≡ room_of l
  unfolding room_of
  room_least = omega arith

  -- more than the room, by a difference that does not wrap
  pub room_rest : (held count : ℕ) {g : ℕ} → g ≡ room_of l → held ≤ room_of l → ltb (g - held) count ≡ ltb (room_of l) (held + count)
  room_rest held count e k = rw e (ltb_rest (room_of l) held count k)

-- ---- what is heard

pub word_announced : (t : List ℕ) {n : ℕ} → 4 ≤ length t → n ≡ number_at 4 t 0 → n ≡ announced t
word_announced t l e = e ∙ number_fits 4 t 0 (omega arith)

-- the part behind the length is the text
pub text_valid : (t : List ℕ) {v b : Bool} → v ≡ utf8 (take (length t - 4) (drop 4 t)) → v ≡ b → utf8 (text_of t) ≡ b
text_valid t p q =
    let l : length (drop 4 t) ≤ length t - 4 = omega (arith, length-drop 4 t) in
    ap utf8 (sym (take_all (length t - 4) (drop 4 t) l)) ∙ sym p ∙ q

module _ (t : List ℕ) (fits : ℕ → Bool) where
  pub heard_few : length t < 4 → Ok None ≡ heard t fits
  unfolding heard
  heard_few h = rw (lt-ltb _ _ h)

  module _ (n : ℕ) (e : n ≡ announced t) (l : 4 ≤ length t) where
    pub heard_short : length t - 4 < n → Err HintShort ≡ heard t fits
    unfolding heard
    heard_short h =
        let k : length t < 4 + announced t = omega arith in
        rw (le-ltb (length t) 4 l, lt-ltb _ _ k)

    pub heard_long : n < length t - 4 → Ok None ≡ heard t fits
    unfolding heard
    heard_long h =
        let k : 4 + announced t ≤ length t = omega arith in
        let j : 4 + announced t < length t = omega arith in
        rw (le-ltb (length t) 4 l, le-ltb _ _ k, lt-ltb _ _ j)

    module _ (p : n ≤ length t - 4) (q : length t - 4 ≤ n) where
      pub heard_text : utf8 (text_of t) ≡ false → Err HintText ≡ heard t fits
      unfolding heard
      heard_text h =
          let k : 4 + announced t ≤ length t = omega arith in
          let j : length t ≤ 4 + announced t = omega arith in
          rw (le-ltb (length t) 4 l, le-ltb _ _ k, le-ltb _ _ j, h)

      pub heard_full : utf8 (text_of t) ≡ true → fits n ≡ false → Err NoRoom ≡ heard t fits
      unfolding heard
      heard_full h f =
          let k : 4 + announced t ≤ length t = omega arith in
          let j : length t ≤ 4 + announced t = omega arith in
          let g : fits (announced t) ≡ false = ap fits (sym e) ∙ f in
          rw (le-ltb (length t) 4 l, le-ltb _ _ k, le-ltb _ _ j, h, g)

      pub heard_out : utf8 (text_of t) ≡ true → fits n ≡ true → Ok (Some n) ≡ heard t fits
      unfolding heard
      heard_out h f =
          let k : 4 + announced t ≤ length t = omega arith in
          let j : length t ≤ 4 + announced t = omega arith in
          let g : fits (announced t) ≡ true = ap fits (sym e) ∙ f in
          rw (le-ltb (length t) 4 l, le-ltb _ _ k, le-ltb _ _ j, h, g) (ap (λ (k : ℕ). Ok (Some k)) e)

  -- a hint that is handed out is all that is held but its length
  pub out_whole : (n : ℕ) → heard t fits ≡ Ok (Some n) → (4 + n ≡ length t) × (fits n ≡ true)
  unfolding heard
  out_whole n =
      go (ltb (length t) 4) (ltb (length t) (4 + announced t)) refl (ltb (4 + announced t) (length t)) refl (not (utf8 (text_of t))) (fits (announced t)) refl
    where
      go : (a b : Bool) → ltb (length t) (4 + announced t) ≡ b → (c : Bool) → ltb (4 + announced t) (length t) ≡ c → (d f : Bool) → fits (announced t) ≡ f
          → cond a (Ok None) (cond b (Err HintShort) (cond c (Ok None) (cond d (Err HintText) (cond (not f) (Err NoRoom) (Ok (Some (announced t))))))) ≡ Ok (Some n)
          → (4 + n ≡ length t) × (fits n ≡ true)
      go true b p c q d f r e = let z : ◌≡◌ {A = ℕ} 0 1 = cc in absurd (omega arith)
      go false true p c q d f r e = let z : ◌≡◌ {A = ℕ} 0 1 = cc in absurd (omega arith)
      go false false p true q d f r e = let z : ◌≡◌ {A = ℕ} 0 1 = cc in absurd (omega arith)
      go false false p false q true f r e = let z : ◌≡◌ {A = ℕ} 0 1 = cc in absurd (omega arith)
      go false false p false q false false r e = let z : ◌≡◌ {A = ℕ} 0 1 = cc in absurd (omega arith)
      go false false p false q false true r e =
          let s : announced t ≡ n = cc in
          (omega (arith, ltb-false (length t) (4 + announced t) p, ltb-false (4 + announced t) (length t) q), ap fits (sym s) ∙ r)

-- ---- the bytes held, with those appended

-- in a buffer they stand one behind the other
pub held_cell : (h a : List ℕ) (n : ℕ) → n + length a ≤ length h → (k : ℕ) → k < n + length a → cell (sets h n a) k ≡ cell (row (cell h) 0 n ++ a) k
held_cell h a n r k l = go (dec_lt k n)
  where
    go : Dec (k < n) → cell (sets h n a) k ≡ cell (row (cell h) 0 n ++ a) k
    go (yes b) =
        sets_below h n a k b ∙ sym (cell_left (row (cell h) 0 n) a k (rw (length_row (cell h) 0 n) b) ∙ cell_row (cell h) 0 n k b ∙ ap (cell h) (zero-add k))
    go (no b) =
        let e : k ≡ n + (k - n) = omega arith in
        rw e (sets_among h n a (k - n) r (omega arith) ∙ sym (cell_past (row (cell h) 0 n) a n (k - n) (length_row (cell h) 0 n)))

module _ (m : Memory) (h : List ℕ) (held address count : ℕ) where
  pub length_joined : length (joined m h held address count) ≡ held + count
  unfolding joined
  length_joined = length-append (row (cell h) 0 held) (span m address count) ∙ rw (length_row (cell h) 0 held, length_span)

  joined_cell : held + count ≤ length h → (k : ℕ) → k < held + count → cell (sets h held (span m address count)) k ≡ cell (joined m h held address count) k
  unfolding joined
  joined_cell r k l = held_cell h (span m address count) held (rw length_span r) k (rw length_span l)

  -- the text of a whole hint, read out of the buffer
  pub joined_text : held + count ≤ length h → (n : ℕ) → 4 + n ≡ length (joined m h held address count)
      → row (cell (sets h held (span m address count))) 4 n ≡ text_of (joined m h held address count)
  joined_text r n e = ext_get_or 0 _ _ (length_row _ 4 n ∙ sym (length-drop 4 t ∙ omega arith)) each
    where
      t : List ℕ
      t = joined m h held address count

      each : (i : ℕ) → i < length (row (cell (sets h held (span m address count))) 4 n) → cell (row (cell (sets h held (span m address count))) 4 n) i ≡ cell (text_of t) i
      each i l =
          let k : i < n = omega (arith, length_row (cell (sets h held (span m address count))) 4 n) in
          cell_row _ 4 n i k ∙ joined_cell r (4 + i) (omega (arith, length_joined)) ∙ sym (get_or-drop 4 t i 0)

  -- copied one behind the other into a scratch text z
  pub joined_copied : (z a b : List ℕ) → held + count ≤ length z → held ≤ length h
      → a ≡ copy_def h 0 z 0 held → b ≡ put_def a held (span m address count) → take (held + count) b ≡ joined m h held address count
  unfolding joined
  joined_copied z a b r l p q =
      let X = row (cell h) 0 held in
      let Y = span m address count in
      let lx : length X ≡ held = length_row (cell h) 0 held in
      let o : 0 + held ≤ length h = omega arith in
      let u : 0 + held ≤ length z = omega arith in
      let p2 : a ≡ sets z 0 X = p ∙ copy_fits h 0 z 0 held o u in
      let la : length a ≡ length z = ap length p2 ∙ length-sets z 0 X in
      let v : held + count ≤ length a = omega arith in
      let w : 0 + length X ≤ length z = omega arith in
      let y : held + length Y ≤ length a = rw length_span v in
      let q2 : b ≡ sets a held Y = q ∙ put_fits a held Y y in
      let s : a ≡ X ++ drop (0 + length X) z = p2 ∙ sets-eq X z 0 w in
      let x : take held a ≡ X = ap (take held) s ∙ take_at X (drop (0 + length X) z) held lx in
      let c : b ≡ X ++ Y ++ drop (held + length Y) a = q2 ∙ sets-eq Y a held y ∙ ap (λ (f : List ℕ). f ++ Y ++ drop (held + length Y) a) x in
      ap (take (held + count)) c ∙ take_at (X ++ Y) (drop (held + length Y) a) (held + count) (length-append X Y ∙ rw (lx, length_span))

-- ---- the bytes laid down, by what was heard

err_is : (x : Result (Option ℕ) Refusal) (e : Refusal) → IsErrAnd x (λ f. f ≡ e) → x ≡ Err e
err_is (Ok g) e s = absurd s
err_is (Err f) e s = ap (λ (k : Refusal). Err k) s

module _ (m : Memory) (h : List ℕ) (held address count : ℕ) (o : List ℕ) where
  abbrev judged : Result (Option ℕ) Refusal
  judged = heard (joined m h held address count) (λ k. leb k (length o))

  abbrev laid : Result (Option ℕ) Refusal → Listened
  laid = listened_to h (sets h held (span m address count)) (joined m h held address count) o

  -- a refusal lays nothing down
  pub lay_refuse : {r x : Result (Option ℕ) Refusal} {e : Refusal} → r ≡ judged → r ≡ Err e → IsErrAnd x (λ f. f ≡ e) → listened x h o ≡ laid judged
  lay_refuse {x = x} {e = e} p q s = rw (err_is x e s, ← p, q)

  pub lay_done : {r : Result (Option ℕ) Refusal} {g : Option ℕ} {x : Listened} → r ≡ judged → r ≡ Ok g → x ≡ laid (Ok g) → x ≡ laid judged
  lay_done p q z = z ∙ ap laid (sym q ∙ p)

  module _ {a : List ℕ} (l : held + count ≤ length h) (p : a ≡ put_def h held (span m address count)) where
    put_as : a ≡ sets h held (span m address count)
    put_as = p ∙ put_fits h held (span m address count) (rw length_span l)

    pub lay_keep : {g : Option ℕ} → g ≡ None → listened (Ok g) a o ≡ laid (Ok g)
    lay_keep q = rw (q, put_as)

    pub lay_out : {g : Option ℕ} {b : List ℕ} {n : ℕ} → Ok g ≡ judged → g ≡ Some n → b ≡ copy_def a 4 o 0 n → listened (Ok g) a b ≡ laid (Ok g)
    lay_out {b = b} {n = n} d q s =
        let t = joined m h held address count in
        let w = out_whole t (λ k. leb k (length o)) n (sym d ∙ ap (λ (k : Option ℕ). Ok k) q) in
        let la : length a ≡ length h = ap length put_as ∙ length-sets h held (span m address count) in
        let u : 4 + n ≤ length a = omega (arith, length_joined m h held address count) in
        let v : 0 + n ≤ length o = omega (arith, leb-true n (length o) w.1) in
        let s2 : b ≡ sets o 0 (text_of t) =
        s ∙ copy_fits a 4 o 0 n u v ∙ ap (λ (f : List ℕ). sets o 0 (row (cell f) 4 n)) put_as ∙ ap (sets o 0) (joined_text m h held address count l n w.0) in
        rw (q, put_as, s2)

-- ---- the whole write

-- room for the bytes appended
pub room_enough : (h : List ℕ) (held count : ℕ) {v : Bool} → v ≡ ltb (room_of h) (held + count) → v ≡ false → (held + count ≤ 65536) × (held + count ≤ length h)
room_enough h held count p q = room_fits h (held + count) (ltb-false (room_of h) (held + count) (sym p ∙ q))

module _ (m : Memory) (h : List ℕ) (held address count : ℕ) (o : List ℕ) {v : Bool} (p : v ≡ ltb (room_of h) (held + count)) where
  pub listening_over : v ≡ true → listened (Err NoRoom) h o ≡ listening m h held address count o
  unfolding listening
  listening_over q = rw (sym p ∙ q)

  pub listening_heard : v ≡ false → {r : Result (Option ℕ) Refusal} {x : Listened} → r ≡ heard (joined m h held address count) (λ n. leb n (length o))
      → x ≡ listened_to h (sets h held (span m address count)) (joined m h held address count) o r → x ≡ listening m h held address count o
  unfolding listening
  listening_heard q e d = d ∙ rw (sym p ∙ q, e)
