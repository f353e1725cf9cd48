-- A state's bytes: what the code writes and reads, and that bytes and states say the same.
use Rattle.std.proofs.Common.{◌≡◌, ℕ, zero, suc, ◌+◌, ◌*◌, ◌<◌, ◌≤◌, Bool, true, false, cond, not, ◌&&◌, ◌||◌, eqb, ltb, leb, List, ◌++◌, length, set, sym, refl, ap, ◌∙◌, zero-add, arith, length-append, length-set, get_or-set_other, get_or-set_same, ext_get_or, le-ltb, lt-ltb, eq-eqb, ne_eqb, le-leb, Some, None, is_some}
use native.Mathlib.Decide.{dec_lt}
use lib.Seq.{sets, length-sets}
use borrow.Author.Tests.{lt-leb}
use Rattle.std.specs.Int.{from_bool}
use Rattle.pages.specs.Bytes.{cell, row, zeros, big, bytes_of}
use Rattle.pages.specs.Calls.{number_at, put_def, copy_def}
use Rattle.pages.proofs.Laws.Runs.{length_row, cell_row}
use Rattle.pages.proofs.Laws.Numbers.{length_bytes}
use Rattle.pages.proofs.Laws.Places.{number_fits, put_fits, copy_fits, sets_then, sets_whole}
use Rattle.interpreter.specs.Machine.{reg, cpu_of, state_of, largest_rules, hint_room, formless}
use Rattle.interpreter.specs.Layout.{eights, flag, numbers_of, last_of, encode, eight, numbers, decode_at, formed_at, decoded_at, decode_def}
use Rattle.interpreter.specs.declared.state.State.{State}
use Rattle.interpreter.specs.declared.state.Cpu.{Cpu}

-- ---- lengths

pub length_eights : (r : List ℕ) (n : ℕ) → length (eights r n) ≡ 8 * n
unfolding eights
length_eights r zero = refl
length_eights r (suc n) = length-append (eights r n) (bytes_of 8 (reg r n)) ∙ rw (length_eights r n, length_bytes 8 (reg r n)) (omega arith)

pub length_last : (c : Cpu) → length (last_of c) ≡ 8
unfolding last_of
length_last c = rw (length_row (λ _. 0) 0 5)

pub length_encode : (s : State) → length (encode s) ≡ 360
unfolding encode
length_encode s =
    simp (length-append, length_eights s.regs 32, length_eights (numbers_of (cpu_of s)) 8, length_row (cell s.key) 0 32, length_last (cpu_of s))

-- ---- what is written

-- one number more
pub put_eight : (b : List ℕ) (at : ℕ) (r : List ℕ) (i k : ℕ) {d e : List ℕ} → k ≡ at + 8 * i → k + 8 ≤ length b → d ≡ sets b at (eights r i)
    → e ≡ put_def d k (bytes_of 8 (reg r i)) → e ≡ sets b at (eights r (suc i))
unfolding eights
put_eight b at r i k {d = d} q h p w =
    let fits : k + length (bytes_of 8 (reg r i)) ≤ length d = rw (length_bytes 8 (reg r i), p, length-sets b at (eights r i)) h in
    w ∙ put_fits d k _ fits ∙ rw p (sets_then b at (eights r i) _ k (8 * i) (length_eights r i) q)

pub put_eights : (b : List ℕ) (at : ℕ) (c : Cpu) {d1 d2 d3 d4 d5 d6 d7 d8 : List ℕ} → at + 360 ≤ length b
    → d1 ≡ put_def b (at + 256) (bytes_of 8 c.pc)
    → d2 ≡ put_def d1 (at + 264) (bytes_of 8 c.next)
    → d3 ≡ put_def d2 (at + 272) (bytes_of 8 c.hi)
    → d4 ≡ put_def d3 (at + 280) (bytes_of 8 c.lo)
    → d5 ≡ put_def d4 (at + 288) (bytes_of 8 c.heap)
    → d6 ≡ put_def d5 (at + 296) (bytes_of 8 c.step)
    → d7 ≡ put_def d6 (at + 304) (bytes_of 8 c.offset)
    → d8 ≡ put_def d7 (at + 312) (bytes_of 8 c.hint)
    → d8 ≡ sets b (at + 256) (eights (numbers_of c) 8)
unfolding numbers_of eights
put_eights b at c h e1 e2 e3 e4 e5 e6 e7 e8 =
    let r = numbers_of c in
    let a = at + 256 in
    let f1 = put_eight b a r 0 a (omega arith) (omega arith) refl e1 in
    let f2 = put_eight b a r 1 (at + 264) (omega arith) (omega arith) f1 e2 in
    let f3 = put_eight b a r 2 (at + 272) (omega arith) (omega arith) f2 e3 in
    let f4 = put_eight b a r 3 (at + 280) (omega arith) (omega arith) f3 e4 in
    let f5 = put_eight b a r 4 (at + 288) (omega arith) (omega arith) f4 e5 in
    let f6 = put_eight b a r 5 (at + 296) (omega arith) (omega arith) f5 e6 in
    let f7 = put_eight b a r 6 (at + 304) (omega arith) (omega arith) f6 e7 in
    put_eight b a r 7 (at + 312) (omega arith) (omega arith) f7 e8

pub flag_byte : (b : Bool) → from_bool b ≡ flag b
flag_byte true = refl
flag_byte false = refl

pub put_last : (b : List ℕ) (at : ℕ) (c : Cpu) {f : ℕ} {d : List ℕ} → at + 360 ≤ length b → f ≡ flag c.exited
    → d ≡ put_def (set (set (set b (at + 352) f) (at + 353) c.code) (at + 354) c.rules) (at + 355) (zeros 5) → d ≡ sets b (at + 352) (last_of c)
unfolding last_of row
put_last b at c {f = f} h p e =
    let s1 : suc (at + 352) ≡ at + 353 = omega arith in
    let s2 : suc (at + 353) ≡ at + 354 = omega arith in
    let s3 : suc (at + 354) ≡ at + 355 = omega arith in
    let b3 = set (set (set b (at + 352) f) (at + 353) c.code) (at + 354) c.rules in
    let long : length b3 ≡ length b = simp length-set in
    let fits : at + 355 + length (zeros 5) ≤ length b3 = rw (length_row (λ _. 0) 0 5, long) (omega arith) in
    e ∙ put_fits b3 (at + 355) (zeros 5) fits ∙ rw (s1, s2, s3, p)

-- four runs of bytes, one after the other
pub put_four : (b : List ℕ) (at : ℕ) (w x y z : List ℕ) (l m n : ℕ) {d1 d2 d3 d4 : List ℕ} → length w ≡ l → length x ≡ m → length y ≡ n
    → d1 ≡ sets b at w
    → d2 ≡ sets d1 (at + l) x
    → d3 ≡ sets d2 (at + (l + m)) y
    → d4 ≡ sets d3 (at + (l + m + n)) z
    → d4 ≡ sets b at (w ++ x ++ y ++ z)
put_four b at w x y z l m n {d2 = d2} {d3 = d3} p q r e1 e2 e3 e4 =
    let n2 : length (w ++ x) ≡ l + m = length-append w x ∙ rw (p, q) in
    let n3 : length (w ++ x ++ y) ≡ l + m + n = length-append (w ++ x) y ∙ rw (n2, r) in
    let f2 : d2 ≡ sets b at (w ++ x) = e2 ∙ rw e1 (sets_then b at w x (at + l) l p refl) in
    let f3 : d3 ≡ sets b at (w ++ x ++ y) = e3 ∙ rw f2 (sets_then b at (w ++ x) y (at + (l + m)) (l + m) n2 refl) in
    e4 ∙ rw f3 (sets_then b at (w ++ x ++ y) z (at + (l + m + n)) (l + m + n) n3 refl)

pub put_parts : (b : List ℕ) (at : ℕ) (c : Cpu) (r k : List ℕ) {d1 d2 d3 d4 : List ℕ}
    → d1 ≡ sets b at (eights r 32)
    → d2 ≡ sets d1 (at + 256) (eights (numbers_of c) 8)
    → d3 ≡ sets d2 (at + 320) (row (cell k) 0 32)
    → d4 ≡ sets d3 (at + 352) (last_of c)
    → d4 ≡ sets b at (encode (state_of c r k))
unfolding encode state_of cpu_of
put_parts b at c r k e1 e2 e3 e4 =
    put_four b at (eights r 32) (eights (numbers_of c) 8) (row (cell k) 0 32) (last_of c) 256 64 32 (length_eights r 32) (length_eights (numbers_of c) 8) (length_row (cell k) 0 32)
    e1 e2 e3 e4

-- a state is its numbers, registers and key
pub state_parts : (s : State) → state_of (cpu_of s) s.regs s.key ≡ s
unfolding state_of cpu_of
state_parts s = refl

-- a whole state into as many bytes
pub put_whole : (b : List ℕ) (s : State) {c : Cpu} {d : List ℕ} → length b ≡ 360 → c ≡ cpu_of s → d ≡ sets b 0 (encode (state_of c s.regs s.key)) → d ≡ encode s
put_whole b s h p e = e ∙ rw (p, state_parts s) (sets_whole b (encode s) (length_encode s ∙ sym h))

-- ---- what is read

pub row_is : (f : ℕ → ℕ) (a n : ℕ) (l : List ℕ) → length l ≡ n → ((i : ℕ) → i < n → cell l i ≡ f (a + i)) → l ≡ row f a n
row_is f a n l e h =
    ext_get_or 0 l (row f a n) (e ∙ sym (length_row f a n)) (λ i k. let j : i < n = rw e at k in h i j ∙ sym (cell_row f a n i j))

pub numbers_is : (b : List ℕ) (k n : ℕ) (l : List ℕ) → length l ≡ n → ((i : ℕ) → i < n → cell l i ≡ eight b (k + 8 * i)) → l ≡ numbers b k n
unfolding numbers
numbers_is b k n l e h = row_is (λ i. eight b (k + 8 * i)) 0 n l e (λ i j. rw zero-add (h i j))

-- one element more of an array that is filled
pub set_more : (l : List ℕ) (v : ℕ) (g : ℕ → ℕ) (i : ℕ) → i < length l → ((j : ℕ) → j < i → cell l j ≡ g j) → v ≡ g i → (j : ℕ) → j < i + 1 → cell (set l i v) j ≡ g j
set_more l v g i m h e j n = go (dec_lt j i)
  where
    go : Dec (j < i) → cell (set l i v) j ≡ g j
    go (yes k) = get_or-set_other l i j v 0 (omega arith) ∙ h j k
    go (no k) =
        let s : j ≡ i = omega arith in
        rw s (get_or-set_same l i v 0 m ∙ e)

pub key_copied : (b : List ℕ) (k : ℕ) (z : List ℕ) {d : List ℕ} → k + 32 ≤ length b → length z ≡ 32 → d ≡ copy_def b k z 0 32 → d ≡ row (cell b) k 32
key_copied b k z h l e = e ∙ copy_fits b k z 0 32 h (omega arith) ∙ sets_whole z (row (cell b) k 32) (length_row (cell b) k 32 ∙ sym l)

pub state_is : (b : List ℕ) (k : ℕ) {r key : List ℕ} {pc next hi lo heap step offset hint : ℕ} → k + 360 ≤ length b
    → r ≡ numbers b k 32
    → key ≡ row (cell b) (k + 320) 32
    → pc ≡ number_at 8 b (k + 256)
    → next ≡ number_at 8 b (k + 264)
    → hi ≡ number_at 8 b (k + 272)
    → lo ≡ number_at 8 b (k + 280)
    → heap ≡ number_at 8 b (k + 288)
    → step ≡ number_at 8 b (k + 296)
    → offset ≡ number_at 8 b (k + 304)
    → hint ≡ number_at 8 b (k + 312)
    → state_of (record { pc = pc; next = next; hi = hi; lo = lo; heap = heap; step = step; offset = offset; hint = hint; exited = eqb (cell b (k + 352)) 1; code = cell b (k + 353); rules = cell b (k + 354) }) r key ≡ decode_at b k
unfolding decode_at state_of
state_is b k h r key e1 e2 e3 e4 e5 e6 e7 e8 =
    let n : (i : ℕ) → i + 8 ≤ 360 → number_at 8 b (k + i) ≡ eight b (k + i) = λ i j. number_fits 8 b (k + i) (omega arith) in
    rw (r, key, e1 ∙ n 256 (omega arith), e2 ∙ n 264 (omega arith), e3 ∙ n 272 (omega arith), e4 ∙ n 280 (omega arith), e5 ∙ n 288 (omega arith), e6 ∙ n 296 (omega arith), e7 ∙ n 304 (omega arith), e8 ∙ n 312 (omega arith))

-- the form by its four tests
pub formed_is : (b : List ℕ) (k : ℕ) {e s r h : Bool} → leb (cell b (k + 352)) 1 ≡ e → eqb (big 5 (cell b) (k + 355)) 0 ≡ s → ltb largest_rules (cell b (k + 354)) ≡ r
    → ltb hint_room (eight b (k + 312)) ≡ h → (e && s && not (r || h)) ≡ formed_at b k
unfolding formed_at formless cpu_of decode_at
formed_is b k p q r h = rw (p, q, r, h)

big_five : (f : ℕ → ℕ) (a : ℕ) → big 5 f a ≡ big 4 f a * 256 + f (a + 4)
unfolding big
big_five f a = refl

pub spare_four : (f : ℕ → ℕ) (a : ℕ) → (big 4 f a ≡ 0 → ⊥) → eqb (big 5 f a) 0 ≡ false
spare_four f a h = ne_eqb _ _ (λ e. let g : big 4 f a * 256 + f (a + 4) ≡ 0 = sym (big_five f a) ∙ e in h (omega arith))

pub spare_last : (f : ℕ → ℕ) (a : ℕ) → (f (a + 4) ≡ 0 → ⊥) → eqb (big 5 f a) 0 ≡ false
spare_last f a h = ne_eqb _ _ (λ e. let g : big 4 f a * 256 + f (a + 4) ≡ 0 = sym (big_five f a) ∙ e in h (omega arith))

pub spare_none : (f : ℕ → ℕ) (a : ℕ) → big 4 f a ≡ 0 → f (a + 4) ≡ 0 → eqb (big 5 f a) 0 ≡ true
spare_none f a h g = eq-eqb _ _ (big_five f a ∙ rw (h, g))

pub at_most : (a l : ℕ) → leb a l ≡ not (ltb l a)
at_most a l = go (dec_lt l a)
  where
    go : Dec (l < a) → leb a l ≡ not (ltb l a)
    go (yes h) = lt-leb a l h ∙ rw (lt-ltb l a h)
    go (no h) = le-leb a l (omega arith) ∙ rw (le-ltb l a (omega arith))

-- the code's tests, in its order
module _ (b : List ℕ) (k : ℕ) where
  pub formed_exited : 1 < cell b (k + 352) → false ≡ formed_at b k
  formed_exited h = formed_is b k (lt-leb _ _ h) refl refl refl

  module _ (fits : k + 360 ≤ length b) (x : cell b (k + 352) ≤ 1) {w : ℕ} (e : w ≡ number_at 4 b (k + 355)) where
    spare : w ≡ big 4 (cell b) (k + 355)
    spare = e ∙ number_fits 4 b (k + 355) (omega arith)

    last : cell b (k + 355 + 4) ≡ cell b (k + 359)
    last = ap (cell b) (omega arith)

    pub formed_spare : (w ≡ 0 → ⊥) → false ≡ formed_at b k
    formed_spare h = formed_is b k (le-leb _ _ x) (spare_four (cell b) (k + 355) (λ g. h (spare ∙ g))) refl refl

    pub formed_last : (cell b (k + 359) ≡ 0 → ⊥) → false ≡ formed_at b k
    formed_last h = formed_is b k (le-leb _ _ x) (spare_last (cell b) (k + 355) (λ g. h (sym last ∙ g))) refl refl

    module _ (v : w ≡ 0) (z : cell b (k + 359) ≡ 0) where
      none : eqb (big 5 (cell b) (k + 355)) 0 ≡ true
      none = spare_none (cell b) (k + 355) (sym spare ∙ v) (last ∙ z)

      pub formed_rules : 1 < cell b (k + 354) → false ≡ formed_at b k
      formed_rules h = formed_is b k (le-leb _ _ x) none (lt-ltb _ _ h) refl

      pub formed_hint : {h : ℕ} → cell b (k + 354) ≤ 1 → h ≡ number_at 8 b (k + 312) → leb h 65536 ≡ formed_at b k
      formed_hint {h = h} r g = at_most h 65536 ∙ rw (g ∙ number_fits 8 b (k + 312) (omega arith)) (formed_is b k (le-leb _ _ x) none (le-ltb _ _ r) refl)

-- there is a state where the bytes are formed
pub some_formed : (b : Bool) (s : State) → is_some (cond b (Some s) None) ≡ b
some_formed true s = refl
some_formed false s = refl

module _ (b : List ℕ) where
  pub decode_other : (length b ≡ 360 → ⊥) → None ≡ decode_def b
  unfolding decode_def
  decode_other h = rw (ne_eqb _ _ h)

  pub decode_whole : length b ≡ 360 → decoded_at b 0 ≡ decode_def b
  unfolding decoded_at decode_def
  decode_whole h = rw h

  module _ (k : ℕ) where
    pub decoded_short : length b < k + 360 → None ≡ decoded_at b k
    unfolding decoded_at
    decoded_short h = rw (lt-leb _ _ h)

    pub decoded_valid : {f : Bool} {s : State} → k + 360 ≤ length b → f ≡ formed_at b k → f ≡ true → s ≡ decode_at b k → Some s ≡ decoded_at b k
    unfolding decoded_at
    decoded_valid h e t p = rw (le-leb _ _ h, ← e, t, p)

    pub decoded_none : {f : Bool} → k + 360 ≤ length b → f ≡ formed_at b k → f ≡ false → None ≡ decoded_at b k
    unfolding decoded_at
    decoded_none h e t = rw (le-leb _ _ h, ← e, t)
