-- A state's bytes and the state say the same: encode then decode, and decode then encode.
use Rattle.std.proofs.Common.{◌≡◌, ℕ, zero, suc, ◌+◌, ◌-◌, ◌*◌, ◌%◌, ◌^◌, ◌<◌, ◌≤◌, Bool, true, false, cond, ◌&&◌, eqb, List, [], ◌∷◌, ◌++◌, length, sym, refl, ap, ◌∙◌, add-zero, mod-eq_of_lt, zero-add, arith, length-append, ltb-false, le-ltb, eq-eqb, eqb-true, le-leb, leb-true, Some, None}
use native.Mathlib.Decide.{dec_lt}
use lib.ListN.{get_or-eq_default}
use Rattle.pages.specs.Bytes.{cell, row, zeros, big, bytes_of}
use Rattle.pages.proofs.Laws.Runs.{Bytes, length_row, cell_row, row_ext, row_bytes}
use Rattle.pages.proofs.Laws.Numbers.{big_ext, big_none, big_bytes, bytes_bytes}
use Rattle.pages.proofs.Laws.Places.{cell_left, cell_right, cell_past, big_left, big_past, bytes_big, big_bound, row_join, row_whole}
use Rattle.interpreter.specs.Machine.{reg, cpu_of, largest_rules, hint_room, formless}
use Rattle.interpreter.specs.Layout.{eights, flag, numbers_of, last_of, encode, eight, numbers, decode_at, formed_at, decode_def, Fits}
use Rattle.interpreter.specs.declared.state.State.{State}
use Rattle.interpreter.specs.declared.state.Cpu.{Cpu}
use Rattle.interpreter.proofs.Laws.Tests.{both, neither, off}
use Rattle.interpreter.proofs.Laws.Layout.{length_eights, length_encode, numbers_is, formed_is}

-- ---- where the bytes of four runs stand

module _ (w x y z : List ℕ) (l m n : ℕ) (p : length w ≡ l) (q : length x ≡ m) (r : length y ≡ n) where
  two : length (w ++ x) ≡ l + m
  two = length-append w x ∙ rw (p, q)

  three : length (w ++ x ++ y) ≡ l + m + n
  three = length-append (w ++ x) y ∙ rw (two, r)

  first_cell_of : (j : ℕ) → j < l → cell (w ++ x ++ y ++ z) j ≡ cell w j
  first_cell_of j h =
      cell_left (w ++ x ++ y) z j (rw three (omega arith)) ∙ cell_left (w ++ x) y j (rw two (omega arith)) ∙ cell_left w x j (rw p h)

  second_of : (j : ℕ) → j < m → cell (w ++ x ++ y ++ z) (l + j) ≡ cell x j
  second_of j h =
      cell_left (w ++ x ++ y) z (l + j) (rw three (omega arith)) ∙ cell_left (w ++ x) y (l + j) (rw two (omega arith)) ∙ cell_past w x l j p

  third_of : (j : ℕ) → j < n → cell (w ++ x ++ y ++ z) (l + m + j) ≡ cell y j
  third_of j h = cell_left (w ++ x ++ y) z (l + m + j) (rw three (omega arith)) ∙ cell_past (w ++ x) y (l + m) j two

  fourth_of : (j : ℕ) → cell (w ++ x ++ y ++ z) (l + m + n + j) ≡ cell z j
  fourth_of j = cell_past (w ++ x ++ y) z (l + m + n) j three

module _ (s : State) where
  part_regs : (j : ℕ) → j < 256 → cell (encode s) (0 + j) ≡ cell (eights s.regs 32) j
  unfolding encode
  part_regs j h =
      rw zero-add
      (first_cell_of (eights s.regs 32) (eights (numbers_of (cpu_of s)) 8) (row (cell s.key) 0 32) (last_of (cpu_of s)) 256 64 32 (length_eights s.regs 32) (length_eights (numbers_of (cpu_of s)) 8) (length_row (cell s.key) 0 32) j h)

  part_numbers : (j : ℕ) → j < 64 → cell (encode s) (256 + j) ≡ cell (eights (numbers_of (cpu_of s)) 8) j
  unfolding encode
  part_numbers j h =
      second_of (eights s.regs 32) (eights (numbers_of (cpu_of s)) 8) (row (cell s.key) 0 32) (last_of (cpu_of s)) 256 64 32 (length_eights s.regs 32) (length_eights (numbers_of (cpu_of s)) 8) (length_row (cell s.key) 0 32) j h

  part_key : (j : ℕ) → j < 32 → cell (encode s) (320 + j) ≡ cell (row (cell s.key) 0 32) j
  unfolding encode
  part_key j h =
      third_of (eights s.regs 32) (eights (numbers_of (cpu_of s)) 8) (row (cell s.key) 0 32) (last_of (cpu_of s)) 256 64 32 (length_eights s.regs 32) (length_eights (numbers_of (cpu_of s)) 8) (length_row (cell s.key) 0 32) j h

  part_last : (j : ℕ) → cell (encode s) (352 + j) ≡ cell (last_of (cpu_of s)) j
  unfolding encode
  part_last j =
      fourth_of (eights s.regs 32) (eights (numbers_of (cpu_of s)) 8) (row (cell s.key) 0 32) (last_of (cpu_of s)) 256 64 32 (length_eights s.regs 32) (length_eights (numbers_of (cpu_of s)) 8) (length_row (cell s.key) 0 32) j

-- ---- numbers read back

eight_eights : (r : List ℕ) (n i : ℕ) → i < n → eight (eights r n) (8 * i) ≡ reg r i % 2 ^ 64
unfolding eights
eight_eights r zero i h = absurd (omega arith)
eight_eights r (suc n) i h = go (dec_lt i n) (eight_eights r n i)
  where
    front : List ℕ
    front = eights r n

    go : Dec (i < n) → (i < n → eight front (8 * i) ≡ reg r i % 2 ^ 64) → eight (front ++ bytes_of 8 (reg r n)) (8 * i) ≡ reg r i % 2 ^ 64
    go (yes l) ih = big_left 8 front (bytes_of 8 (reg r n)) (8 * i) (rw (length_eights r n) (omega arith)) ∙ ih l
    go (no l) ih =
        let e : i ≡ n = omega arith in
        rw e (rw add-zero at (big_past 8 front (bytes_of 8 (reg r n)) (8 * n) 0 (length_eights r n)) ∙ big_bytes 8 (reg r n))

-- of bytes b that have the numbers r from byte k on
module _ (b r : List ℕ) (k n : ℕ) (h : (j : ℕ) → j < 8 * n → cell b (k + j) ≡ cell (eights r n) j) where
  eight_at : (i : ℕ) → i < n → reg r i < 2 ^ 64 → eight b (k + 8 * i) ≡ reg r i
  eight_at i l small =
      big_ext 8 (cell b) (cell (eights r n)) (k + 8 * i) (8 * i) (λ j m. let e : k + 8 * i + j ≡ k + (8 * i + j) = omega arith in rw e (h (8 * i + j) (omega arith)))
      ∙ eight_eights r n i l
      ∙ mod-eq_of_lt small

  numbers_at : length r ≡ n → ((i : ℕ) → reg r i < 2 ^ 64) → numbers b k n ≡ r
  numbers_at e small = sym (numbers_is b k n r e (λ i l. sym (eight_at i l (small i))))

flag_back : (b : Bool) → eqb (flag b) 1 ≡ b
flag_back true = refl
flag_back false = refl

flag_small : (b : Bool) → flag b ≤ 1
flag_small true = omega arith
flag_small false = omega arith

-- ---- encode, then decode

module _ (s : State) (f : Fits s) where
  number : (i : ℕ) → i < 8 → reg (numbers_of (cpu_of s)) i < 2 ^ 64 → eight (encode s) (256 + 8 * i) ≡ reg (numbers_of (cpu_of s)) i
  number i = eight_at (encode s) (numbers_of (cpu_of s)) 256 8 (part_numbers s) i

  key_back : row (cell (encode s)) 320 32 ≡ s.key
  key_back =
      row_ext 32 (cell (encode s)) (cell s.key) 320 0
      (λ j h. part_key s j h ∙ cell_row (cell s.key) 0 32 j h)
      ∙ row_whole s.key 32 f.typed.key

  hint_back : eight (encode s) 312 ≡ s.hint
  unfolding numbers_of cpu_of
  hint_back = number 7 (omega arith) (omega (arith, f.hint))

  pub decoded_back : decode_at (encode s) 0 ≡ s
  unfolding decode_at numbers_of cpu_of last_of
  decoded_back =
      rw (
        numbers_at (encode s) s.regs 0 32 (part_regs s) f.typed.regs f.typed.values,
        number 0 (omega arith) f.typed.pc,
        number 1 (omega arith) f.typed.next,
        number 2 (omega arith) f.typed.hi,
        number 3 (omega arith) f.typed.lo,
        number 4 (omega arith) f.typed.heap,
        number 5 (omega arith) f.typed.step,
        number 6 (omega arith) f.typed.offset,
        hint_back,
        key_back,
        part_last s 0,
        part_last s 1,
        part_last s 2,
        flag_back s.exited,
      )

  pub formed_back : formed_at (encode s) 0 ≡ true
  unfolding last_of cpu_of
  formed_back =
      sym
      (formed_is (encode s) 0 {e = true} {s = true} {r = false} {h = false}
      (rw (part_last s 0) (le-leb _ _ (flag_small s.exited)))
      (eq-eqb _ _ (big_none 5 (cell (encode s)) 355 spare))
      (rw (part_last s 2) (le-ltb _ _ f.rules))
      (rw hint_back (le-ltb _ _ f.hint)))
    where
      spare : (k : ℕ) → k < 5 → cell (encode s) (355 + k) ≡ 0
      spare k h =
          let e : 355 + k ≡ 352 + (3 + k) = omega arith in
          rw e (part_last s (3 + k) ∙ cell_past (flag s.exited ∷ s.code ∷ s.rules ∷ []) (zeros 5) 3 k refl ∙ cell_row (λ _. 0) 0 5 k h)

  pub decode_encode : decode_def (encode s) ≡ Some s
  unfolding decode_def
  decode_encode = rw (eq-eqb _ _ (length_encode s), formed_back, decoded_back)

-- ---- decode, then encode

-- what a formed state's bytes say
pub record Formed (b : List ℕ) (k : ℕ) : Type 0 where
  pub exited : cell b (k + 352) ≤ 1
  pub spare : big 5 (cell b) (k + 355) ≡ 0
  pub rules : cell b (k + 354) ≤ largest_rules
  pub hint : eight b (k + 312) ≤ hint_room

pub formed_out : (b : List ℕ) (k : ℕ) → formed_at b k ≡ true → Formed b k
unfolding formed_at formless cpu_of decode_at
formed_out b k e =
    let p = both e in
    let q = both p.0 in
    let r = neither (off _ p.1) in
    record { exited = leb-true _ _ q.0; spare = eqb-true _ _ q.1; rules = ltb-false _ _ r.0; hint = ltb-false _ _ r.1 }

some_out : (t : Bool) (x s : State) → cond t (Some x) None ≡ Some s → (t ≡ true) × (x ≡ s)
some_out true x s e = (refl, (cc))
some_out false x s e = ((cc), (cc))

pub record Out (b : List ℕ) (s : State) : Type 0 where
  pub long : length b ≡ 360
  pub formed : Formed b 0
  pub state : decode_at b 0 ≡ s

pub decode_out : (b : List ℕ) (s : State) → decode_def b ≡ Some s → Out b s
unfolding decode_def
decode_out b s e =
    let p = some_out (eqb (length b) 360 && formed_at b 0) (decode_at b 0) s e in
    let q = both p.0 in
    record { long = eqb-true _ _ q.0; formed = formed_out b 0 q.1; state = p.1 }

-- numbers that were read, written back
row_none : (f : ℕ → ℕ) (a : ℕ) → row f a 0 ≡ []
unfolding row
row_none f a = refl

eights_row : (b r : List ℕ) (k n : ℕ) → Bytes b → ((i : ℕ) → i < n → reg r i ≡ eight b (k + 8 * i)) → eights r n ≡ row (cell b) k (8 * n)
unfolding eights
eights_row b r k zero small h = sym (row_none (cell b) k)
eights_row b r k (suc n) small h =
    let e : 8 * suc n ≡ 8 * n + 8 = omega arith in
    let v : reg r n ≡ eight b (k + 8 * n) = h n (omega arith) in
    rw (e, row_join (cell b) k (8 * n) 8, eights_row b r k n small (λ i l. h i (omega arith)), v, bytes_big 8 (cell b) (k + 8 * n) (λ i l. small (k + 8 * n + i)))

pub number_read : (b : List ℕ) (k n i : ℕ) → i < n → reg (numbers b k n) i ≡ eight b (k + 8 * i)
unfolding numbers
number_read b k n i h = cell_row (λ i. eight b (k + 8 * i)) 0 n i h ∙ rw zero-add

eights_numbers : (b : List ℕ) (k n : ℕ) → Bytes b → eights (numbers b k n) n ≡ row (cell b) k (8 * n)
eights_numbers b k n small = eights_row b (numbers b k n) k n small (number_read b k n)

numbers_same : (b : List ℕ) → numbers_of (cpu_of (decode_at b 0)) ≡ numbers b 256 8
unfolding numbers_of cpu_of decode_at numbers row
numbers_same b = refl

flag_forth : (x : ℕ) → x ≤ 1 → flag (eqb x 1) ≡ x
flag_forth zero h = refl
flag_forth (suc zero) h = refl
flag_forth (suc (suc x)) h = absurd (omega arith)

spares : (b : List ℕ) → big 5 (cell b) 355 ≡ 0 → (cell b 355 ≡ 0) × (cell b 356 ≡ 0) × (cell b 357 ≡ 0) × (cell b 358 ≡ 0) × (cell b 359 ≡ 0)
unfolding big
spares b e = omega arith

last_forth : (b : List ℕ) → Formed b 0 → last_of (cpu_of (decode_at b 0)) ≡ row (cell b) 352 8
unfolding last_of cpu_of decode_at row
last_forth b f =
    let z = spares b f.spare in
    rw (flag_forth (cell b 352) f.exited, z.0, z.1, z.2, z.3, z.4)

regs_forth : (b : List ℕ) → Bytes b → eights (decode_at b 0).regs 32 ≡ row (cell b) 0 256
unfolding decode_at
regs_forth b small = eights_numbers b 0 32 small

key_forth : (b : List ℕ) → row (cell (decode_at b 0).key) 0 32 ≡ row (cell b) 320 32
unfolding decode_at
key_forth b = row_whole (row (cell b) 320 32) 32 (length_row (cell b) 320 32)

parts_forth : (b : List ℕ) → Bytes b → Formed b 0 → encode (decode_at b 0) ≡ row (cell b) 0 256 ++ row (cell b) 256 64 ++ row (cell b) 320 32 ++ row (cell b) 352 8
unfolding encode
parts_forth b small f = rw (numbers_same b, last_forth b f, eights_numbers b 256 8 small, regs_forth b small, key_forth b)

pub encoded_forth : (b : List ℕ) → Bytes b → length b ≡ 360 → Formed b 0 → encode (decode_at b 0) ≡ b
encoded_forth b small e f =
    parts_forth b small f ∙ rw (← row_join (cell b) 0 256 64, ← row_join (cell b) 0 320 32, ← row_join (cell b) 0 352 8) (row_whole b 360 e)

pub encode_decode : (b : List ℕ) → Bytes b → (s : State) → decode_def b ≡ Some s → encode s ≡ b
encode_decode b small s e =
    let o = decode_out b s e in
    ap encode (sym o.state) ∙ encoded_forth b small o.long o.formed

pub length_numbers : (b : List ℕ) (k n : ℕ) → length (numbers b k n) ≡ n
unfolding numbers
length_numbers b k n = length_row _ 0 n

-- a decoded state fits
pub fits_decoded : (b : List ℕ) → Bytes b → Formed b 0 → Fits (decode_at b 0)
unfolding decode_at
fits_decoded b small f =
    record {
      typed =
          record {
            regs = length_numbers b 0 32;
            values = values;
            pc = bound 256;
            next = bound 264;
            hi = bound 272;
            lo = bound 280;
            heap = bound 288;
            step = bound 296;
            offset = bound 304;
            key = length_row (cell b) 320 32;
            bytes = row_bytes (cell b) 320 32 small;
            code = small 353;
          };
      hint = f.hint;
      rules = f.rules;
    }
  where
    bound : (a : ℕ) → eight b a < 2 ^ 64
    bound a = big_bound 8 (cell b) a (λ k l. small (a + k))

    values : (i : ℕ) → reg (numbers b 0 32) i < 2 ^ 64
    values i = go (dec_lt i 32)
      where
        go : Dec (i < 32) → reg (numbers b 0 32) i < 2 ^ 64
        go (yes l) = rw (number_read b 0 32 i l) (bound (0 + 8 * i))
        go (no l) = rw (get_or-eq_default (numbers b 0 32) 0 {n = i} (rw (length_numbers b 0 32) (omega arith))) (omega arith)

-- ---- a state's bytes are bytes

pub append_bytes : (xs ys : List ℕ) → Bytes xs → Bytes ys → Bytes (xs ++ ys)
append_bytes xs ys g h k = go (dec_lt k (length xs))
  where
    go : Dec (k < length xs) → cell (xs ++ ys) k < 256
    go (yes l) = rw (cell_left xs ys k l) (g k)
    go (no l) =
        let e : k ≡ length xs + (k - length xs) = omega arith in
        rw (e, cell_right xs ys (k - length xs)) (h (k - length xs))

eights_bytes : (r : List ℕ) (n : ℕ) → Bytes (eights r n)
unfolding eights
eights_bytes r zero k = omega arith
eights_bytes r (suc n) k = append_bytes (eights r n) (bytes_of 8 (reg r n)) (eights_bytes r n) (bytes_bytes 8 (reg r n)) k

last_bytes : (c : Cpu) → c.code < 256 → c.rules < 256 → Bytes (last_of c)
unfolding last_of
last_bytes c g h zero = let l = flag_small c.exited in omega arith
last_bytes c g h (suc zero) = g
last_bytes c g h (suc (suc zero)) = h
last_bytes c g h (suc (suc (suc k))) = row_bytes (λ _. 0) 0 5 (λ i. omega arith) k

tail : (s : State) → Fits s → Bytes (last_of (cpu_of s))
unfolding cpu_of
tail s f = last_bytes (cpu_of s) f.typed.code (omega (arith, f.rules))

pub encode_bytes : (s : State) → Fits s → Bytes (encode s)
unfolding encode
encode_bytes s f =
    append_bytes (eights s.regs 32 ++ eights (numbers_of (cpu_of s)) 8 ++ row (cell s.key) 0 32) (last_of (cpu_of s))
    (append_bytes (eights s.regs 32 ++ eights (numbers_of (cpu_of s)) 8) (row (cell s.key) 0 32)
    (append_bytes (eights s.regs 32) (eights (numbers_of (cpu_of s)) 8) (eights_bytes s.regs 32) (eights_bytes (numbers_of (cpu_of s)) 8))
    (row_bytes (cell s.key) 0 32 f.typed.bytes))
    (tail s f)

-- ---- what is decoded at a place goes by its 360 bytes

module _ (b c : List ℕ) (k l : ℕ) (h : (j : ℕ) → j < 360 → cell b (k + j) ≡ cell c (l + j)) where
  big_same : (n i : ℕ) → i + n ≤ 360 → big n (cell b) (k + i) ≡ big n (cell c) (l + i)
  big_same n i m =
      big_ext n (cell b) (cell c) (k + i) (l + i)
      (λ j q.
      let e : k + i + j ≡ k + (i + j) = omega arith in
      let g : l + i + j ≡ l + (i + j) = omega arith in
      rw (e, g) (h (i + j) (omega arith)))

  numbers_same_at : numbers b k 32 ≡ numbers c l 32
  unfolding numbers
  numbers_same_at = row_ext 32 (λ i. eight b (k + 8 * i)) (λ i. eight c (l + 8 * i)) 0 0 (λ i q. big_same 8 (8 * (0 + i)) (omega arith))

  key_same_at : row (cell b) (k + 320) 32 ≡ row (cell c) (l + 320) 32
  key_same_at =
      row_ext 32 (cell b) (cell c) (k + 320) (l + 320)
      (λ j q.
      let e : k + 320 + j ≡ k + (320 + j) = omega arith in
      let g : l + 320 + j ≡ l + (320 + j) = omega arith in
      rw (e, g) (h (320 + j) (omega arith)))

  pub decode_ext : decode_at b k ≡ decode_at c l
  unfolding decode_at
  decode_ext =
      rw (numbers_same_at, big_same 8 256 (omega arith), big_same 8 264 (omega arith), big_same 8 272 (omega arith), big_same 8 280 (omega arith), big_same 8 288 (omega arith), big_same 8 296 (omega arith), big_same 8 304 (omega arith), big_same 8 312 (omega arith), key_same_at, h 352 (omega arith), h 353 (omega arith), h 354 (omega arith))

  pub formed_ext : formed_at b k ≡ formed_at c l
  unfolding formed_at
  formed_ext = rw (h 352 (omega arith), big_same 5 355 (omega arith), decode_ext)

-- a state's bytes at a place decode to it
pub at_encode : (b : List ℕ) (k : ℕ) (s : State) → Fits s → ((j : ℕ) → j < 360 → cell b (k + j) ≡ cell (encode s) j) → (decode_at b k ≡ s) × (formed_at b k ≡ true)
at_encode b k s f h =
    let g : (j : ℕ) → j < 360 → cell b (k + j) ≡ cell (encode s) (0 + j) = λ j l. rw zero-add (h j l) in
    (decode_ext b (encode s) k 0 g ∙ decoded_back s f, formed_ext b (encode s) k 0 g ∙ formed_back s f)
