-- What a store means: the memory that the records are, with the bytes written.
use Rattle.std.proofs.Common.{◌≡◌, ℕ, ◌+◌, ◌-◌, ◌*◌, ◌/◌, ◌%◌, ◌^◌, ◌<◌, ◌≤◌, Bool, true, false, cond, eqb, ltb, leb, List, length, sym, refl, ap, ◌∙◌, mod-eq_of_lt, zero-add, add-one, arith, le-ltb, lt-ltb, eq-eqb, le-leb, Option, Some, None, Result, Ok, Err}
use mathlib.Core.Path.{fun_ext}
use native.Mathlib.Decide.{ℕ_discrete}
use lib.Seq.{sets, length-sets}
use borrow.Author.Tests.{lt-leb}
use Rattle.pages.specs.Bytes.{cell, row, big, bytes_of, zeros}
use Rattle.pages.specs.Memory.{Memory, write, span}
use Rattle.pages.specs.Pages.{whole, number_of, first_record, lookup, byte_in, byte_at, open_page}
use Rattle.pages.specs.Calls.{Set, stored, store_def, set_def, get_def}
use Rattle.pages.specs.declared.page.PageError.{PageError}
use Rattle.pages.specs.declared.memory.StoreError.{StoreError}
use Rattle.pages.proofs.Laws.Runs.{Where, below, above, among, where_is, sets_below, sets_above, sets_among, length_row, cell_row, Bytes}
use Rattle.pages.proofs.Laws.Numbers.{big_ext, length_bytes, big_bytes}
use Rattle.pages.proofs.Laws.Lookups.{lookup_in, found_at, first_record_ext, lookup_ext, first_snoc, or_else}
use Rattle.pages.proofs.Laws.Stores.{length_open, store_cases, set_stored, used_same, used_refused}

record_same : {k i : ℕ} → ◌≡◌ {A = Result (Option ℕ) PageError} (Ok (Some k)) (Ok (Some i)) → k ≡ i
record_same e = cc

none_same : {f : Option ℕ} → ◌≡◌ {A = Result (Option ℕ) PageError} (Ok f) (Ok None) → f ≡ None
none_same e = cc

absent_not : {i : ℕ} → ◌≡◌ {A = Result (Option ℕ) PageError} (Ok None) (Ok (Some i)) → ⊥
absent_not e = let z : ◌≡◌ {A = ℕ} 0 1 = cc in omega arith

over_not : {i : ℕ} {x : PageError} → ◌≡◌ {A = Result (Option ℕ) PageError} (Err x) (Ok (Some i)) → ⊥
over_not e = let z : ◌≡◌ {A = ℕ} 0 1 = cc in omega arith

abbrev pages_of : Set → List ℕ
pages_of s = s.pages

abbrev answer_of : Set → Result ℕ StoreError
answer_of s = s.answer

-- ---- a memory with bytes written

module _ (m : Memory) (a : ℕ) (vs : List ℕ) (b : ℕ) where
  pub write_below : b < a → write m a vs b ≡ m b
  unfolding write
  write_below h = rw (lt-leb _ _ h)

  pub write_above : a + length vs ≤ b → write m a vs b ≡ m b
  unfolding write
  write_above h =
      let k : a ≤ b = omega arith in
      let l : length vs ≤ b - a = omega arith in
      rw (le-leb _ _ k, le-ltb _ _ l)

  pub write_among : a ≤ b → b < a + length vs → write m a vs b ≡ cell vs (b - a)
  unfolding write
  write_among k h =
      let l : b - a < length vs = omega arith in
      rw (le-leb _ _ k, lt-ltb _ _ l)

-- bytes written into bytes
pub write_lt : (m : Memory) (a : ℕ) (vs : List ℕ) → ((b : ℕ) → m b < 256) → Bytes vs → (b : ℕ) → write m a vs b < 256
unfolding write
write_lt m a vs h g b = go (leb a b) (ltb (b - a) (length vs))
  where
    go : (x y : Bool) → cond x (cond y (cell vs (b - a)) (m b)) (m b) < 256
    go true true = g (b - a)
    go true false = h b
    go false y = h b

-- what is written is n bytes long
module _ (m : Memory) (a : ℕ) (vs : List ℕ) (n : ℕ) (long : length vs ≡ n) where
  -- every other byte stays
  pub write_outside : (b : ℕ) → (a ≤ b → b < a + n → ⊥) → write m a vs b ≡ m b
  write_outside b h = go (where_is a n b)
    where
      go : Where a n b → write m a vs b ≡ m b
      go (below l) = write_below m a vs b l
      go (above l) = write_above m a vs b (rw long l)
      go (among l g) = absurd (h l g)

  -- the number that they are is read there
  pub write_number : big n (write m a vs) a ≡ big n (cell vs) 0
  write_number =
      big_ext n (write m a vs) (cell vs) a 0 (λ k l. write_among m a vs (a + k) (omega arith) (rw long (omega arith)) ∙ ap (cell vs) (omega arith))

-- ---- a store in the body of a record

-- no number changes
module _ (p : List ℕ) (i o : ℕ) (vs : List ℕ) (fits : o + length vs ≤ 4096) where
  number_body : (k : ℕ) → number_of (sets p (i * 4104 + 8 + o) vs) k ≡ number_of p k
  unfolding number_of
  number_body k = big_ext 8 _ _ (k * 4104) (k * 4104) (λ m h. go m h (where_is (i * 4104 + 8 + o) (length vs) (k * 4104 + m)))
    where
      go : (m : ℕ) → m < 8 → Where (i * 4104 + 8 + o) (length vs) (k * 4104 + m) → cell (sets p (i * 4104 + 8 + o) vs) (k * 4104 + m) ≡ cell p (k * 4104 + m)
      go m h (below b) = sets_below p (i * 4104 + 8 + o) vs (k * 4104 + m) b
      go m h (above b) = sets_above p (i * 4104 + 8 + o) vs (k * 4104 + m) b
      go m h (among b c) = absurd (omega arith)

module _ (p : List ℕ) (used i a : ℕ) (vs : List ℕ) (fits : a % 4096 + length vs ≤ 4096) (found : lookup p used (a / 4096) ≡ Ok (Some i)) where
  pub lookup_body : (x : ℕ) → lookup (sets p (i * 4104 + 8 + a % 4096) vs) used x ≡ lookup p used x
  lookup_body x =
      lookup_ext p (sets p (i * 4104 + 8 + a % 4096) vs) used x (length-sets p (i * 4104 + 8 + a % 4096) vs) (λ k h. number_body p i (a % 4096) vs fits k)

  pub means_held : (b : ℕ) → byte_at (sets p (i * 4104 + 8 + a % 4096) vs) used b ≡ write (byte_at p used) a vs b
  unfolding byte_at
  means_held b = rw lookup_body (go (lookup p used (b / 4096)) refl)
    where
      base : ℕ
      base = i * 4104 + 8 + a % 4096

      q : List ℕ
      q = sets p base vs

      -- a byte of another page is not among the bytes written
      other : (b / 4096 ≡ a / 4096 → ⊥) → write (byte_at p used) a vs b ≡ byte_at p used b
      other n = write_outside (byte_at p used) a vs (length vs) refl b (λ k m. n (omega arith))

      room : base + length vs ≤ length p
      room = let r = found_at p used (a / 4096) i found in omega arith

      same : (k : ℕ) → k ≡ i → b / 4096 ≡ a / 4096 → lookup p used (b / 4096) ≡ Ok (Some k) → Where a (length vs) b
          → cell q (k * 4104 + 8 + b % 4096) ≡ write (byte_at p used) a vs b
      same k d s e (below h) =
          sets_below p base vs (k * 4104 + 8 + b % 4096) (omega arith) ∙ sym (write_below (byte_at p used) a vs b h ∙ ap (byte_in p (b % 4096)) e)
      same k d s e (above h) =
          sets_above p base vs (k * 4104 + 8 + b % 4096) (omega arith) ∙ sym (write_above (byte_at p used) a vs b h ∙ ap (byte_in p (b % 4096)) e)
      same k d s e (among h m) =
          let j : k * 4104 + 8 + b % 4096 ≡ base + (b - a) = omega arith in
          ap (cell q) j ∙ sets_among p base vs (b - a) room (omega arith) ∙ sym (write_among (byte_at p used) a vs b h m)

      apart : (k : ℕ) → (k ≡ i → ⊥) → Where base (length vs) (k * 4104 + 8 + b % 4096) → cell q (k * 4104 + 8 + b % 4096) ≡ cell p (k * 4104 + 8 + b % 4096)
      apart k d (below h) = sets_below p base vs (k * 4104 + 8 + b % 4096) h
      apart k d (above h) = sets_above p base vs (k * 4104 + 8 + b % 4096) h
      apart k d (among h m) = absurd (d (omega arith))

      by_record : (k : ℕ) → lookup p used (b / 4096) ≡ Ok (Some k) → Dec (k ≡ i) → cell q (k * 4104 + 8 + b % 4096) ≡ write (byte_at p used) a vs b
      by_record k e (yes d) =
          let s : b / 4096 ≡ a / 4096 = sym (found_at p used (b / 4096) k e).2 ∙ ap (number_of p) d ∙ (found_at p used (a / 4096) i found).2 in
          same k d s e (where_is a (length vs) b)
      by_record k e (no d) =
          let n : b / 4096 ≡ a / 4096 → ⊥ = λ s. d (record_same (sym e ∙ ap (lookup p used) s ∙ found)) in
          apart k d (where_is base (length vs) (k * 4104 + 8 + b % 4096)) ∙ sym (other n ∙ ap (byte_in p (b % 4096)) e)

      -- where b's page is not held, a's is another
      none : (f : Result (Option ℕ) PageError) → lookup p used (b / 4096) ≡ f → (f ≡ Ok (Some i) → ⊥) → byte_at p used b ≡ write (byte_at p used) a vs b
      none f e h = sym (other (λ s. h (sym e ∙ ap (lookup p used) s ∙ found)))

      go : (f : Result (Option ℕ) PageError) → lookup p used (b / 4096) ≡ f → byte_in q (b % 4096) f ≡ write (byte_at p used) a vs b
      go (Ok (Some k)) e = by_record k e (ℕ_discrete k i)
      go (Ok None) e = ap (byte_in p (b % 4096)) (sym e) ∙ none (Ok None) e absent_not
      go (Err x) e = ap (byte_in p (b % 4096)) (sym e) ∙ none (Err x) e over_not

-- ---- a page that is opened: its number is found, and the memory is as it was

module _ (p : List ℕ) (used x : ℕ) (small : x < 2 ^ 64) (next : used < whole p) where
  -- what stands before it is as it was
  open_before : (j : ℕ) → j < used * 4104 → cell (open_page p used x) j ≡ cell p j
  unfolding open_page
  open_before j h =
      sets_below (sets p (used * 4104) (bytes_of 8 x)) (used * 4104 + 8) (zeros 4096) j (omega arith) ∙ sets_below p (used * 4104) (bytes_of 8 x) j h

  number_before : (k : ℕ) → k < used → number_of (open_page p used x) k ≡ number_of p k
  unfolding number_of
  number_before k h = big_ext 8 _ _ (k * 4104) (k * 4104) (λ m l. open_before (k * 4104 + m) (omega arith))

  number_opened : number_of (open_page p used x) used ≡ x
  unfolding number_of open_page
  number_opened =
      big_ext 8 _ (cell (bytes_of 8 x)) (used * 4104) 0
      (λ m l.
      sets_below (sets p (used * 4104) (bytes_of 8 x)) (used * 4104 + 8) (zeros 4096) (used * 4104 + m) (omega arith)
      ∙ sets_among p (used * 4104) (bytes_of 8 x) m (rw length_bytes (omega arith)) (rw length_bytes l)
      ∙ ap (cell (bytes_of 8 x)) (sym (zero-add m)))
      ∙ big_bytes 8 x ∙ mod-eq_of_lt small

  opened_zero : (o : ℕ) → o < 4096 → cell (open_page p used x) (used * 4104 + 8 + o) ≡ 0
  unfolding open_page
  opened_zero o h =
      sets_among (sets p (used * 4104) (bytes_of 8 x)) (used * 4104 + 8) (zeros 4096) o (rw (length_row, length-sets) (omega arith)) (rw length_row h)
      ∙ cell_row (λ _. 0) 0 4096 o h

  open_lookup : (y : ℕ) → lookup (open_page p used x) (used + 1) y ≡ Ok (or_else (first_record p y used 0) (cond (eqb x y) (Some used) None))
  open_lookup y =
      let q = open_page p used x in
      let r : used + 1 ≤ whole q = rw (length_open p used x) (omega arith) in
      rw
      (lookup_in q (used + 1) y r, add-one, first_snoc q y used 0, zero-add, number_opened, first_record_ext p q y used 0 (λ k h. number_before k (omega arith)))

  open_found : lookup p used x ≡ Ok None → lookup (open_page p used x) (used + 1) x ≡ Ok (Some used)
  open_found e =
      let f : first_record p x used 0 ≡ None = none_same (sym (lookup_in p used x (omega arith)) ∙ e) in
      open_lookup x ∙ rw (f, eq-eqb x x refl)

  means_open : (b : ℕ) → byte_at (open_page p used x) (used + 1) b ≡ byte_at p used b
  unfolding byte_at
  means_open b =
      let l : lookup p used (b / 4096) ≡ Ok (first_record p (b / 4096) used 0) = lookup_in p used (b / 4096) (omega arith) in
      rw (open_lookup, l) (go (first_record p (b / 4096) used 0) l (eqb x (b / 4096)))
    where
      go : (f : Option ℕ) → lookup p used (b / 4096) ≡ Ok f → (t : Bool)
          → byte_in (open_page p used x) (b % 4096) (Ok (or_else f (cond t (Some used) None))) ≡ byte_in p (b % 4096) (Ok f)
      go (Some j) e t = let r = found_at p used (b / 4096) j e in open_before (j * 4104 + 8 + b % 4096) (omega arith)
      go None e true = opened_zero (b % 4096) (omega arith)
      go None e false = refl

-- ---- the law of stores

-- after a store the memory is the old one with just these bytes written, whether the page was held or opened
pub store_means : (p : List ℕ) (used a u : ℕ) (vs q : List ℕ) → a % 4096 + length vs ≤ 4096 → a < 2 ^ 64 → store_def p used a vs ≡ stored (Ok u) q
    → (b : ℕ) → byte_at q u b ≡ write (byte_at p used) a vs b
store_means p used a u vs q fits small s b =
    store_cases p used a vs (λ t. t ≡ stored (Ok u) q → byte_at q u b ≡ write (byte_at p used) a vs b)
    (λ i e t. rw (← ap pages_of t, ← used_same (ap answer_of t)) (means_held p used i a vs fits e b))
    (λ e h t.
    let o = open_page p used (a / 4096) in
    let m : byte_at o (used + 1) ≡ byte_at p used = fun_ext (means_open p used (a / 4096) (omega arith) h) in
    rw (← ap pages_of t, ← used_same (ap answer_of t)) (means_held o (used + 1) used a vs fits (open_found p used (a / 4096) (omega arith) h e) b ∙ rw m))
    (λ e h t. absurd (used_refused (ap answer_of t)))
    (λ x e t. absurd (used_refused (ap answer_of t)))
    s

-- the same of set_word and set_doubleword
pub set_means : (n : ℕ) (p : List ℕ) (used a v u : ℕ) (q : List ℕ) → a % 4096 + n ≤ 4096 → a < 2 ^ 64 → set_def n p used a v ≡ stored (Ok u) q
    → (b : ℕ) → byte_at q u b ≡ write (byte_at p used) a (bytes_of n v) b
set_means n p used a v u q fits small s =
    let e = length_bytes n v in store_means p used a u (bytes_of n v) q (omega arith) small (set_stored n p used a v s).1

-- ---- what is loaded and what is read

pub byte_small : (p : List ℕ) (used : ℕ) → Bytes p → (a : ℕ) → byte_at p used a < 256
unfolding byte_at
byte_small p used h a = go (lookup p used (a / 4096))
  where
    go : (f : Result (Option ℕ) PageError) → byte_in p (a % 4096) f < 256
    go (Ok (Some i)) = h (i * 4104 + 8 + a % 4096)
    go (Ok None) = omega arith
    go (Err x) = omega arith

-- a load gives the bytes of the memory
pub get_means : (n : ℕ) (p : List ℕ) (used a : ℕ) → a % n ≡ 0 → used ≤ whole p → get_def n p used a ≡ Ok (big n (byte_at p used) a)
unfolding get_def
get_means n p used a h l = rw (eq-eqb _ _ h, le-ltb _ _ l)

-- what was stored is loaded
pub load_back : (n : ℕ) (p : List ℕ) (used a v u : ℕ) (q : List ℕ) → a % 4096 + n ≤ 4096 → a < 2 ^ 64 → set_def n p used a v ≡ stored (Ok u) q
    → big n (byte_at q u) a ≡ v % 256 ^ n
load_back n p used a v u q fits small s =
    big_ext n (byte_at q u) (write (byte_at p used) a (bytes_of n v)) a a (λ k h. set_means n p used a v u q fits small s (a + k))
    ∙ write_number (byte_at p used) a (bytes_of n v) n (length_bytes n v)
    ∙ big_bytes n v

-- the reader gives byte i of the memory at address + i modulo 2^64
pub read_means : (m : Memory) (a n : ℕ) (b : List ℕ) → n ≤ length b → (i : ℕ) → i < n → cell (sets b 0 (span m a n)) i ≡ m ((a + i) % 2 ^ 64)
unfolding span
read_means m a n b fits i h =
    let g : ℕ → ℕ = λ c. m (c % 2 ^ 64) in
    let l = length_row g a n in
    ap (cell (sets b 0 (row g a n))) (sym (zero-add i)) ∙ sets_among b 0 (row g a n) i (omega arith) (omega arith) ∙ cell_row g a n i h

-- and leaves what is behind them
pub read_leaves : (m : Memory) (a n : ℕ) (b : List ℕ) (i : ℕ) → n ≤ i → cell (sets b 0 (span m a n)) i ≡ cell b i
unfolding span
read_leaves m a n b i h =
    let g : ℕ → ℕ = λ c. m (c % 2 ^ 64) in
    let l = length_row g a n in
    sets_above b 0 (row g a n) i (omega arith)
