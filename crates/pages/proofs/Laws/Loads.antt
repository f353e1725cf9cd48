-- What is read at a place is what the memory that the records are has at the address.
use Rattle.std.proofs.Common.{◌≡◌, ℕ, ◌+◌, ◌/◌, ◌%◌, ◌^◌, ◌<◌, ◌≤◌, min, Bool, true, false, cond, ltb, List, ◌++◌, length, take, drop, sym, refl, ap, ◌∙◌, le_refl, zero-add, arith, ltb-true, le-ltb, lt-ltb, Some, None, Option, Result, Ok, Err}
use native.Mathlib.Nat.{min-eq_left}
use lib.Seq.{sets}
use borrow.Rule.Slice.PartMut.{put_mid}
use Rattle.pages.specs.Bytes.{cell, big, row, zeros}
use Rattle.pages.specs.Memory.{span}
use Rattle.pages.specs.Pages.{whole, lookup, byte_in, byte_at}
use Rattle.pages.specs.Places.{place_of, to_place}
use Rattle.pages.specs.declared.page.PageError.{PageError}
use Rattle.pages.specs.declared.page.PageError.TheVariants.{Overused}
use Rattle.pages.proofs.Laws.Runs.{row_ext, length_row, sets_join}
use Rattle.pages.proofs.Laws.Numbers.{big_ext, big_none}
use Rattle.pages.proofs.Laws.Std.{put_mid-sets}
use Rattle.pages.proofs.Laws.Places.{length_part, part_put, sets_whole}
use Rattle.pages.specs.Calls.{Given, given, moved, read_some, read_def}
use Rattle.pages.specs.declared.reader.Position.{Position}

-- byte k from a place on
abbrev pub after : List ℕ → Option ℕ → ℕ → ℕ
after p (Some j) k = cell p (j + k)
after p None k = 0

pub byte_placed : (p : List ℕ) (used a k : ℕ) → a % 4096 + k < 4096 → byte_at p used (a + k) ≡ after p (place_of p used a) k
unfolding byte_at place_of
byte_placed p used a k h =
    let q : (a + k) / 4096 ≡ a / 4096 = omega arith in
    let r : (a + k) % 4096 ≡ a % 4096 + k = omega arith in
    rw (q, r) (go (lookup p used (a / 4096)))
  where
    go : (f : Result (Option ℕ) PageError) → byte_in p (a % 4096 + k) f ≡ after p (to_place (a % 4096) f) k
    go (Ok (Some i)) = ap (cell p) (omega arith)
    go (Ok None) = refl
    go (Err e) = refl

-- ---- numbers

-- the number of n bytes from a place on
abbrev pub big_at : ℕ → List ℕ → Option ℕ → ℕ
big_at n p (Some k) = big n (cell p) k
big_at n p None = 0

pub big_placed : (n : ℕ) (p : List ℕ) (used a : ℕ) {r f : Option ℕ} → a % 4096 + n ≤ 4096 → r ≡ place_of p used a → r ≡ f
    → big_at n p f ≡ big n (byte_at p used) a
big_placed n p used a h e t =
    ap (big_at n p) (sym t ∙ e)
    ∙ sym (big_ext n (byte_at p used) (after p (place_of p used a)) a 0 (λ k l. byte_placed p used a k (omega arith) ∙ ap (after p (place_of p used a)) (sym (zero-add k))) ∙ go (place_of p used a))
  where
    go : (f : Option ℕ) → big n (after p f) 0 ≡ big_at n p f
    go (Some j) = big_ext n (after p (Some j)) (cell p) 0 j (λ k l. ap (cell p) (ap (λ (i : ℕ). j + i) (zero-add k)))
    go None = big_none n (λ _. 0) 0 (λ k l. refl)

-- ---- runs of bytes

-- the n bytes from a place on
abbrev pub row_at : ℕ → List ℕ → Option ℕ → List ℕ
row_at n p (Some k) = row (cell p) k n
row_at n p None = zeros n

pub span_placed : (n : ℕ) (p : List ℕ) (used a : ℕ) {r f : Option ℕ} → a < 2 ^ 64 → a % 4096 + n ≤ 4096 → r ≡ place_of p used a → r ≡ f
    → row_at n p f ≡ span (byte_at p used) a n
unfolding span
span_placed n p used a small h e t =
    ap (row_at n p) (sym t ∙ e)
    ∙ sym (row_ext n (λ b. byte_at p used (b % 2 ^ 64)) (after p (place_of p used a)) a 0
    (λ k l. ap (byte_at p used) (omega arith) ∙ byte_placed p used a k (omega arith) ∙ ap (after p (place_of p used a)) (sym (zero-add k))) ∙ go (place_of p used a))
  where
    go : (f : Option ℕ) → row (after p f) 0 n ≡ row_at n p f
    go (Some j) = row_ext n (after p (Some j)) (cell p) 0 j (λ k l. ap (cell p) (ap (λ (i : ℕ). j + i) (zero-add k)))
    go None = refl

-- a span in two pieces
pub span_join : (d : List ℕ) (at : ℕ) (m : ℕ → ℕ) (a b n k : ℕ) → b ≡ (a + n) % 2 ^ 64
    → sets (sets d at (span m a n)) (at + n) (span m b k) ≡ sets d at (span m a (n + k))
unfolding span
span_join d at m a b n k e =
    ap (sets (sets d at (row (λ c. m (c % 2 ^ 64)) a n)) (at + n)) (row_ext k _ _ b (a + n) (λ i l. ap m (omega arith)))
    ∙ sets_join d at (λ c. m (c % 2 ^ 64)) a n k

pub length_span : (m : ℕ → ℕ) (a n : ℕ) → length (span m a n) ≡ n
unfolding span
length_span m a n = length_row _ a n

-- where more records are said to be used than there are, each byte counts as zero
pub span_over : (n : ℕ) (p : List ℕ) (used a : ℕ) → whole p < used → zeros n ≡ span (byte_at p used) a n
unfolding span byte_at lookup
span_over n p used a h = row_ext n (λ _. 0) (λ b. byte_at p used (b % 2 ^ 64)) 0 a (λ k l. rw (lt-ltb _ _ h))

-- a span written to a part
pub span_part : (s : List ℕ) (at n k : ℕ) (m : ℕ → ℕ) (a : ℕ) {ys : List ℕ} → at + n ≤ length s → k ≡ n → ys ≡ span m a (length (take k (drop at s))) → put_mid at k s ys ≡ sets s at (span m a n)
span_part s at n k m a h e w =
    put_mid-sets at k s _ (span m a n) (length_span m a n ∙ sym e) (omega arith) (w ∙ ap (span m a) (rw e (length_part s at n h)))

-- one piece more of a span
pub span_more : (d b : List ℕ) (m : ℕ → ℕ) (a next done n k : ℕ) {ys : List ℕ} → b ≡ sets d 0 (span m a done) → next ≡ (a + done) % 2 ^ 64 → k ≡ n → done + n ≤ length b
    → ys ≡ span m next (length (take k (drop done b))) → put_mid done k b ys ≡ sets d 0 (span m a (done + n))
span_more d b m a next done n k e q g h w =
    span_part b done n k m next h g w ∙ ap (λ (l : List ℕ). sets l done (span m next n)) e ∙ rw zero-add at (span_join d 0 m a next done n q)

-- ---- what a reader answers and leaves

module _ (p : List ℕ) (used : ℕ) (s : Position) (b : List ℕ) where
  pub read_over : whole p < used → given (Err Overused) s b ≡ read_def p used s b
  unfolding read_def
  read_over h = rw (lt-ltb _ _ h)

  pub read_fits : {n : ℕ} {ys : List ℕ} → used ≤ whole p → n ≡ min s.count (length b) → ys ≡ span (byte_at p used) s.address (length (take n b))
      → given (Ok n) (moved s n) (ys ++ drop n b) ≡ read_def p used s b
  unfolding read_def
  read_fits {n} {ys} h e w =
      let f : 0 + n ≤ length b = omega arith in
      let rest : ys ++ drop n b ≡ sets b 0 (span (byte_at p used) s.address n) =
      ap (λ (l : List ℕ). l ++ drop n b) (w ∙ ap (span (byte_at p used) s.address) (length_part b 0 n f))
      ∙ part_put b 0 n f (span (byte_at p used) s.address n) (length_span (byte_at p used) s.address n) in
      ap (given (Ok n) (moved s n)) rest ∙ rw (le-ltb _ _ h, e)

-- ---- what copy_out takes of a reader: a buffer that holds all that may be read, or one that stays

abbrev kind : Result ℕ PageError → ℕ
kind (Ok n) = 0
kind (Err x) = 1

module _ (p : List ℕ) (used a n : ℕ) (b : List ℕ) {d : List ℕ} {t : Position} {r : Result ℕ PageError} (e : given r t d ≡ read_def p used (record { address = a; count = n }) b) where
  pub read_whole : {i : ℕ} → r ≡ Ok i → n ≡ length b → d ≡ span (byte_at p used) a (length b)
  unfolding read_def
  read_whole q long = go (ltb (whole p) used) e
    where
      s : Position
      s = record { address = a; count = n }

      go : (c : Bool) → given r t d ≡ cond c (given (Err Overused) s b) (read_some (byte_at p used) s b (min n (length b))) → d ≡ span (byte_at p used) a (length b)
      go true w = let z : ◌≡◌ {A = ℕ} 0 1 = sym (ap kind q) ∙ ap (λ (g : Given). kind g.answer) w in absurd (omega arith)
      go false w = ap (λ (g : Given). g.buf) w ∙ rw (long, min-eq_left (le_refl (length b))) (sets_whole b _ (length_span _ _ _))

  pub read_refused : {x : PageError} → r ≡ Err x → (d ≡ b) × (whole p < used)
  unfolding read_def
  read_refused q = go (ltb (whole p) used) refl e
    where
      s : Position
      s = record { address = a; count = n }

      go : (c : Bool) → ltb (whole p) used ≡ c → given r t d ≡ cond c (given (Err Overused) s b) (read_some (byte_at p used) s b (min n (length b))) → (d ≡ b) × (whole p < used)
      go true h w = (ap (λ (g : Given). g.buf) w, ltb-true _ _ h)
      go false h w = let z : ◌≡◌ {A = ℕ} 1 0 = sym (ap kind q) ∙ ap (λ (g : Given). kind g.answer) w in absurd (omega arith)
