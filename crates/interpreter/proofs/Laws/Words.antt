-- Sign extension and signed order.
use Rattle.std.proofs.Common.{◌≡◌, ℕ, suc, ◌+◌, ◌-◌, ◌*◌, ◌/◌, ◌%◌, ◌^◌, ◌<◌, ◌≤◌, true, false, cond, ltb, leb, refl, sym, ap, ◌∙◌, mod-lt, mod-eq_of_lt, arith, pow_pos, pow_mono, shr_lt, le-ltb, lt-ltb, eq-eqb, ne_eqb, le-leb}
use native.Mathlib.Nat.{mod-eq-sub-mod, mod-add-mod, pow-succ'}
use native.Mathlib.Decide.{dec_lt}
use lib.Pow.{mod-mod-pow}
use borrow.Author.Tests.{lt-leb}
use Rattle.interpreter.specs.Words.{by_rules, sext, sign_extend, less}
use Rattle.interpreter.specs.Alu.{double_signed, shift_signed}
use Rattle.interpreter.specs.declared.effect.Rules.{Rules}
use Rattle.interpreter.specs.declared.effect.Rules.TheVariants.{Interpreter, Manual}
use Rattle.interpreter.proofs.Laws.Powers.{not_shr, shr_ge}

-- ---- rules

pub by_same : {A : Type 0} (r : Rules) (x : A) → by_rules r x x ≡ x
by_same Interpreter x = refl
by_same Manual x = refl

-- ---- sext, by the sign

pub sext_low : (n x : ℕ) → x % 2 ^ n < 2 ^ (n - 1) → x % 2 ^ n ≡ sext n x
unfolding sext
sext_low n x h = sym (rw (lt-ltb _ _ h))

pub sext_high : (n x : ℕ) → 2 ^ (n - 1) ≤ x % 2 ^ n → x % 2 ^ n + (2 ^ 64 - 2 ^ n) ≡ sext n x
unfolding sext
sext_high n x h = sym (rw (le-ltb _ _ h))

-- by adding the sign bit and taking it away
pub sext_sum : (n x : ℕ) → 0 < n → n ≤ 64 → ((x + 2 ^ (n - 1)) % 2 ^ 64 % 2 ^ n + (2 ^ 64 - 2 ^ (n - 1))) % 2 ^ 64 ≡ sext n x
sext_sum n x l h =
    let s : 64 - n + n ≡ 64 = omega arith in
    let m : (x + 2 ^ (n - 1)) % 2 ^ 64 % 2 ^ n ≡ (x + 2 ^ (n - 1)) % 2 ^ n = rw s at (mod-mod-pow (x + 2 ^ (n - 1)) (64 - n) n) in
    let t : suc (n - 1) ≡ n = omega arith in
    let d : 2 ^ n ≡ 2 * 2 ^ (n - 1) = rw t at (pow-succ' 2 (n - 1)) in
    rw (m, ← mod-add-mod x (2 ^ n) (2 ^ (n - 1))) (go d (pow_mono {i = n} {j = 64} h) (mod-lt x (pow_pos n)) (dec_lt (x % 2 ^ n) (2 ^ (n - 1))))
  where
    go : 2 ^ n ≡ 2 * 2 ^ (n - 1) → 2 ^ n ≤ 2 ^ 64 → x % 2 ^ n < 2 ^ n → Dec (x % 2 ^ n < 2 ^ (n - 1))
        → ((x % 2 ^ n + 2 ^ (n - 1)) % 2 ^ n + (2 ^ 64 - 2 ^ (n - 1))) % 2 ^ 64 ≡ sext n x
    go d p b (yes w) =
        let k : (x % 2 ^ n + 2 ^ (n - 1)) % 2 ^ n ≡ x % 2 ^ n + 2 ^ (n - 1) = mod-eq_of_lt (omega arith) in
        rw k (omega arith) ∙ sext_low n x w
    go d p b (no w) =
        let k : (x % 2 ^ n + 2 ^ (n - 1)) % 2 ^ n ≡ x % 2 ^ n + 2 ^ (n - 1) - 2 ^ n = mod-eq-sub-mod (omega arith) ∙ mod-eq_of_lt (omega arith) in
        rw k (omega arith) ∙ sext_high n x (omega arith)

-- ---- the Rust's sign_extend, by its tests

pub extend_none : (x index : ℕ) → index % 64 ≡ 0 → 0 ≡ sign_extend x index
unfolding sign_extend
extend_none x index h = sym (rw (eq-eqb _ _ h))

pub extend_low : (x index : ℕ) → (index % 64 ≡ 0 → ⊥) → x < 2 ^ (index % 64 - 1) → x % 2 ^ (index % 64) ≡ sign_extend x index
unfolding sign_extend
extend_low x index n h = sym (rw (ne_eqb _ _ n, lt-ltb _ _ h))

pub extend_high : (x index : ℕ) → (index % 64 ≡ 0 → ⊥) → 2 ^ (index % 64 - 1) ≤ x → x % 2 ^ (index % 64) + (2 ^ 64 - 2 ^ (index % 64)) ≡ sign_extend x index
unfolding sign_extend
extend_high x index n h = sym (rw (ne_eqb _ _ n, le-ltb _ _ h))

-- the two agree on numbers of the width, over the width
pub extend_sext : (k x : ℕ) → 0 < k → k < 64 → x < 2 ^ k → sign_extend x k ≡ sext k x
extend_sext k x l h s =
    let m : k % 64 ≡ k = mod-eq_of_lt h in
    let r : x % 2 ^ k ≡ x = mod-eq_of_lt s in
    go m r (dec_lt x (2 ^ (k - 1)))
  where
    go : k % 64 ≡ k → x % 2 ^ k ≡ x → Dec (x < 2 ^ (k - 1)) → sign_extend x k ≡ sext k x
    go m r (yes d) =
        rw m at (sym (extend_low x k (λ z. omega arith) (rw m d))) ∙ sext_low k x (rw r d)
    go m r (no d) =
        rw m at (sym (extend_high x k (λ z. omega arith) (rw m (omega arith)))) ∙ sext_high k x (rw r (omega arith))

-- ---- the arithmetic shift of a doubleword

pub signed_low : (x s : ℕ) → s < 64 → x < 2 ^ 63 → x / 2 ^ s ≡ double_signed x s
unfolding double_signed
signed_low x s h l =
    let e : 63 - s + s ≡ 63 = omega arith in
    let f : 64 - s - 1 ≡ 63 - s = omega arith in
    let q : x / 2 ^ s < 2 ^ (63 - s) = shr_lt (63 - s) s (rw e l) in
    let m : 2 ^ (63 - s) ≤ 2 ^ (64 - s) = pow_mono (omega arith) in
    let r : x / 2 ^ s % 2 ^ (64 - s) ≡ x / 2 ^ s = mod-eq_of_lt (omega arith) in
    sym r ∙ sext_low (64 - s) (x / 2 ^ s) (rw (r, f) q)

pub signed_high : (x s : ℕ) → s < 64 → x < 2 ^ 64 → 2 ^ 63 ≤ x → 2 ^ 64 - 1 - (2 ^ 64 - 1 - x) / 2 ^ s ≡ double_signed x s
unfolding double_signed
signed_high x s h b l =
    let e : 64 - s + s ≡ 64 = omega arith in
    let d : 63 - s + s ≡ 63 = omega arith in
    let f : 64 - s - 1 ≡ 63 - s = omega arith in
    let q : x / 2 ^ s < 2 ^ (64 - s) = shr_lt (64 - s) s (rw e b) in
    let n : (2 ^ 64 - 1 - x) / 2 ^ s ≡ 2 ^ (64 - s) - 1 - x / 2 ^ s = rw e at (not_shr (64 - s) s x (rw e b)) in
    let m : 2 ^ (64 - s) ≤ 2 ^ 64 = pow_mono {i = 64 - s} {j = 64} (omega arith) in
    let r : x / 2 ^ s % 2 ^ (64 - s) ≡ x / 2 ^ s = mod-eq_of_lt q in
    let g : 2 ^ (63 - s) ≤ x / 2 ^ s = shr_ge (63 - s) s x (rw d l) in
    rw n (omega arith) ∙ ap (λ (z : ℕ). z + (2 ^ 64 - 2 ^ (64 - s))) (sym r) ∙ sext_high (64 - s) (x / 2 ^ s) (rw (r, f) g)

-- ---- the signed order

pub less_biased : (x y : ℕ) → x < 2 ^ 64 → y < 2 ^ 64 → ltb ((x + 2 ^ 63) % 2 ^ 64) ((y + 2 ^ 63) % 2 ^ 64) ≡ less x y
unfolding less
less_biased x y hx hy = go (dec_lt x (2 ^ 63)) (dec_lt y (2 ^ 63))
  where
    up : (z : ℕ) → z < 2 ^ 63 → (z + 2 ^ 63) % 2 ^ 64 ≡ z + 2 ^ 63
    up z h = omega arith

    down : (z : ℕ) → z < 2 ^ 64 → (z < 2 ^ 63 → ⊥) → (z + 2 ^ 63) % 2 ^ 64 ≡ z - 2 ^ 63
    down z h n = omega arith

    shift_up : (a b : ℕ) → ltb (a + 2 ^ 63) (b + 2 ^ 63) ≡ ltb a b
    shift_up a b = same (dec_lt a b)
      where
        same : Dec (a < b) → ltb (a + 2 ^ 63) (b + 2 ^ 63) ≡ ltb a b
        same (yes l) = lt-ltb (a + 2 ^ 63) (b + 2 ^ 63) (omega arith) ∙ sym (lt-ltb _ _ l)
        same (no l) = le-ltb (a + 2 ^ 63) (b + 2 ^ 63) (omega arith) ∙ sym (le-ltb a b (omega arith))

    shift_down : (a b : ℕ) → 2 ^ 63 ≤ a → 2 ^ 63 ≤ b → ltb (a - 2 ^ 63) (b - 2 ^ 63) ≡ ltb a b
    shift_down a b ha hb = same (dec_lt a b)
      where
        same : Dec (a < b) → ltb (a - 2 ^ 63) (b - 2 ^ 63) ≡ ltb a b
        same (yes l) = lt-ltb (a - 2 ^ 63) (b - 2 ^ 63) (omega arith) ∙ sym (lt-ltb _ _ l)
        same (no l) = le-ltb (a - 2 ^ 63) (b - 2 ^ 63) (omega arith) ∙ sym (le-ltb a b (omega arith))

    go : Dec (x < 2 ^ 63) → Dec (y < 2 ^ 63)
        → ltb ((x + 2 ^ 63) % 2 ^ 64) ((y + 2 ^ 63) % 2 ^ 64) ≡ cond (leb (2 ^ 63) x) (cond (leb (2 ^ 63) y) (ltb x y) true) (cond (leb (2 ^ 63) y) false (ltb x y))
    go (yes p) (yes q) = rw (up x p, up y q, lt-leb _ _ p, lt-leb _ _ q) (shift_up x y)
    go (yes p) (no q) =
        let n : 2 ^ 63 ≤ y = omega arith in
        rw (up x p, down y hy q, lt-leb _ _ p, le-leb _ _ n) (le-ltb (x + 2 ^ 63) (y - 2 ^ 63) (omega arith))
    go (no p) (yes q) =
        let n : 2 ^ 63 ≤ x = omega arith in
        rw (down x hx p, up y q, le-leb _ _ n, lt-leb _ _ q) (lt-ltb (x - 2 ^ 63) (y + 2 ^ 63) (omega arith))
    go (no p) (no q) =
        let n : 2 ^ 63 ≤ x = omega arith in
        let k : 2 ^ 63 ≤ y = omega arith in
        rw (down x hx p, down y hy q, le-leb _ _ n, le-leb _ _ k) (shift_down x y n k)

-- ---- words in doublewords

pub sext_mod : (n x y : ℕ) → x % 2 ^ n ≡ y % 2 ^ n → sext n x ≡ sext n y
unfolding sext
sext_mod n x y e = rw e

pub sext_plus : (x y : ℕ) → sext 32 ((x + y) % 2 ^ 64) ≡ sext 32 (x + y)
sext_plus x y = sext_mod 32 ((x + y) % 2 ^ 64) (x + y) (omega arith)

-- the arithmetic shift of a word is that of the doubleword that it is extended to
pub signed_word : (x s : ℕ) → s < 32 → double_signed (sext 32 x) s ≡ shift_signed x s
unfolding shift_signed
signed_word x s h = go (dec_lt (x % 2 ^ 32) (2 ^ 31))
  where
    w : ℕ
    w = x % 2 ^ 32

    e31 : 31 - s + s ≡ 31
    e31 = omega arith

    e32 : 32 - s + s ≡ 32
    e32 = omega arith

    top : 32 - s - 1 ≡ 31 - s
    top = omega arith

    small : w < 2 ^ 32
    small = omega arith

    inside : w / 2 ^ s % 2 ^ (32 - s) ≡ w / 2 ^ s
    inside = mod-eq_of_lt (shr_lt (32 - s) s (rw e32 small))

    go : Dec (w < 2 ^ 31) → double_signed (sext 32 x) s ≡ sext (32 - s) (w / 2 ^ s)
    go (yes l) =
        let q : w / 2 ^ s < 2 ^ (31 - s) = shr_lt (31 - s) s (rw e31 l) in
        ap (λ (z : ℕ). double_signed z s) (sym (sext_low 32 x l)) ∙ sym (signed_low w s (omega arith) (omega arith))
        ∙ sym inside ∙ sext_low (32 - s) (w / 2 ^ s) (rw (inside, top) q)
    go (no l) =
        let g : 2 ^ 31 ≤ w = omega arith in
        let n : (2 ^ 32 - 1 - w) / 2 ^ s ≡ 2 ^ (32 - s) - 1 - w / 2 ^ s = rw e32 at (not_shr (32 - s) s w (rw e32 small)) in
        let d : 2 ^ 64 - 1 - (w + (2 ^ 64 - 2 ^ 32)) ≡ 2 ^ 32 - 1 - w = omega arith in
        let r : w / 2 ^ s < 2 ^ (32 - s) = shr_lt (32 - s) s (rw e32 small) in
        let p : 2 ^ (32 - s) ≤ 2 ^ 32 = pow_mono {i = 32 - s} {j = 32} (omega arith) in
        ap (λ (z : ℕ). double_signed z s) (sym (sext_high 32 x g)) ∙ sym (signed_high (w + (2 ^ 64 - 2 ^ 32)) s (omega arith) (omega arith) (omega arith))
        ∙ rw (d, n) (omega arith) ∙ ap (λ (z : ℕ). z + (2 ^ 64 - 2 ^ (32 - s))) (sym inside)
        ∙ sext_high (32 - s) (w / 2 ^ s) (rw (inside, top) (shr_ge (31 - s) s w (rw e31 g)))

-- ---- a branch's target, added up in two wrapping sums

pub target_is : (pc o a : ℕ) {r : ℕ} → r ≡ (a + o * 2 ^ 2 % 2 ^ 64) % 2 ^ 64 → a ≡ (pc + 4) % 2 ^ 64 → r ≡ (pc + 4 + o * 4) % 2 ^ 64
target_is pc o a e h = e ∙ rw h (omega arith)
