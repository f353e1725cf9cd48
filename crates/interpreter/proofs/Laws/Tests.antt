-- Tests, and sums that do not wrap.
use Rattle.std.proofs.Common.{◌≡◌, ℕ, ◌+◌, ◌-◌, ◌<◌, ◌≤◌, Bool, true, false, cond, not, ◌&&◌, ◌||◌, ltb, leb, sym, refl, ap, ◌∙◌, add_comm, arith, le-ltb, lt-ltb}
use native.Mathlib.Decide.{dec_lt}
use Rattle.pages.proofs.Laws.Places.{leb_moved}

pub no_true : {A : Type 0} → true ≡ false → A
no_true e = let z : ◌≡◌ {A = ℕ} 0 1 = ap (λ t. cond t 0 1) e in absurd (omega arith)

pub both : {a b : Bool} → (a && b) ≡ true → (a ≡ true) × (b ≡ true)
both {a = true} {b = b} e = (refl, e)
both {a = false} {b = b} e = no_true (sym e)

pub neither : {a b : Bool} → (a || b) ≡ false → (a ≡ false) × (b ≡ false)
neither {a = true} {b = b} e = no_true e
neither {a = false} {b = b} e = (refl, e)

pub on : (b : Bool) → not b ≡ false → b ≡ true
on true e = refl
on false e = no_true e

pub off : (b : Bool) → not b ≡ true → b ≡ false
off true e = no_true (sym e)
off false e = refl

-- a sum that does not wrap, as a difference
pub leb_rest : (l s n : ℕ) → s ≤ l → leb n (l - s) ≡ leb (s + n) l
leb_rest l s n h = leb_moved n s l h ∙ ap (λ k. leb k l) (add_comm n s)

pub ltb_rest : (l s n : ℕ) → s ≤ l → ltb (l - s) n ≡ ltb l (s + n)
ltb_rest l s n h = go (dec_lt l (s + n))
  where
    go : Dec (l < s + n) → ltb (l - s) n ≡ ltb l (s + n)
    go (yes k) =
        let m : l - s < n = omega arith in
        lt-ltb _ _ m ∙ sym (lt-ltb _ _ k)
    go (no k) =
        let m : n ≤ l - s = omega arith in
        let j : s + n ≤ l = omega arith in
        le-ltb _ _ m ∙ sym (le-ltb _ _ j)
