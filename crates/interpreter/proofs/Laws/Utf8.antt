-- UTF-8: the table's texts are those that std's `IsUtf8` names.
use Rattle.std.proofs.Common.{◌≡◌, ℕ, zero, suc, ◌+◌, ◌-◌, ◌*◌, ◌/◌, ◌<◌, ◌≤◌, ◌⊎◌, Bool, true, false, cond, ◌&&◌, ◌||◌, eqb, ltb, leb, List, [], ◌∷◌, ◌++◌, length, take, drop, IsUtf8, IsTrue, ◌↔◌, sym, refl, subst, ◌∙◌, arith, le-leb, ne_eqb, le-ltb, lt-ltb, ltb-true}
use Rattle.std.proofs.lemmas.Bool.{leb-true, lt-leb}
use Rattle.std.proofs.lemmas.Str.{IsUtf8-nil, IsUtf8-append, IsUtf8-encode}
use Rattle.std.proofs.lemmas.List.{take-append-drop, length-append}
use Rattle.std.proofs.Math.Seq.{drop-append_seam}
use mathlib.Core.Logic.{inl, inr}
use native.Mathlib.Decide.{dec_lt}
use lib.Utf8.{next, encode, encodes, scalar, scalars, scalar_cases, low_scalar}
use Rattle.interpreter.specs.Utf8.{Range, ◌to◌, rows, begins, first_row, character, well_formed, utf8}
use Rattle.interpreter.proofs.Laws.Tests.{no_true, both}

-- ---- the table

-- whether no row begins with a byte from a to e
outside : ℕ → ℕ → List (List Range) → Bool
outside a e [] = true
outside a e ([] ∷ rs) = false
outside a e ((r ∷ q) ∷ rs) = (ltb r.high a || ltb e r.low) && outside a e rs

module _ (a e b : ℕ) (t : List ℕ) (h : a ≤ b) (k : b ≤ e) where
  misses : (r : Range) (q : List Range) (x : Bool) → (ltb r.high a || ltb e r.low) && x ≡ true → (begins (r ∷ q) (b ∷ t) ≡ false) × (x ≡ true)
  unfolding begins
  misses r q x = go (ltb r.high a) refl (ltb e r.low) refl
    where
      nought : (p s : Bool) → s ≡ false → (p && (s && begins q t)) ≡ false
      nought true s d = rw d
      nought false s d = refl

      go : (p : Bool) → ltb r.high a ≡ p → (s : Bool) → ltb e r.low ≡ s → (p || s) && x ≡ true
          → ((leb r.low b && (leb b r.high && begins q t)) ≡ false) × (x ≡ true)
      go true d s c y =
          let l : r.high < b = omega (arith, ltb-true r.high a d) in
          (nought (leb r.low b) _ (lt-leb _ _ l), y)
      go false d true c y =
          let l : b < r.low = omega (arith, ltb-true e r.low c) in
          (rw (lt-leb _ _ l), y)
      go false d false c y = no_true (sym y)

  skip : (rs : List (List Range)) → outside a e rs ≡ true → first_row rs (b ∷ t) ≡ 0
  unfolding first_row outside
  skip [] o = refl
  skip ([] ∷ rs) o = no_true (sym o)
  skip ((r ∷ q) ∷ rs) o =
      let m = misses r q (outside a e rs) o in
      rw m.0 (skip rs m.1)

  hit : (front : List (List Range)) (q : List Range) (back : List (List Range)) → outside a e front ≡ true → outside a e back ≡ true
      → first_row (front ++ (a to e ∷ q) ∷ back) (b ∷ t) ≡ cond (begins q t) (suc (length q)) 0
  unfolding first_row begins outside
  hit [] q back o p = rw (le-leb _ _ h, le-leb _ _ k, skip back p)
  hit ([] ∷ front) q back o p = no_true (sym o)
  hit ((r ∷ s) ∷ front) q back o p =
      let m = misses r s (outside a e front) o in
      rw m.0 (hit front q back m.1 p)

-- a first byte, and what has to follow it
module _ (b : ℕ) (t : List ℕ) where
  pub none_below : 0x80 ≤ b → b ≤ 0xc1 → character (b ∷ t) ≡ 0
  unfolding character rows outside
  none_below h k = skip 0x80 0xc1 b t h k rows refl

  pub none_above : 0xf5 ≤ b → character (b ∷ t) ≡ 0
  unfolding character rows outside
  none_above h = skip 0xf5 b b t h (omega arith) rows refl

  pub lead_00 : b ≤ 0x7f → character (b ∷ t) ≡ 1
  unfolding character rows outside begins
  lead_00 k = hit 0 0x7f b t (omega arith) k [] [] (drop 1 rows) refl refl

  pub lead_c2 : 0xc2 ≤ b → b ≤ 0xdf → character (b ∷ t) ≡ cond (begins (0x80 to 0xbf ∷ []) t) 2 0
  unfolding character rows outside
  lead_c2 h k = hit 0xc2 0xdf b t h k (take 1 rows) (0x80 to 0xbf ∷ []) (drop 2 rows) refl refl

  pub lead_e0 : 0xe0 ≤ b → b ≤ 0xe0 → character (b ∷ t) ≡ cond (begins (0xa0 to 0xbf ∷ 0x80 to 0xbf ∷ []) t) 3 0
  unfolding character rows outside
  lead_e0 h k = hit 0xe0 0xe0 b t h k (take 2 rows) (0xa0 to 0xbf ∷ 0x80 to 0xbf ∷ []) (drop 3 rows) refl refl

  pub lead_e1 : 0xe1 ≤ b → b ≤ 0xec → character (b ∷ t) ≡ cond (begins (0x80 to 0xbf ∷ 0x80 to 0xbf ∷ []) t) 3 0
  unfolding character rows outside
  lead_e1 h k = hit 0xe1 0xec b t h k (take 3 rows) (0x80 to 0xbf ∷ 0x80 to 0xbf ∷ []) (drop 4 rows) refl refl

  pub lead_ed : 0xed ≤ b → b ≤ 0xed → character (b ∷ t) ≡ cond (begins (0x80 to 0x9f ∷ 0x80 to 0xbf ∷ []) t) 3 0
  unfolding character rows outside
  lead_ed h k = hit 0xed 0xed b t h k (take 4 rows) (0x80 to 0x9f ∷ 0x80 to 0xbf ∷ []) (drop 5 rows) refl refl

  pub lead_ee : 0xee ≤ b → b ≤ 0xef → character (b ∷ t) ≡ cond (begins (0x80 to 0xbf ∷ 0x80 to 0xbf ∷ []) t) 3 0
  unfolding character rows outside
  lead_ee h k = hit 0xee 0xef b t h k (take 5 rows) (0x80 to 0xbf ∷ 0x80 to 0xbf ∷ []) (drop 6 rows) refl refl

  pub lead_f0 : 0xf0 ≤ b → b ≤ 0xf0 → character (b ∷ t) ≡ cond (begins (0x90 to 0xbf ∷ 0x80 to 0xbf ∷ 0x80 to 0xbf ∷ []) t) 4 0
  unfolding character rows outside
  lead_f0 h k = hit 0xf0 0xf0 b t h k (take 6 rows) (0x90 to 0xbf ∷ 0x80 to 0xbf ∷ 0x80 to 0xbf ∷ []) (drop 7 rows) refl refl

  pub lead_f1 : 0xf1 ≤ b → b ≤ 0xf3 → character (b ∷ t) ≡ cond (begins (0x80 to 0xbf ∷ 0x80 to 0xbf ∷ 0x80 to 0xbf ∷ []) t) 4 0
  unfolding character rows outside
  lead_f1 h k = hit 0xf1 0xf3 b t h k (take 7 rows) (0x80 to 0xbf ∷ 0x80 to 0xbf ∷ 0x80 to 0xbf ∷ []) (drop 8 rows) refl refl

  pub lead_f4 : 0xf4 ≤ b → b ≤ 0xf4 → character (b ∷ t) ≡ cond (begins (0x80 to 0x8f ∷ 0x80 to 0xbf ∷ 0x80 to 0xbf ∷ []) t) 4 0
  unfolding character rows outside
  lead_f4 h k = hit 0xf4 0xf4 b t h k (take 8 rows) (0x80 to 0x8f ∷ 0x80 to 0xbf ∷ 0x80 to 0xbf ∷ []) [] refl refl

-- ---- std's characters, by their size

module _ (c : ℕ) where
  one : c < 128 → encode c ≡ c ∷ []
  unfolding encode
  one h = rw (lt-ltb c 128 h)

  two : 128 ≤ c → c < 2048 → encode c ≡ (192 + c / 64) ∷ next c ∷ []
  unfolding encode
  two l h = rw (le-ltb c 128 l, lt-ltb c 2048 h)

  three : 2048 ≤ c → c < 65536 → encode c ≡ (224 + c / 4096) ∷ next (c / 64) ∷ next c ∷ []
  unfolding encode
  three l h = rw (le-ltb c 128 (omega arith), le-ltb c 2048 l, lt-ltb c 65536 h)

  four : 65536 ≤ c → encode c ≡ (240 + c / 262144) ∷ next (c / 4096) ∷ next (c / 64) ∷ next c ∷ []
  unfolding encode
  four l = rw (le-ltb c 128 (omega arith), le-ltb c 2048 (omega arith), le-ltb c 65536 l)

  high_scalar : 57344 ≤ c → c < 1114112 → scalar c ≡ true
  high_scalar l h = rw (le-ltb c 55296 (omega arith), le-leb 57344 c l, lt-ltb c 1114112 h)

abbrev Follows : ℕ → Type 0
Follows b = (128 ≤ b) × (b < 192)

of_one : (x : ℕ) → x < 128 → IsUtf8 (x ∷ [])
of_one x h = subst IsUtf8 (one x h) (IsUtf8-encode x (low_scalar x (omega arith)))

of_two : (x y : ℕ) → (194 ≤ x) × (x < 224) → Follows y → IsUtf8 (x ∷ y ∷ [])
of_two x y l f =
    let c = (x - 192) * 64 + (y - 128) in
    let p : 192 + c / 64 ≡ x = omega arith in
    let q : next c ≡ y = omega arith in
    subst IsUtf8 (two c (omega arith) (omega arith) ∙ (λ k. p k ∷ q k ∷ [])) (IsUtf8-encode c (low_scalar c (omega arith)))

of_three : (x y z : ℕ) → (224 ≤ x) × (x < 240) → Follows y → Follows z
    → let c = (x - 224) * 4096 + (y - 128) * 64 + (z - 128) in 2048 ≤ c → (c < 55296) ⊎ (57344 ≤ c) → IsUtf8 (x ∷ y ∷ z ∷ [])
of_three x y z l f g low s =
    let c = (x - 224) * 4096 + (y - 128) * 64 + (z - 128) in
    let p : 224 + c / 4096 ≡ x = omega arith in
    let q : next (c / 64) ≡ y = omega arith in
    let r : next c ≡ z = omega arith in
    subst IsUtf8 (three c low (omega arith) ∙ (λ k. p k ∷ q k ∷ r k ∷ [])) (IsUtf8-encode c (by s))
  where
    by : ((x - 224) * 4096 + (y - 128) * 64 + (z - 128) < 55296) ⊎ (57344 ≤ (x - 224) * 4096 + (y - 128) * 64 + (z - 128)) → scalar ((x - 224) * 4096 + (y - 128) * 64 + (z - 128)) ≡ true
    by (inl u) = low_scalar _ u
    by (inr u) = high_scalar _ u (omega arith)

of_four : (x y z v : ℕ) → 240 ≤ x → Follows y → Follows z → Follows v
    → let high = (x - 240) * 64 + (y - 128) in (16 ≤ high) × (high < 272) → IsUtf8 (x ∷ y ∷ z ∷ v ∷ [])
of_four x y z v l f g h in' =
    let c = (x - 240) * 262144 + (y - 128) * 4096 + (z - 128) * 64 + (v - 128) in
    let p : 240 + c / 262144 ≡ x = omega arith in
    let q : next (c / 4096) ≡ y = omega arith in
    let e : c / 64 ≡ (x - 240) * 4096 + (y - 128) * 64 + (z - 128) = omega arith in
    let r : next (c / 64) ≡ z = subst (λ (m : ℕ). next m ≡ z) (sym e) (omega arith) in
    let t : next c ≡ v = omega arith in
    subst IsUtf8 (four c (omega arith) ∙ (λ k. p k ∷ q k ∷ r k ∷ t k ∷ [])) (IsUtf8-encode c (high_scalar c (omega arith) (omega arith)))

-- ---- each row's bytes are a character of std

abbrev Good : List Range → Type 0
Good r = (t : List ℕ) → begins r t ≡ true → IsUtf8 (take (length r) t)

abbrev Within : List Range → List ℕ → Type 0
Within [] t = Unit {0}
Within (r ∷ rs) [] = ⊥
Within (r ∷ rs) (b ∷ t) = (r.low ≤ b) × (b ≤ r.high) × Within rs t

within : (rs : List Range) (t : List ℕ) → begins rs t ≡ true → Within rs t
unfolding begins
within [] t e = tt
within (r ∷ rs) [] e = no_true (sym e)
within (r ∷ rs) (b ∷ t) e =
    let p = both e in
    let q = both p.1 in
    (leb-true r.low b p.0, leb-true b r.high q.0, within rs t q.1)

by_one : (t : List ℕ) → Within (0x00 to 0x7f ∷ []) t → IsUtf8 (take 1 t)
by_one [] w = absurd w
by_one (x ∷ t) w = of_one x (omega (arith, w.1))

by_two : (t : List ℕ) → Within (0xc2 to 0xdf ∷ 0x80 to 0xbf ∷ []) t → IsUtf8 (take 2 t)
by_two [] w = absurd w
by_two (x ∷ []) w = absurd w.2
by_two (x ∷ y ∷ t) w = of_two x y (w.0, omega (arith, w.1)) (w.2.0, omega (arith, w.2.1))

module _ (a e f g : ℕ) where
  by_three : 224 ≤ a → e < 240 → 128 ≤ f → g < 192 → 2048 ≤ (a - 224) * 4096 + (f - 128) * 64 → ((e - 224) * 4096 + (g - 128) * 64 + 63 < 55296) ⊎ (57344 ≤ (a - 224) * 4096 + (f - 128) * 64)
      → (t : List ℕ) → Within (a to e ∷ f to g ∷ 0x80 to 0xbf ∷ []) t → IsUtf8 (take 3 t)
  by_three p q r s l o [] w = absurd w
  by_three p q r s l o (x ∷ []) w = absurd w.2
  by_three p q r s l o (x ∷ y ∷ []) w = absurd w.2.2
  by_three p q r s l o (x ∷ y ∷ z ∷ t) w =
      of_three x y z (omega (arith, w.0), omega (arith, w.1)) (omega (arith, w.2.0), omega (arith, w.2.1)) (w.2.2.0, omega (arith, w.2.2.1))
      (omega (arith, w.0, w.2.0)) (side o)
    where
      side : ((e - 224) * 4096 + (g - 128) * 64 + 63 < 55296) ⊎ (57344 ≤ (a - 224) * 4096 + (f - 128) * 64) → ((x - 224) * 4096 + (y - 128) * 64 + (z - 128) < 55296) ⊎ (57344 ≤ (x - 224) * 4096 + (y - 128) * 64 + (z - 128))
      side (inl u) = inl (omega (arith, w.1, w.2.1, w.2.2.1))
      side (inr u) = inr (omega (arith, w.0, w.2.0))

  by_four : 240 ≤ a → 128 ≤ f → g < 192 → 16 ≤ (a - 240) * 64 + (f - 128) → (e - 240) * 64 + (g - 128) < 272
      → (t : List ℕ) → Within (a to e ∷ f to g ∷ 0x80 to 0xbf ∷ 0x80 to 0xbf ∷ []) t → IsUtf8 (take 4 t)
  by_four p q r l h [] w = absurd w
  by_four p q r l h (x ∷ []) w = absurd w.2
  by_four p q r l h (x ∷ y ∷ []) w = absurd w.2.2
  by_four p q r l h (x ∷ y ∷ z ∷ []) w = absurd w.2.2.2
  by_four p q r l h (x ∷ y ∷ z ∷ v ∷ t) w =
      of_four x y z v (omega (arith, w.0)) (omega (arith, w.2.0), omega (arith, w.2.1)) (w.2.2.0, omega (arith, w.2.2.1)) (w.2.2.2.0, omega (arith, w.2.2.2.1))
      (omega (arith, w.0, w.2.0), omega (arith, w.1, w.2.1))

AllGood : List (List Range) → Type 0
AllGood [] = Unit {0}
AllGood (r ∷ rs) = Good r × AllGood rs

good_rows : AllGood rows
unfolding rows AllGood
good_rows = (
  (λ t e. by_one t (within _ t e)),
  (
    (λ t e. by_two t (within _ t e)),
    (
      (λ t e. by_three 0xe0 0xe0 0xa0 0xbf (omega arith) (omega arith) (omega arith) (omega arith) (omega arith) (inl (omega arith)) t (within _ t e)),
      (
        (λ t e. by_three 0xe1 0xec 0x80 0xbf (omega arith) (omega arith) (omega arith) (omega arith) (omega arith) (inl (omega arith)) t (within _ t e)),
        (
          (λ t e. by_three 0xed 0xed 0x80 0x9f (omega arith) (omega arith) (omega arith) (omega arith) (omega arith) (inl (omega arith)) t (within _ t e)),
          (
            (λ t e. by_three 0xee 0xef 0x80 0xbf (omega arith) (omega arith) (omega arith) (omega arith) (omega arith) (inr (omega arith)) t (within _ t e)),
            (
              (λ t e. by_four 0xf0 0xf0 0x90 0xbf (omega arith) (omega arith) (omega arith) (omega arith) (omega arith) t (within _ t e)),
              (
                (λ t e. by_four 0xf1 0xf3 0x80 0xbf (omega arith) (omega arith) (omega arith) (omega arith) (omega arith) t (within _ t e)),
                (
                  (λ t e. by_four 0xf4 0xf4 0x80 0x8f (omega arith) (omega arith) (omega arith) (omega arith) (omega arith) t (within _ t e)),
                  tt,
                ),
              ),
            ),
          ),
        ),
      ),
    ),
  ),
)

good_row : (rs : List (List Range)) → AllGood rs → (t : List ℕ) → IsUtf8 (take (first_row rs t) t)
unfolding first_row AllGood
good_row [] g t = IsUtf8-nil
good_row (r ∷ rs) g t = go (begins r t) refl (good_row rs g.1 t)
  where
    go : (p : Bool) → begins r t ≡ p → IsUtf8 (take (first_row rs t) t) → IsUtf8 (take (cond p (length r) (first_row rs t)) t)
    go true e ih = g.0 t e
    go false e ih = ih

good_front : (t : List ℕ) → IsUtf8 (take (character t) t)
unfolding character
good_front t = good_row rows good_rows t

well_next : (n : ℕ) (t : List ℕ) → 0 < length t → well_formed (suc n) t ≡ cond (eqb (character t) 0) false (well_formed n (drop (character t) t))
unfolding well_formed
well_next n t h = rw (ne_eqb (length t) 0 (λ z. omega arith))

well_is : (n : ℕ) (t : List ℕ) → well_formed n t ≡ true → IsUtf8 t
unfolding well_formed
well_is n [] e = IsUtf8-nil
well_is zero (b ∷ t) e = no_true (sym e ∙ ne_eqb (length (b ∷ t)) 0 (λ z. omega arith))
well_is (suc n) (b ∷ t) e = go (eqb (character (b ∷ t)) 0) (sym (well_next n (b ∷ t) (omega arith)) ∙ e) (well_is n (drop (character (b ∷ t)) (b ∷ t)))
  where
    go : (p : Bool) → cond p false (well_formed n (drop (character (b ∷ t)) (b ∷ t))) ≡ true → (well_formed n (drop (character (b ∷ t)) (b ∷ t)) ≡ true → IsUtf8 (drop (character (b ∷ t)) (b ∷ t))) → IsUtf8 (b ∷ t)
    go true e ih = no_true (sym e)
    go false e ih = subst IsUtf8 (take-append-drop (character (b ∷ t)) (b ∷ t)) (IsUtf8-append _ _ (good_front (b ∷ t)) (ih e))

-- ---- each character of std has a row

module _ (p r : List ℕ) (h : 0 < length p) (e : character (p ++ r) ≡ length p) where
  step : (n : ℕ) → length (p ++ r) ≤ n → ((m : ℕ) → length r ≤ m → well_formed m r ≡ true) → well_formed n (p ++ r) ≡ true
  unfolding well_formed
  step zero l ih = absurd (omega (arith, length-append p r))
  step (suc n) l ih =
      rw (ne_eqb (length (p ++ r)) 0 (λ z. omega (arith, length-append p r)), e, ne_eqb (length p) 0 (λ z. omega arith), drop-append_seam p r)
      (ih n (omega (arith, length-append p r)))

range : (a e b : ℕ) (rs : List Range) (t : List ℕ) → a ≤ b → b ≤ e → begins rs t ≡ true → begins (a to e ∷ rs) (b ∷ t) ≡ true
unfolding begins
range a e b rs t h k g = rw (le-leb _ _ h, le-leb _ _ k, g)

tail : (x : ℕ) (rs : List Range) (t : List ℕ) → begins rs t ≡ true → begins (0x80 to 0xbf ∷ rs) (next x ∷ t) ≡ true
tail x rs t g = range 0x80 0xbf (next x) rs t (omega arith) (omega arith) g

none : (t : List ℕ) → begins [] t ≡ true
unfolding begins
none t = refl

module _ (c : ℕ) (r : List ℕ) where
  of_1 : c < 128 → character (c ∷ r) ≡ 1
  of_1 h = lead_00 c r (omega arith)

  of_2 : 128 ≤ c → c < 2048 → character ((192 + c / 64) ∷ next c ∷ r) ≡ 2
  of_2 h k = lead_c2 (192 + c / 64) (next c ∷ r) (omega arith) (omega arith) ∙ rw (tail c [] r (none r)) refl

  last : begins (0x80 to 0xbf ∷ []) (next c ∷ r) ≡ true
  last = tail c [] r (none r)

  last_two : begins (0x80 to 0xbf ∷ 0x80 to 0xbf ∷ []) (next (c / 64) ∷ next c ∷ r) ≡ true
  last_two = tail (c / 64) _ _ last

  of_3 : 2048 ≤ c → c < 65536 → (c < 55296) ⊎ (57344 ≤ c) → character ((224 + c / 4096) ∷ next (c / 64) ∷ next c ∷ r) ≡ 3
  of_3 h k (inr s) = lead_ee (224 + c / 4096) _ (omega arith) (omega arith) ∙ rw last_two refl
  of_3 h k (inl s) = go (dec_lt c 4096) (dec_lt c 53248)
    where
      go : Dec (c < 4096) → Dec (c < 53248) → character ((224 + c / 4096) ∷ next (c / 64) ∷ next c ∷ r) ≡ 3
      go (yes u) v = lead_e0 (224 + c / 4096) _ (omega arith) (omega arith) ∙ rw (range 0xa0 0xbf (next (c / 64)) _ _ (omega arith) (omega arith) last) refl
      go (no u) (yes v) = lead_e1 (224 + c / 4096) _ (omega arith) (omega arith) ∙ rw last_two refl
      go (no u) (no v) = lead_ed (224 + c / 4096) _ (omega arith) (omega arith) ∙ rw (range 0x80 0x9f (next (c / 64)) _ _ (omega arith) (omega arith) last) refl

  of_4 : 65536 ≤ c → c < 1114112 → character ((240 + c / 262144) ∷ next (c / 4096) ∷ next (c / 64) ∷ next c ∷ r) ≡ 4
  of_4 h k = go (dec_lt c 262144) (dec_lt c 1048576)
    where
      go : Dec (c < 262144) → Dec (c < 1048576) → character ((240 + c / 262144) ∷ next (c / 4096) ∷ next (c / 64) ∷ next c ∷ r) ≡ 4
      go (yes u) v = lead_f0 (240 + c / 262144) _ (omega arith) (omega arith) ∙ rw (range 0x90 0xbf (next (c / 4096)) _ _ (omega arith) (omega arith) last_two) refl
      go (no u) (yes v) = lead_f1 (240 + c / 262144) _ (omega arith) (omega arith) ∙ rw (tail (c / 4096) _ _ last_two) refl
      go (no u) (no v) = lead_f4 (240 + c / 262144) _ (omega arith) (omega arith) ∙ rw (range 0x80 0x8f (next (c / 4096)) _ _ (omega arith) (omega arith) last_two) refl

abbrev Led : ℕ → List ℕ → Type 0
Led c r = (0 < length (encode c)) × (character (encode c ++ r) ≡ length (encode c))

led : (c : ℕ) (r : List ℕ) → (c < 55296) ⊎ ((57344 ≤ c) × (c < 1114112)) → Led c r
led c r s = go (dec_lt c 128) (dec_lt c 2048) (dec_lt c 65536)
  where
    top : (c < 55296) ⊎ ((57344 ≤ c) × (c < 1114112)) → c < 1114112
    top (inl h) = omega arith
    top (inr h) = h.1

    apart : (c < 55296) ⊎ ((57344 ≤ c) × (c < 1114112)) → (c < 55296) ⊎ (57344 ≤ c)
    apart (inl h) = inl h
    apart (inr h) = inr h.0

    go : Dec (c < 128) → Dec (c < 2048) → Dec (c < 65536) → Led c r
    go (yes h) _ _ = rw (one c h) (omega arith, of_1 c r h)
    go (no l) (yes h) _ = rw (two c (omega arith) h) (omega arith, of_2 c r (omega arith) h)
    go (no _) (no l) (yes h) = rw (three c (omega arith) h) (omega arith, of_3 c r (omega arith) h (apart s))
    go (no _) (no _) (no l) = rw (four c (omega arith)) (omega arith, of_4 c r (omega arith) (top s))

is_well : (cs : List ℕ) → scalars cs ≡ true → (n : ℕ) → length (encodes cs) ≤ n → well_formed n (encodes cs) ≡ true
unfolding well_formed
is_well [] s zero h = refl
is_well [] s (suc n) h = refl
is_well (c ∷ cs) s n h =
    let b = both s in
    let l = led c (encodes cs) (scalar_cases c b.0) in
    step (encode c) (encodes cs) l.0 l.1 n h (is_well cs b.1)

-- ---- a text that the library takes

utf8_of : (t : List ℕ) → IsUtf8 t → utf8 t ≡ true
unfolding utf8
utf8_of t u = subst (λ (x : List ℕ). well_formed (length x) x ≡ true) u.1.1 (is_well u.0 u.1.0 (length (encodes u.0)) (omega arith))

utf8_not : (t : List ℕ) → (IsUtf8 t → ⊥) → utf8 t ≡ false
unfolding utf8
utf8_not t u = go (well_formed (length t) t) refl
  where
    go : (b : Bool) → well_formed (length t) t ≡ b → b ≡ false
    go true e = absurd (u (well_is (length t) t e))
    go false e = refl

pub utf8_tested : (t : List ℕ) (b : Bool) → (IsTrue b ↔ IsUtf8 t) → b ≡ utf8 t
utf8_tested t true h = sym (utf8_of t (h.0 refl))
utf8_tested t false h = sym (utf8_not t (λ u. no_true (sym (h.1 u))))
