-- What the code of LWL, LWR and LDR computes is what they load.
use Rattle.std.proofs.Common.{◌≡◌, ℕ, ◌+◌, ◌-◌, ◌*◌, ◌/◌, ◌%◌, ◌^◌, ◌<◌, ◌≤◌, false, refl, ap, div-add-mod', div-mul-le_self, arith, eq-eqb, ne_eqb}
use lib.Bits.{bit_or}
use Rattle.interpreter.specs.Words.{word, sext}
use Rattle.interpreter.specs.declared.effect.Rules.{Rules}
use Rattle.interpreter.specs.declared.effect.Rules.TheVariants.{Interpreter, Manual}
use Rattle.interpreter.proofs.Laws.Words.{by_same}
use Rattle.interpreter.specs.Loads.{part_at, lwl, lwr, ldr}
use Rattle.interpreter.proofs.Laws.Shifts.{raised_word, raised_word_lem, raised_word_lt, merged, kept_is, merged_is, merged_lt}
use Rattle.interpreter.proofs.Laws.Bytes.{big_end, big_start, word_high, word_low}
use Rattle.interpreter.proofs.Laws.Bitwise.{or_is}

-- ---- the sums fit

pub lwl_fits : (o x t : ℕ) → raised_word (8 * (o % 4)) x t < 2 ^ 64
lwl_fits o x t = omega (arith, raised_word_lt (8 * (o % 4)) (4 - o % 4) (o % 4) refl (omega arith) x t)

pub lwr_fits : (o t w : ℕ) → w < 2 ^ 32 → merged (8 * (o % 4) + 8) (24 - 8 * (o % 4)) (word t) w < 2 ^ 64
lwr_fits o t w h =
    omega (arith, merged_lt (8 * (o % 4) + 8) (24 - 8 * (o % 4)) (o % 4 + 1) (3 - o % 4) (omega arith) (omega arith) (word t) w (omega arith) 4 (omega arith) (omega arith) h)

pub ldr_fits : (m o t : ℕ) → o < 8 → m < 2 ^ 64 → t < 2 ^ 64 → merged (8 * o + 8) (56 - 8 * o) t m < 2 ^ 64
ldr_fits m o t g h l = merged_lt (8 * o + 8) (56 - 8 * o) (o + 1) (7 - o) (omega arith) (omega arith) t m l 8 (omega arith) l h

module _ (rules : Rules) (m o t : ℕ) where
  -- ---- LWL: rules 0 takes bytes 4 to 7, and rules 1 the word w

  pub lwl_low : rules ≡ Interpreter → sext 32 (raised_word (8 * (o % 4)) m t) ≡ lwl rules m o t
  unfolding lwl
  lwl_low r = rw (r, big_end 8 (4 + o % 4) (4 - o % 4) m (omega arith), raised_word_lem (8 * (o % 4)) (4 - o % 4) (o % 4) refl (omega arith) m t)

  pub lwl_word : rules ≡ Manual → (w : ℕ) → w ≡ part_at 4 m o → sext 32 (raised_word (8 * (o % 4)) w t) ≡ lwl rules m o t
  unfolding lwl
  lwl_word r w e =
      let q = rw (div-add-mod' o 4) at (word_low m o (o % 4) (4 - o % 4) (omega arith)) in
      rw (r, ← q, ← e, raised_word_lem (8 * (o % 4)) (4 - o % 4) (o % 4) refl (omega arith) w t)

  -- ---- LWR

  pub lwr_or : rules ≡ Interpreter → sext 32 (bit_or (m / 2 ^ (24 - 8 * (o % 4)) % 2 ^ 32) (word t / 2 ^ (8 * (o % 4) + 8) * 2 ^ (8 * (o % 4) + 8) % 2 ^ 64)) ≡ lwr rules m o t
  unfolding lwr
  lwr_or r =
      let k : ℕ = word t / 256 ^ (o % 4 + 1) * 256 ^ (o % 4 + 1) in
      let l : k ≤ word t = div-mul-le_self (word t) (256 ^ (o % 4 + 1)) in
      rw (r, kept_is (8 * (o % 4) + 8) (o % 4 + 1) (omega arith) (word t) (omega arith))
      (ap (sext 32) (or_is (word (m / 2 ^ (24 - 8 * (o % 4)))) k (omega arith) (omega arith)))

  pub lwr_word : rules ≡ Manual → (w : ℕ) → w ≡ part_at 4 m o → sext 32 (merged (8 * (o % 4) + 8) (24 - 8 * (o % 4)) (word t) w) ≡ lwr rules m o t
  unfolding lwr
  lwr_word r w e =
      rw (r, ← word_high m o (o % 4 + 1) (3 - o % 4) (omega arith), ← e)
      (ap (sext 32) (merged_is (8 * (o % 4) + 8) (24 - 8 * (o % 4)) (o % 4 + 1) (3 - o % 4) (omega arith) (omega arith) (word t) w (omega arith)))

  -- ---- LDR

  pub ldr_or : rules ≡ Interpreter → o ≡ 7 → m < 2 ^ 64 → t < 2 ^ 64 → bit_or m t ≡ ldr rules m o t
  unfolding ldr
  ldr_or r e h l = rw (r, eq-eqb _ _ e) (or_is m t h l)

  pub ldr_all : rules ≡ Manual → o ≡ 7 → m < 2 ^ 64 → t < 2 ^ 64 → m ≡ ldr rules m o t
  unfolding ldr
  ldr_all r e h l = rw (r, e) (omega (arith, big_end 8 0 8 m refl))

  pub ldr_part : (o ≡ 7 → ⊥) → o < 8 → m < 2 ^ 64 → t < 2 ^ 64 → merged (8 * o + 8) (56 - 8 * o) t m ≡ ldr rules m o t
  unfolding ldr
  ldr_part n g h l =
      rw (ne_eqb _ _ n, by_same rules false, big_start 8 (o + 1) (7 - o) m (omega arith) h)
      (merged_is (8 * o + 8) (56 - 8 * o) (o + 1) (7 - o) (omega arith) (omega arith) t m l)
