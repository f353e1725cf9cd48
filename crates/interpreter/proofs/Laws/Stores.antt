-- What the code of SWL, SWR, SDL and SDR computes is what they store.
use Rattle.std.proofs.Common.{◌≡◌, ℕ, ◌+◌, ◌-◌, ◌*◌, ◌/◌, ◌%◌, ◌^◌, ◌<◌, ◌≤◌, false, refl, ◌∙◌, add-zero, mod-eq_of_lt, add_comm, div-add-mod', arith, shl_exact, le-ltb, lt-ltb}
use lib.Bits.{bit_or}
use Rattle.interpreter.specs.Words.{word}
use Rattle.interpreter.specs.declared.effect.Rules.{Rules}
use Rattle.interpreter.specs.declared.effect.Rules.TheVariants.{Interpreter, Manual}
use Rattle.interpreter.proofs.Laws.Words.{by_same}
use Rattle.interpreter.specs.Loads.{part_at}
use Rattle.interpreter.specs.Stores.{part_put, swl, swr, swr_word, pushed_out, sdl, sdr}
use Rattle.interpreter.proofs.Laws.Shifts.{mod_mod, shr_lt, raised, raised_is, raised_word, raised_word_lem, raised_word_lt, merged, merged_is, merged_lt}
use Rattle.interpreter.proofs.Laws.Bytes.{word_high, word_low}
use Rattle.interpreter.proofs.Laws.Puts.{put_is, put_lt, put_after, put_before}
use Rattle.interpreter.proofs.Laws.Bitwise.{or_is}

-- ---- the sums fit

pub swl_fits : (o t w : ℕ) → w < 2 ^ 32 → merged (32 - 8 * (o % 4)) (8 * (o % 4)) w (word t) < 2 ^ 64
swl_fits o t w h =
    omega (arith, merged_lt (32 - 8 * (o % 4)) (8 * (o % 4)) (4 - o % 4) (o % 4) (omega arith) refl w (word t) (omega arith) 4 (omega arith) h (omega arith))

pub swr_fits : (o t w : ℕ) → raised_word (24 - 8 * (o % 4)) (word t) w < 2 ^ 64
swr_fits o t w = omega (arith, raised_word_lt (24 - 8 * (o % 4)) (o % 4 + 1) (3 - o % 4) (omega arith) (omega arith) (word t) w)

pub sdl_fits : (m o t : ℕ) → o < 8 → m < 2 ^ 64 → t < 2 ^ 64 → merged (64 - 8 * o) (8 * o) m t < 2 ^ 64
sdl_fits m o t g h l = merged_lt (64 - 8 * o) (8 * o) (8 - o) o (omega arith) refl m t h 8 (omega arith) h l

-- ---- parts of a word

module _ (m o t : ℕ) (g : o < 8) (h : m < 2 ^ 64) (w : ℕ) (e : w ≡ part_at 4 m o) where
  pub swl_is : w < 2 ^ 32 → part_put 4 m o (merged (32 - 8 * (o % 4)) (8 * (o % 4)) w (word t)) ≡ swl m o t
  unfolding part_put swl
  swl_is l =
      let q : ℕ = o % 4 in
      let v : ℕ = word t / 256 ^ q in
      let a : q + (4 - q) ≡ 4 = omega arith in
      let b : v % 256 ^ (4 - q) ≡ v = mod-eq_of_lt (shr_lt (4 - q) q (word t) (rw (add_comm (4 - q) q, a) (omega arith))) in
      rw (merged_is (32 - 8 * q) (8 * q) (4 - q) q (omega arith) refl w (word t) (omega arith), e, word_high m o q (4 - q) a)
      (rw (a, b, div-add-mod' o 4) at (put_after (o / 4 * 4) q (4 - q) (4 - o / 4 * 4) (omega arith) m v h))

  swr_word_lem : part_put 4 m o (raised_word (24 - 8 * (o % 4)) (word t) w) ≡ swr_word m o t
  unfolding part_put
  swr_word_lem =
      let q : ℕ = o % 4 in
      let a : q + 1 + (3 - q) ≡ 4 = omega arith in
      let b : word t % 256 ^ (q + 1) ≡ t % 256 ^ (q + 1) = rw (add_comm (3 - q) (q + 1), a) at (mod_mod (3 - q) (q + 1) t) in
      rw (raised_word_lem (24 - 8 * q) (q + 1) (3 - q) (omega arith) a (word t) w, b, e, word_low m o (q + 1) (3 - q) a)
      (rw a at (put_before (o / 4 * 4) (q + 1) (3 - q) (4 - o / 4 * 4) (omega arith) m t h))

  -- rules 0, in the lower word: what is pushed out is or-ed into the upper word
  pub swr_or : (rules : Rules) → rules ≡ Interpreter → 4 ≤ o
      → bit_or (part_put 4 m o (raised_word (24 - 8 * (o % 4)) (word t) w)) (word t * 2 ^ (24 - 8 * (o % 4)) % 2 ^ 64 / 2 ^ 32 * 2 ^ 32) ≡ swr rules m o t
  unfolding swr
  swr_or rules r l =
      let u : ℕ = 24 - 8 * (o % 4) in
      let x : word t * 2 ^ u % 2 ^ 64 ≡ word t * 2 ^ u = shl_exact 32 u 64 (omega arith) (omega arith) in
      rw (r, le-ltb _ _ l, swr_word_lem, x)
      (or_is (swr_word m o t) (pushed_out o t) (put_lt m (o / 4 * 4) (o % 4 + 1) t) (omega arith))

  pub swr_upper : (rules : Rules) → o < 4 → part_put 4 m o (raised_word (24 - 8 * (o % 4)) (word t) w) ≡ swr rules m o t
  unfolding swr
  swr_upper rules l = rw (lt-ltb _ _ l, by_same rules false) swr_word_lem

  pub swr_cut : (rules : Rules) → rules ≡ Manual → part_put 4 m o (raised_word (24 - 8 * (o % 4)) (word t) w) ≡ swr rules m o t
  unfolding swr
  swr_cut rules r = rw r swr_word_lem

-- ---- parts of the doubleword

module _ (m o t : ℕ) (h : m < 2 ^ 64) (l : t < 2 ^ 64) where
  pub sdl_all : o ≡ 0 → t ≡ sdl m o t
  unfolding sdl
  sdl_all e = rw e (omega (arith, put_is 0 8 0 refl m (t / 256 ^ 0) h))

  pub sdl_part : o < 8 → merged (64 - 8 * o) (8 * o) m t ≡ sdl m o t
  unfolding sdl
  sdl_part g =
      let v : ℕ = t / 256 ^ o in
      let a : 8 - o + o ≡ 8 = omega arith in
      let b : v % 256 ^ (8 - o) ≡ v = mod-eq_of_lt (shr_lt (8 - o) o t (rw a l)) in
      let p = rw (b, add-zero (8 - o)) at (put_is o (8 - o) 0 (omega arith) m v h) in
      merged_is (64 - 8 * o) (8 * o) (8 - o) o (omega arith) refl m t h ∙ omega (arith, p)

  pub sdr_is : o < 8 → raised (56 - 8 * o) t m ≡ sdr m o t
  unfolding sdr
  sdr_is g =
      let a : o + 1 + (7 - o) ≡ 8 = omega arith in
      let p = rw a at (put_is 0 (o + 1) (7 - o) (omega arith) m t h) in
      raised_is (56 - 8 * o) (o + 1) (7 - o) (omega arith) a (omega arith) t m ∙ omega (arith, p)
