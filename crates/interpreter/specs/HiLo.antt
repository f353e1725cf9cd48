-- Results to hi and lo, an instruction a line.
use Rattle.std.specs.Prelude.{ℕ, ◌+◌, ◌-◌, ◌*◌, ◌/◌, ◌%◌, ◌^◌, Bool, false, cond, ◌&&◌, ◌==◌, Ok, Err}
use Rattle.interpreter.specs.Words.{rules_of, by_rules, word, sext, quotient, remainder, product}
use Rattle.interpreter.specs.Isa.{rd_of, HiLo, MTHI, MTLO, MULT, MULTU, DMULT, DMULTU, DIV, DIVU, DDIV, DDIVU}
use Rattle.interpreter.specs.Effects.{Effect, changes}
use Rattle.interpreter.specs.declared.effect.Ins.{Ins}
use Rattle.interpreter.specs.declared.effect.Rules.{Rules}
use Rattle.interpreter.specs.declared.effect.Change.{Change}
use Rattle.interpreter.specs.declared.effect.Stop.TheVariants.{Refused}
use Rattle.interpreter.specs.declared.effect.Refusal.TheVariants.{DivideByZero, Overflow}
use Rattle.interpreter.specs.declared.hi_lo.Pair.{Pair}

abbrev pub pair : ℕ → ℕ → Pair
pair h l = record { hi = h; lo = l }

-- the two words of 64 bits, each sign-extended
abbrev pub words : ℕ → Pair
words p = pair (sext 32 (p / 2 ^ 32)) (sext 32 p)

-- the two doublewords of 128 bits
abbrev pub doublewords : ℕ → Pair
doublewords p = pair (p / 2 ^ 64) (p % 2 ^ 64)

-- the negative of 128 bits
unfoldable pub negated : Pair → Pair
negated p = doublewords ((2 ^ 128 - (p.hi * 2 ^ 64 + p.lo)) % 2 ^ 128)

unfoldable pub mult : ℕ → ℕ → Pair
mult x y = words (product 32 (word x) (word y))

unfoldable pub multu : ℕ → ℕ → Pair
multu x y = words (word x * word y)

unfoldable pub dmultu : ℕ → ℕ → Pair
dmultu x y = doublewords (x * y)

-- rules 0 is unsigned
unfoldable pub dmult : Rules → ℕ → ℕ → Pair
dmult rules x y = by_rules rules (dmultu x y) (doublewords (product 64 x y))

unfoldable pub div : ℕ → ℕ → Pair
div x y = pair (sext 32 (remainder 32 (word x) (word y))) (sext 32 (quotient 32 (word x) (word y)))

-- rules 0 doesn't sign-extend
unfoldable pub divu : Rules → ℕ → ℕ → Pair
divu rules x y = by_rules rules (pair (word x % word y) (word x / word y)) (pair (sext 32 (word x % word y)) (sext 32 (word x / word y)))

unfoldable pub ddiv : ℕ → ℕ → Pair
ddiv x y = pair (remainder 64 x y) (quotient 64 x y)

unfoldable pub ddivu : ℕ → ℕ → Pair
ddivu x y = pair (x % y) (x / y)

-- rules 0: the least number of n bits by -1
unfoldable pub overflows : ℕ → Rules → ℕ → ℕ → Bool
overflows n rules x y = by_rules rules (x == 2 ^ (n - 1) && y == 2 ^ n - 1) false

-- ---- effects

-- rules 0 writes 0 to rd as well, rules 1 no register
abbrev pub to_hi_lo : Ins → Pair → Change
to_hi_lo i p = changes i (by_rules (rules_of i.rules) (rd_of i.word) 0) 0 p.hi p.lo

-- a division of x by y: 5, then 6
abbrev pub dividing : ℕ → Ins → ℕ → ℕ → Pair → Effect
dividing n i x y p =
    cond (y == 0) (Err (Refused DivideByZero))
    (cond (overflows n (rules_of i.rules) x y) (Err (Refused Overflow))
    (Ok (to_hi_lo i p)))

unfoldable pub hi_lo : HiLo → Ins → Effect
hi_lo MTHI i = Ok (to_hi_lo i (pair i.rs i.lo))
hi_lo MTLO i = Ok (to_hi_lo i (pair i.hi i.rs))
hi_lo MULT i = Ok (to_hi_lo i (mult i.rs i.rt))
hi_lo MULTU i = Ok (to_hi_lo i (multu i.rs i.rt))
hi_lo DMULT i = Ok (to_hi_lo i (dmult (rules_of i.rules) i.rs i.rt))
hi_lo DMULTU i = Ok (to_hi_lo i (dmultu i.rs i.rt))
hi_lo DIV i = dividing 32 i (word i.rs) (word i.rt) (div i.rs i.rt)
hi_lo DIVU i = cond (word i.rt == 0) (Err (Refused DivideByZero)) (Ok (to_hi_lo i (divu (rules_of i.rules) i.rs i.rt)))
hi_lo DDIV i = dividing 64 i i.rs i.rt (ddiv i.rs i.rt)
hi_lo DDIVU i = cond (i.rt == 0) (Err (Refused DivideByZero)) (Ok (to_hi_lo i (ddivu i.rs i.rt)))
