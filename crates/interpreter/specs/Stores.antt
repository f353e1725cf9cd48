-- Stores as functions of the aligned eight bytes m, the offset o in them, and t, the value of rt. Byte 0 is the highest.
use Rattle.std.specs.Prelude.{ℕ, ◌+◌, ◌-◌, ◌*◌, ◌/◌, ◌%◌, ◌^◌, false, cond, not, List, ◌==◌, nat_lt, Result, Ok, Err}
use Rattle.pages.specs.Bytes.{big, bytes_of}
use Rattle.pages.specs.Memory.{write}
use Rattle.interpreter.specs.Words.{rules_of, by_rules, word, or}
use Rattle.interpreter.specs.Isa.{rt_of, Store, SB, SH, SW, SD, SWL, SWR, SDL, SDR, Conditional, SC, SCD}
use Rattle.interpreter.specs.Effects.{Effect, to_register, storing}
use Rattle.interpreter.specs.Loads.{offset_of, aligned, byte}
use Rattle.interpreter.specs.declared.effect.Ins.{Ins}
use Rattle.interpreter.specs.declared.effect.Rules.{Rules}
use Rattle.interpreter.specs.declared.effect.Stop.TheVariants.{Refused}
use Rattle.interpreter.specs.declared.effect.Refusal.{Refusal}

-- the eight bytes with the bytes vs written from offset k on
unfoldable pub put : ℕ → ℕ → List ℕ → ℕ
put m k vs = big 8 (write (byte m) k vs) 0

-- ---- whole bytes, halfwords, words, doublewords. Where rules 0 lets an address off alignment pass, its low bits are cleared

-- the low n bytes of rt in the byte, halfword or word that the offset is in
unfoldable pub part_put : ℕ → ℕ → ℕ → ℕ → ℕ
part_put n m o t = put m (o / n * n) (bytes_of n t)

-- off alignment rules 0 stores rt shifted up by the offset, and keeps that many low bytes
unfoldable pub sd : Rules → ℕ → ℕ → ℕ → ℕ
sd rules m o t = by_rules rules (t * 256 ^ o % 2 ^ 64 + m % 256 ^ o) t

-- ---- parts

-- the high bytes of rt's low word, from the address to the end of its word
unfoldable pub swl : ℕ → ℕ → ℕ → ℕ
swl m o t = put m o (bytes_of (4 - o % 4) (word t / 256 ^ (o % 4)))

-- the low bytes of rt, from the start of the word to the address
abbrev pub swr_word : ℕ → ℕ → ℕ → ℕ
swr_word m o t = put m (o / 4 * 4) (bytes_of (o % 4 + 1) t)

-- at offsets 4 to 6 rules 0 also ors the bits pushed out of rt into the upper word
abbrev pub pushed_out : ℕ → ℕ → ℕ
pushed_out o t = word t * 2 ^ (24 - 8 * (o % 4)) / 2 ^ 32 * 2 ^ 32

unfoldable pub swr : Rules → ℕ → ℕ → ℕ → ℕ
swr rules m o t = cond (by_rules rules (not (nat_lt o 4)) false) (or (swr_word m o t) (pushed_out o t)) (swr_word m o t)

-- the high bytes of rt, from the address to the end
unfoldable pub sdl : ℕ → ℕ → ℕ → ℕ
sdl m o t = put m o (bytes_of (8 - o) (t / 256 ^ o))

-- the low bytes of rt, from the start to the address
unfoldable pub sdr : ℕ → ℕ → ℕ → ℕ
sdr m o t = put m 0 (bytes_of (o + 1) t)

-- ---- what each stores: the eight bytes afterwards

unfoldable pub stored : Store → Ins → Result ℕ Refusal
stored SB i = Ok (part_put 1 i.mem (offset_of i) i.rt)
stored SH i = aligned i 2 (part_put 2 i.mem (offset_of i) i.rt)
stored SW i = aligned i 4 (part_put 4 i.mem (offset_of i) i.rt)
stored SD i = aligned i 8 (sd (rules_of i.rules) i.mem (offset_of i) i.rt)
stored SWL i = Ok (swl i.mem (offset_of i) i.rt)
stored SWR i = Ok (swr (rules_of i.rules) i.mem (offset_of i) i.rt)
stored SDL i = Ok (sdl i.mem (offset_of i) i.rt)
stored SDR i = Ok (sdr i.mem (offset_of i) i.rt)

-- SC and SCD store as SW and SD do and put 1 in a nonzero rt; with the field rt = 0 rules 0 stores nothing
abbrev pub answering : Ins → Result ℕ Refusal → Effect
answering i (Ok m) = Ok (cond (by_rules (rules_of i.rules) (rt_of i.word == 0) false) (to_register i 0 0) (storing i (rt_of i.word) 1 m))
answering i (Err n) = Err (Refused n)

unfoldable pub conditionally : Conditional → Ins → Effect
conditionally SC i = answering i (stored SW i)
conditionally SCD i = answering i (stored SD i)
