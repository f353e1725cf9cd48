-- Loads as functions of the aligned eight bytes m, the offset o in them, and t, the value of rt. Byte 0 is the highest: memory is big-endian.
use Rattle.std.specs.Prelude.{ℕ, ◌+◌, ◌-◌, ◌*◌, ◌/◌, ◌%◌, ◌^◌, false, cond, not, ◌==◌, Result, Ok, Err}
use Rattle.pages.specs.Bytes.{cell, big, bytes_of}
use Rattle.interpreter.specs.Words.{rules_of, by_rules, word, plus, sext, or}
use Rattle.interpreter.specs.Isa.{imm_of, Load, LB, LBU, LH, LHU, LW, LWU, LL, LD, LLD, LWL, LWR, LDL, LDR}
use Rattle.interpreter.specs.declared.effect.Ins.{Ins}
use Rattle.interpreter.specs.declared.effect.Rules.{Rules}
use Rattle.interpreter.specs.declared.effect.Refusal.{Refusal}
use Rattle.interpreter.specs.declared.effect.Refusal.TheVariants.{AddressError}

-- ---- the address

abbrev pub address_of : ℕ → ℕ → ℕ
address_of w base = plus base (sext 16 (imm_of w))

abbrev pub offset_of : Ins → ℕ
offset_of i = address_of i.word i.rs % 8

-- an access of n bytes: rules 1 refuses it off its alignment
unfoldable pub aligned : Ins → ℕ → ℕ → Result ℕ Refusal
aligned i n v = cond (by_rules (rules_of i.rules) false (not (address_of i.word i.rs % n == 0))) (Err AddressError) (Ok v)

-- ---- whole bytes, halfwords, words. Where rules 0 lets an address off alignment pass, its low bits are cleared

-- byte k of the eight
abbrev pub byte : ℕ → ℕ → ℕ
byte m k = cell (bytes_of 8 m) k

-- the byte, halfword or word of n bytes that the offset is in
unfoldable pub part_at : ℕ → ℕ → ℕ → ℕ
part_at n m o = big n (byte m) (o / n * n)

-- ---- parts. LWL and LWR take the bytes of one word, LDL and LDR those of the doubleword; both sign-extend the merged word

-- the bytes from the address to the end of its word, and then the low bytes of rt. Rules 0 always uses bytes 4 to 7
unfoldable pub lwl : Rules → ℕ → ℕ → ℕ → ℕ
lwl rules m o t = sext 32 (big (4 - o % 4) (byte m) (by_rules rules (4 + o % 4) o) * 256 ^ (o % 4) + t % 256 ^ (o % 4))

-- the high bytes of rt's low word, as they are kept above n bytes
abbrev pub kept : ℕ → ℕ → ℕ
kept n t = t / 256 ^ n * 256 ^ n

-- the high bytes of rt, and then those from the start of the word to the address.
-- Rules 0 takes the low word of doubleword >> (24 - 8·(offset mod 4)), or-ed with the kept bits of rt
unfoldable pub lwr : Rules → ℕ → ℕ → ℕ → ℕ
lwr rules m o t =
    sext 32
    (by_rules rules (or (word (m / 2 ^ (24 - 8 * (o % 4)))) (kept (o % 4 + 1) (word t)))
    (kept (o % 4 + 1) (word t) + big (o % 4 + 1) (byte m) (o / 4 * 4)))

-- the bytes from the address to the end, and then the low bytes of rt
unfoldable pub ldl : ℕ → ℕ → ℕ → ℕ
ldl m o t = big (8 - o) (byte m) o * 256 ^ o + t % 256 ^ o

-- the high bytes of rt, and then those from the start to the address. At offset 7 rules 0 ors memory with rt
unfoldable pub ldr : Rules → ℕ → ℕ → ℕ → ℕ
ldr rules m o t = cond (by_rules rules (o == 7) false) (or m t) (kept (o + 1) t + big (o + 1) (byte m) 0)

-- ---- what each loads

unfoldable pub loaded : Load → Ins → Result ℕ Refusal
loaded LB i = Ok (sext 8 (part_at 1 i.mem (offset_of i)))
loaded LBU i = Ok (part_at 1 i.mem (offset_of i))
loaded LH i = aligned i 2 (sext 16 (part_at 2 i.mem (offset_of i)))
loaded LHU i = aligned i 2 (part_at 2 i.mem (offset_of i))
loaded LW i = aligned i 4 (sext 32 (part_at 4 i.mem (offset_of i)))
loaded LWU i = aligned i 4 (part_at 4 i.mem (offset_of i))
loaded LL i = aligned i 4 (sext 32 (part_at 4 i.mem (offset_of i)))
loaded LD i = aligned i 8 i.mem
loaded LLD i = aligned i 8 i.mem
loaded LWL i = Ok (lwl (rules_of i.rules) i.mem (offset_of i) i.rt)
loaded LWR i = Ok (lwr (rules_of i.rules) i.mem (offset_of i) i.rt)
loaded LDL i = Ok (ldl i.mem (offset_of i) i.rt)
loaded LDR i = Ok (ldr (rules_of i.rules) i.mem (offset_of i) i.rt)
