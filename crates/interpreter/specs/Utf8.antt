-- UTF-8 (Unicode, Table 3-7, "Well-Formed UTF-8 Byte Sequences").
use Rattle.std.specs.Prelude.{ℕ, zero, suc, Bool, true, false, cond, ◌&&◌, List, [], ◌∷◌, length, drop, ◌==◌, nat_le}

infixl 80 ◌to◌
-- the bytes from the first to the last
pub record Range : Type 0 where
  pub low : ℕ
  pub high : ℕ

abbrev pub ◌to◌ : ℕ → ℕ → Range
a to b = record { low = a; high = b }

-- the table: a row for each kind of character, a range for each of its bytes
unfoldable pub rows : List (List Range)
rows =
    (0x00 to 0x7f ∷ [])
    ∷ (0xc2 to 0xdf ∷ 0x80 to 0xbf ∷ [])
    ∷ (0xe0 to 0xe0 ∷ 0xa0 to 0xbf ∷ 0x80 to 0xbf ∷ [])
    ∷ (0xe1 to 0xec ∷ 0x80 to 0xbf ∷ 0x80 to 0xbf ∷ [])
    ∷ (0xed to 0xed ∷ 0x80 to 0x9f ∷ 0x80 to 0xbf ∷ [])
    ∷ (0xee to 0xef ∷ 0x80 to 0xbf ∷ 0x80 to 0xbf ∷ [])
    ∷ (0xf0 to 0xf0 ∷ 0x90 to 0xbf ∷ 0x80 to 0xbf ∷ 0x80 to 0xbf ∷ [])
    ∷ (0xf1 to 0xf3 ∷ 0x80 to 0xbf ∷ 0x80 to 0xbf ∷ 0x80 to 0xbf ∷ [])
    ∷ (0xf4 to 0xf4 ∷ 0x80 to 0x8f ∷ 0x80 to 0xbf ∷ 0x80 to 0xbf ∷ [])
    ∷ []

-- whether a text begins with bytes of these ranges
unfoldable pub begins : List Range → List ℕ → Bool
begins [] t = true
begins (r ∷ rs) [] = false
begins (r ∷ rs) (b ∷ t) = nat_le r.low b && (nat_le b r.high && begins rs t)

-- the length of the first of these rows that the text begins with, and 0 where it begins with none
unfoldable pub first_row : List (List Range) → List ℕ → ℕ
first_row [] t = 0
first_row (r ∷ rs) t = cond (begins r t) (length r) (first_row rs t)

-- the length of the character that a text begins with
unfoldable pub character : List ℕ → ℕ
character t = first_row rows t

-- whether a text is at most n characters, one after the other, and nothing else
unfoldable pub well_formed : ℕ → List ℕ → Bool
well_formed zero t = length t == 0
well_formed (suc n) t = cond (length t == 0) true (cond (character t == 0) false (well_formed n (drop (character t) t)))

unfoldable pub utf8 : List ℕ → Bool
utf8 t = well_formed (length t) t
