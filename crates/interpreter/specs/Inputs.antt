-- The input (document 01, "What the machine holds"): an index of 48-byte records (key 32, start 8, length 8), and the data.
use Rattle.std.specs.Prelude.{ℕ, zero, suc, ◌+◌, ◌-◌, ◌*◌, ◌/◌, ◌%◌, min, Bool, true, cond, ◌&&◌, List, [], ◌++◌, length, ◌==◌, nat_le, Option, Some, None}
use Rattle.std.proofs.lemmas.List.Edits.{sets}
use Rattle.pages.specs.Bytes.{cell, row, big, bytes_of}
use Rattle.interpreter.specs.declared.input.Entry.{Entry}

-- whether the n bytes from a on in the one are those from b on in the other
unfoldable pub same : ℕ → (ℕ → ℕ) → ℕ → (ℕ → ℕ) → ℕ → Bool
same zero f a g b = true
same (suc n) f a g b = same n f a g b && f (a + n) == g (b + n)

-- whether record i has the key
unfoldable pub has_key : List ℕ → List ℕ → ℕ → Bool
has_key x key i = same 32 (cell x) (i * 48) (cell key) 0

-- the start and length in record i
abbrev pub entry_at : List ℕ → ℕ → Entry
entry_at x i = record { start = big 8 (cell x) (i * 48 + 32); length = big 8 (cell x) (i * 48 + 40) }

-- the first of the n records from record i on that has the key
unfoldable pub first_entry : List ℕ → List ℕ → ℕ → ℕ → Option Entry
first_entry x key zero i = None
first_entry x key (suc n) i = cond (has_key x key i) (Some (entry_at x i)) (first_entry x key n (suc i))

-- the first whole record with the key decides
unfoldable pub entry_of : List ℕ → List ℕ → Option Entry
entry_of x key = first_entry x key (length x / 48) 0

-- whether n bytes from start on lie in the data; the sum is not wrapped
abbrev pub inside : List ℕ → ℕ → ℕ → Bool
inside d start n = nat_le (start + n) (length d)

-- the preimage: a part of the data
abbrev pub part_of : List ℕ → ℕ → ℕ → List ℕ
part_of d start n = row (cell d) start n

-- and where it does not lie in the data, nothing
unfoldable pub part_def : List ℕ → ℕ → ℕ → List ℕ
part_def d start n = cond (inside d start n) (part_of d start n) []

-- what the program reads: the preimage's length in 8 big-endian bytes, then the preimage
abbrev pub content : List ℕ → List ℕ
content d = bytes_of 8 (length d) ++ d

-- how many bytes a read moves: min(a2, 8 - a1 mod 8, 32, bytes left)
unfoldable pub moving : ℕ → ℕ → ℕ → ℕ → ℕ
moving n offset a1 a2 = min a2 (min (8 - a1 % 8) (min 32 (8 + n - offset)))

-- the bytes that it moves
unfoldable pub moved : List ℕ → ℕ → ℕ → List ℕ
moved d offset n = row (cell (content d)) offset n

-- the eight bytes x with the bytes vs in them, from byte i on
unfoldable pub merged : ℕ → ℕ → List ℕ → ℕ
merged x i vs = big 8 (cell (sets (bytes_of 8 x) i vs)) 0

-- how many bytes a write to 6 shifts into the key: min(a2, 8 - a1 mod 8)
abbrev pub shifting : ℕ → ℕ → ℕ
shifting a1 a2 = min a2 (8 - a1 % 8)

-- the key's 32 bytes with the bytes vs shifted into their end
unfoldable pub shifted : List ℕ → List ℕ → List ℕ
shifted key vs = row (cell (row (cell key) 0 32 ++ vs)) (length vs) 32
