-- Page records (document 01, "What the machine holds"): the page's number in eight bytes, big-endian, and then its 4,096 bytes.
use Rattle.std.specs.Prelude.{ℕ, zero, suc, ◌+◌, ◌*◌, ◌/◌, ◌%◌, cond, List, length, ◌==◌, nat_lt, Option, Some, None, Result, Ok, Err}
use Rattle.std.proofs.lemmas.List.Edits.{sets}
use Rattle.pages.specs.Bytes.{cell, big, bytes_of, zeros}
use Rattle.pages.specs.Memory.{Memory}
use Rattle.pages.specs.declared.page.PageError.{PageError}
use Rattle.pages.specs.declared.page.PageError.TheVariants.{Overused}

-- how many whole records there are
abbrev pub whole : List ℕ → ℕ
whole p = length p / 4104

-- the number of record i
unfoldable pub number_of : List ℕ → ℕ → ℕ
number_of p i = big 8 (cell p) (i * 4104)

-- the first of the n records from record i on that has the number x
unfoldable pub first_record : List ℕ → ℕ → ℕ → ℕ → Option ℕ
first_record p x zero i = None
first_record p x (suc n) i = cond (number_of p i == x) (Some i) (first_record p x n (suc i))

-- the first used record that has the number x
unfoldable pub lookup : List ℕ → ℕ → ℕ → Result (Option ℕ) PageError
lookup p used x = cond (nat_lt (whole p) used) (Err Overused) (Ok (first_record p x used 0))

-- the byte at offset o of the page that was looked up: an absent page reads as zero
abbrev pub byte_in : List ℕ → ℕ → Result (Option ℕ) PageError → ℕ
byte_in p o (Ok (Some i)) = cell p (i * 4104 + 8 + o)
byte_in p o (Ok None) = 0
byte_in p o (Err e) = 0

-- the memory that the records are: address / 4,096 is the page's number
unfoldable pub byte_at : List ℕ → ℕ → Memory
byte_at p used a = byte_in p (a % 4096) (lookup p used (a / 4096))

-- all the bytes once record i is made page x: its number, and zeros
unfoldable pub open_page : List ℕ → ℕ → ℕ → List ℕ
open_page p i x = sets (sets p (i * 4104) (bytes_of 8 x)) (i * 4104 + 8) (zeros 4096)
