-- What each public call answers, and what it leaves in every lent byte.
use Rattle.std.specs.Prelude.{ℕ, ◌+◌, ◌-◌, ◌*◌, ◌/◌, ◌%◌, ◌^◌, min, cond, List, length, ◌==◌, nat_le, nat_lt, Option, Some, None, Result, Ok, Err}
use Rattle.std.proofs.lemmas.List.Edits.{sets}
use Rattle.std.specs.Borrow.{Bor}
use Rattle.pages.specs.Bytes.{cell, row, big, bytes_of}
use Rattle.pages.specs.Memory.{Memory, span}
use Rattle.pages.specs.Pages.{whole, lookup, byte_at, open_page}
use Rattle.pages.specs.declared.page.PageError.{PageError}
use Rattle.pages.specs.declared.page.PageError.TheVariants.{Overused as OverusedPages}
use Rattle.pages.specs.declared.memory.LoadError.{LoadError}
use Rattle.pages.specs.declared.memory.LoadError.TheVariants.{Misaligned as MisalignedLoad, Overused as OverusedLoad}
use Rattle.pages.specs.declared.memory.StoreError.{StoreError}
use Rattle.pages.specs.declared.memory.StoreError.TheVariants.{Misaligned, Overused, Full}
use Rattle.pages.specs.declared.reader.MemoryReader.{MemoryReader}
use Rattle.pages.specs.declared.reader.Position.{Position}

-- ---- bytes of a slice: what does not lie in it reads as 0, and is not written

-- the number of the n bytes from a place on
unfoldable pub number_at : ℕ → List ℕ → ℕ → ℕ
number_at n s at = cond (nat_le (at + n) (length s)) (big n (cell s) at) 0

-- the slice with the bytes vs from a place on
unfoldable pub put_def : List ℕ → ℕ → List ℕ → List ℕ
put_def s at vs = cond (nat_le (at + length vs) (length s)) (sets s at vs) s

-- count bytes of s from a place on, put into d
unfoldable pub copy_def : List ℕ → ℕ → List ℕ → ℕ → ℕ → List ℕ
copy_def s from d at count = cond (nat_le (from + count) (length s)) (put_def d at (row (cell s) from count)) d

-- ---- get_word and get_doubleword, at n bytes

unfoldable pub get_def : ℕ → List ℕ → ℕ → ℕ → Result ℕ LoadError
get_def n p used a =
    cond (a % n == 0)
    (cond (nat_lt (whole p) used) (Err OverusedLoad)
    (Ok (big n (byte_at p used) a)))
    (Err MisalignedLoad)

-- ---- set_word and set_doubleword, at n bytes

pub record Set : Type 0 where
  pub answer : Result ℕ StoreError
  pub pages : List ℕ

abbrev pub stored : Result ℕ StoreError → List ℕ → Set
stored r p = record { answer = r; pages = p }

-- the bytes vs, which lie in one page, stored from address a on, by what the lookup of the page found.
-- An absent page takes the next record: number, zeros, then the store
abbrev pub store_in : List ℕ → ℕ → ℕ → List ℕ → Result (Option ℕ) PageError → Set
store_in p used a vs (Ok (Some i)) = stored (Ok used) (sets p (i * 4104 + 8 + a % 4096) vs)
store_in p used a vs (Ok None) =
    cond (nat_lt used (whole p))
    (stored (Ok (used + 1)) (sets (open_page p used (a / 4096)) (used * 4104 + 8 + a % 4096) vs))
    (stored (Err Full) p)
store_in p used a vs (Err e) = stored (Err Overused) p

unfoldable pub store_def : List ℕ → ℕ → ℕ → List ℕ → Set
store_def p used a vs = store_in p used a vs (lookup p used (a / 4096))

unfoldable pub set_def : ℕ → List ℕ → ℕ → ℕ → ℕ → Set
set_def n p used a v = cond (a % n == 0) (store_def p used a (bytes_of n v)) (stored (Err Misaligned) p)

-- ---- read

-- what a read answers, where the reader stands then, and the buffer
pub record Given : Type 0 where
  pub answer : Result ℕ PageError
  pub stands : Position
  pub buf : List ℕ

abbrev pub given : Result ℕ PageError → Position → List ℕ → Given
given r s b = record { answer = r; stands = s; buf = b }

-- where the reader stands once it has read n bytes
abbrev pub moved : Position → ℕ → Position
moved s n = record { address = (s.address + n) % 2 ^ 64; count = s.count - n }

abbrev pub read_some : Memory → Position → List ℕ → ℕ → Given
read_some m s b n = given (Ok n) (moved s n) (sets b 0 (span m s.address n))

-- as many bytes as may be read and the buffer holds; a refused reader stays, and so does the buffer
unfoldable pub read_def : List ℕ → ℕ → Position → List ℕ → Given
read_def p used s b = cond (nat_lt (whole p) used) (given (Err OverusedPages) s b) (read_some (byte_at p used) s b (min s.count (length b)))

-- ---- a reader that holds the pages' slice

abbrev pub reader : Bor (List ℕ) → ℕ → ℕ → ℕ → MemoryReader
reader p used a n = record { pages = p; used = used; position = record { address = a; count = n } }
