-- A page that was looked up, by its place: what stands there is the memory, and a store there leaves every page where it is.
use Rattle.std.proofs.Common.{◌≡◌, ℕ, ◌+◌, ◌*◌, ◌/◌, ◌%◌, ◌≤◌, List, length, refl, ap, arith, eq-eqb, Some, Ok}
use lib.Seq.{sets}
use Rattle.pages.specs.Bytes.{cell, big, bytes_of}
use Rattle.pages.specs.Pages.{lookup, byte_at}
use Rattle.pages.specs.Places.{to_place, place_of}
use Rattle.pages.specs.Calls.{stored, store_def, set_def}
use Rattle.pages.proofs.Laws.Numbers.{length_bytes}
use Rattle.pages.proofs.Laws.Lookups.{found_at}
use Rattle.pages.proofs.Laws.Loads.{big_placed}
use Rattle.pages.proofs.Laws.Meaning.{lookup_body}

module _ (p : List ℕ) (used a i : ℕ) (found : lookup p used (a / 4096) ≡ Ok (Some i)) where
  pub found_room : (n : ℕ) → a % 4096 + n ≤ 4096 → i * 4104 + 8 + a % 4096 + n ≤ length p
  found_room n h = let r = found_at p used (a / 4096) i found in omega arith

  pub found_number : (n : ℕ) → a % 4096 + n ≤ 4096 → big n (cell p) (i * 4104 + 8 + a % 4096) ≡ big n (byte_at p used) a
  unfolding place_of
  found_number n h = big_placed n p used a h refl (ap (to_place (a % 4096)) found)

  -- the eight bytes of a doubleword lie in its page
  eight_inside : (v : ℕ) → a % 8 ≡ 0 → a % 4096 + length (bytes_of 8 v) ≤ 4096
  eight_inside v h = let l = length_bytes 8 v in omega arith

  pub found_store : (v : ℕ) → a % 8 ≡ 0 → stored (Ok used) (sets p (i * 4104 + 8 + a % 4096) (bytes_of 8 v)) ≡ set_def 8 p used a v
  unfolding set_def store_def
  found_store v h = rw (eq-eqb _ _ h, found)

  pub found_kept : (v : ℕ) → a % 8 ≡ 0 → (x : ℕ) → lookup (sets p (i * 4104 + 8 + a % 4096) (bytes_of 8 v)) used x ≡ lookup p used x
  found_kept v h x = lookup_body p used i a (bytes_of 8 v) (eight_inside v h) found x
