-- Where bytes stand in the slice: what a private function of page.rt answers. No public promise rests on it.
use Rattle.std.specs.Prelude.{ℕ, ◌+◌, ◌*◌, ◌/◌, ◌%◌, List, Option, Some, None, Result, Ok, Err}
use Rattle.pages.specs.Pages.{lookup}
use Rattle.pages.specs.declared.page.PageError.{PageError}

abbrev pub to_place : ℕ → Result (Option ℕ) PageError → Option ℕ
to_place o (Ok (Some i)) = Some (i * 4104 + 8 + o)
to_place o (Ok None) = None
to_place o (Err e) = None

-- where the byte of an address stands
unfoldable pub place_of : List ℕ → ℕ → ℕ → Option ℕ
place_of p used a = to_place (a % 4096) (lookup p used (a / 4096))
