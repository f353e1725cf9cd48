-- What the program's private parts leave. No public promise rests on this.
use Rattle.std.specs.Prelude.{◌≡◌, ℕ, ◌+◌, List, length}
use Rattle.std.proofs.lemmas.List.Edits.{sets}

-- a text at a place of a buffer, which then is another, and the place behind it
pub record Puts (o : List ℕ) (at : ℕ) (text : List ℕ) (next : ℕ) (exit : List ℕ) : Type 0 where
  pub place : next ≡ at + length text
  pub bytes : exit ≡ sets o at text
