-- A hint (document 01, "System calls, both rules"): its length in four bytes, big-endian, and then its text.
use Rattle.std.specs.Prelude.{ℕ, ◌+◌, Bool, cond, not, List, length, drop, nat_lt, Option, Some, None, Result, Ok, Err}
use Rattle.pages.specs.Bytes.{big, cell}
use Rattle.interpreter.specs.Utf8.{utf8}
use Rattle.interpreter.specs.declared.effect.Refusal.{Refusal}
use Rattle.interpreter.specs.declared.effect.Refusal.TheVariants.{NoRoom, HintShort, HintText}

abbrev pub announced : List ℕ → ℕ
announced t = big 4 (cell t) 0

abbrev pub text_of : List ℕ → List ℕ
text_of t = drop 4 t

-- what is done with all the bytes held, where a hint that is handed out is some of so many bytes: kept while fewer than 4 or the announced length is smaller than the rest;
-- 12, 13 and 9 for output in this order; else the hint is handed out
unfoldable pub heard : List ℕ → (ℕ → Bool) → Result (Option ℕ) Refusal
heard t fits =
    cond (nat_lt (length t) 4) (Ok None)
    (cond (nat_lt (length t) (4 + announced t)) (Err HintShort)
    (cond (nat_lt (4 + announced t) (length t)) (Ok None)
    (cond (not (utf8 (text_of t))) (Err HintText)
    (cond (not (fits (announced t))) (Err NoRoom)
    (Ok (Some (announced t)))))))
