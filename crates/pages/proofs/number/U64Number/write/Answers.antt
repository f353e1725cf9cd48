use native.Mathlib.Numerals.{towards_suc}
use Rattle.pages.proofs.Laws.Std.{bytes_of-eight}
use Rattle.pages.proofs.number.U64Number.write.Goals as goal

pub returns : goal.returns
returns c = simp (towards_suc, bytes_of-eight, c.to_be_bytes-bytes.ensures)
