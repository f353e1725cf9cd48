use Rattle.std.proofs.Common.{arith, sym, ◌∙◌}
use Rattle.pages.proofs.Laws.Std.{stored_part, bytes_of-four}
use Rattle.pages.proofs.number.U32Number.write.Goals as goal

pub returns : goal.returns
returns c = stored_part _ _ _ 4 (omega arith) (omega arith) _ (c.copy_from_slice.ensures.after ∙ c.to_be_bytes.ensures ∙ sym (bytes_of-four _))
