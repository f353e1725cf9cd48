use Rattle.std.proofs.Common.{refl, arith}
use Rattle.interpreter.proofs.Laws.Layout.{key_copied}
use Rattle.interpreter.proofs.layout.key_at.Goals as goal

pub returns : goal.returns
returns c = key_copied _ _ _ (omega arith) refl c.copy.ensures
