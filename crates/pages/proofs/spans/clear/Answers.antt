use Rattle.std.proofs.Common.{arith}
use Rattle.pages.proofs.Laws.Std.{filled}
use Rattle.pages.proofs.spans.clear.Goals as goal

pub returns : goal.returns
returns c = filled _ _ _ _ (omega arith) (omega arith) (c.fill.ensures.after (λ y e. e))
