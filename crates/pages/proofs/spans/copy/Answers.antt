use Rattle.std.proofs.Common.{refl, length-set}
use Rattle.pages.specs.Bytes.{row}
use Rattle.pages.proofs.Laws.Runs.{sets_next}
use Rattle.pages.proofs.spans.copy.Goals as goal

pub loop-i-init : goal.loop-i-init
unfolding row
loop-i-init c = (refl, refl)

pub loop-i-preserved : goal.loop-i-preserved
loop-i-preserved c = (simp length-set c.loop-i.invariant.0, sets_next _ _ _ _ _ _ _ c.loop-i.invariant.1 refl)
