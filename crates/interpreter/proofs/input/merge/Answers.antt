use Rattle.std.proofs.Common.{length-set}
use Rattle.pages.proofs.Laws.Runs.{sets_next}
use Rattle.interpreter.proofs.input.merge.Goals as goal

pub loop-i-preserved : goal.loop-i-preserved
loop-i-preserved c =
    let l = c.loop-i in
    (simp length-set l.invariant.0, sets_next _ _ _ _ _ _ _ l.invariant.1 c.content_at.ensures)
