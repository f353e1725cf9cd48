use Rattle.std.proofs.Common.{◌∙◌}
use Rattle.pages.proofs.Laws.Runs.{length_row}
use Rattle.pages.proofs.Laws.Places.{put_in, put_not, copy_put, copy_not}
use Rattle.pages.proofs.bytes.copy.Goals as goal

pub returns-then-not-holds : goal.returns-then-not-holds
returns-then-not-holds c = copy_not _ _ _ _ _ c.holds.ensures c.if-not-holds.true

pub returns-then-not-holds-2 : goal.returns-then-not-holds-2
returns-then-not-holds-2 c =
    put_not _ _ _ _ (length_row _ _ _) c.holds-2.ensures c.if-not-holds-2.true ∙ copy_put _ _ _ _ _ c.holds.ensures c.if-not-holds.false

pub returns : goal.returns
returns c =
    c.copy.ensures
    ∙ put_in _ _ _ _ (length_row _ _ _) c.holds-2.ensures c.if-not-holds-2.false
    ∙ copy_put _ _ _ _ _ c.holds.ensures c.if-not-holds.false
