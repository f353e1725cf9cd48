use Rattle.std.proofs.Common.{◌∙◌}
use Rattle.pages.proofs.Laws.Runs.{length_row}
use Rattle.pages.proofs.Laws.Places.{put_in, put_not}
use Rattle.pages.proofs.bytes.clear.Goals as goal

pub returns-then-holds : goal.returns-then-holds
returns-then-holds c =
    c.clear.ensures ∙ put_in _ _ _ _ (length_row _ _ _) c.holds.ensures c.if-holds.true

pub returns : goal.returns
returns c = put_not _ _ _ _ (length_row _ _ _) c.holds.ensures c.if-holds.false
