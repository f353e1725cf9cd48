use Rattle.std.proofs.Common.{◌∙◌}
use Rattle.pages.proofs.Laws.Numbers.{length_bytes}
use Rattle.pages.proofs.Laws.Places.{put_in, put_not}
use Rattle.pages.proofs.bytes.put.Goals as goal

pub returns-then-holds : goal.returns-then-holds
returns-then-holds g c = c.write.ensures ∙ put_in _ _ _ g.T.Number.SIZE (length_bytes g.T.Number.SIZE _) (rw c.SIZE.ensures at c.holds.ensures) c.if-holds.true

pub returns : goal.returns
returns g c = put_not _ _ _ g.T.Number.SIZE (length_bytes g.T.Number.SIZE _) (rw c.SIZE.ensures at c.holds.ensures) c.if-holds.false
