use Rattle.std.proofs.Common.{sym, ◌∙◌}
use Rattle.pages.proofs.Laws.Places.{test_in, test_out, number_fits, number_out}
use Rattle.pages.proofs.bytes.read.Goals as goal

pub returns-then-holds : goal.returns-then-holds
returns-then-holds g c = c.read.ensures ∙ sym (number_fits g.T.Number.SIZE _ _ (test_in (rw c.SIZE.ensures at c.holds.ensures) c.if-holds.true))

pub returns : goal.returns
returns g c = sym (number_out g.T.Number.SIZE _ _ (test_out (rw c.SIZE.ensures at c.holds.ensures) c.if-holds.false))
