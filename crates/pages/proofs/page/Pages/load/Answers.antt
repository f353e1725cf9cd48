use Rattle.std.proofs.Common.{arith, ◌∙◌}
use Rattle.pages.proofs.Laws.Widths.{in_page}
use Rattle.pages.proofs.Laws.Lookups.{place_inside}
use Rattle.pages.proofs.Laws.Loads.{big_placed}
use Rattle.pages.proofs.page.Pages.load.Goals as goal

pub read-requires : goal.read-requires
read-requires g c = let i = place_inside _ _ _ _ c.place_of.ensures c.in-Some.is in let f = in_page _ g.T.Number.widths c.requires in omega (arith, i, f)

pub returns-in-Some : goal.returns-in-Some
returns-in-Some g c = c.read.ensures ∙ big_placed _ _ _ _ (in_page _ g.T.Number.widths c.requires) c.place_of.ensures c.in-Some.is

pub returns-in-None : goal.returns-in-None
returns-in-None g c = big_placed g.T.Number.SIZE _ _ _ (in_page _ g.T.Number.widths c.requires) c.place_of.ensures c.in-None.is
