use Rattle.std.proofs.Common.{arith, refl, ◌∙◌}
use Rattle.pages.proofs.Laws.Runs.{length_row}
use Rattle.pages.proofs.Laws.Std.{zeros-part}
use Rattle.pages.proofs.Laws.Places.{sets_whole}
use Rattle.pages.proofs.Laws.Lookups.{place_inside}
use Rattle.pages.proofs.Laws.Loads.{span_placed}
use Rattle.pages.proofs.page.Pages.copy_in_page.Goals as goal

pub copy-requires : goal.copy-requires
copy-requires c = let i = place_inside _ _ _ _ c.place_of.ensures c.in-Some.is in omega (arith, i)

pub returns-in-Some : goal.returns-in-Some
returns-in-Some c =
    c.copy.ensures ∙ sets_whole _ _ (length_row _ _ _) ∙ span_placed _ _ _ _ (omega arith) (omega arith) c.place_of.ensures c.in-Some.is

pub returns-in-None : goal.returns-in-None
returns-in-None c = c.fill.ensures.after (λ y e. e) ∙ zeros-part _ _ refl ∙ span_placed _ _ _ _ (omega arith) (omega arith) c.place_of.ensures c.in-None.is
