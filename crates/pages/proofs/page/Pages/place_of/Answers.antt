use Rattle.std.proofs.Common.{Ok, arith, ap, sym, ◌∙◌}
use Rattle.pages.specs.Places.{place_of, to_place}
use Rattle.pages.proofs.Laws.Lookups.{found_at}
use Rattle.pages.proofs.page.Pages.place_of.Goals as goal

pub overflow_mul-result : goal.overflow_mul-result
overflow_mul-result c = let r = found_at _ _ _ _ (sym c.record_of.ensures ∙ ap Ok c.in-Some.is) in omega (arith, r)

pub overflow_add-result : goal.overflow_add-result
overflow_add-result c = let r = found_at _ _ _ _ (sym c.record_of.ensures ∙ ap Ok c.in-Some.is) in omega (arith, r)

pub overflow_add-result-in-Some : goal.overflow_add-result-in-Some
overflow_add-result-in-Some c = let r = found_at _ _ _ _ (sym c.record_of.ensures ∙ ap Ok c.in-Some.is) in omega (arith, r)

pub returns-in-Some : goal.returns-in-Some
unfolding place_of
returns-in-Some c = ap (to_place _) (ap Ok (sym c.in-Some.is) ∙ c.record_of.ensures)

pub returns-in-None : goal.returns-in-None
unfolding place_of
returns-in-None c = ap (to_place _) (ap Ok (sym c.in-None.is) ∙ c.record_of.ensures)
