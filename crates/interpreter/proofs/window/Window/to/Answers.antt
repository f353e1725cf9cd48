use Rattle.interpreter.specs.Parts.{standing}
use Rattle.pages.proofs.Laws.Lookups.{found_at}
use Rattle.std.proofs.Common.{sym, refl, ap, ◌∙◌, arith, Ok}
use Rattle.interpreter.proofs.window.Window.to.Goals as goal

pub overflow_mul-result : goal.overflow_mul-result
overflow_mul-result c = let r = found_at _ _ _ _ (sym c.page_lookup.ensures ∙ c.in-Ok-Some.is ∙ ap Ok c.in-Ok-Some.field-0-is) in omega (arith, r)

pub overflow_add-result : goal.overflow_add-result
overflow_add-result c = let r = found_at _ _ _ _ (sym c.page_lookup.ensures ∙ c.in-Ok-Some.is ∙ ap Ok c.in-Ok-Some.field-0-is) in omega (arith, r)

pub returns-in-Ok-Some : goal.returns-in-Ok-Some
returns-in-Ok-Some c = standing _ (sym c.page_lookup.ensures ∙ c.in-Ok-Some.is ∙ ap Ok c.in-Ok-Some.field-0-is) refl

pub returns-in-Ok-None : goal.returns-in-Ok-None
returns-in-Ok-None c = c.none.ensures _ _
