use Rattle.std.proofs.Common.{Ok, arith, ap, sym, ◌∙◌}
use Rattle.pages.specs.Pages.{number_of}
use Rattle.pages.proofs.Laws.Lookups.{lookup_in, first_here, first_next, first_none}
use Rattle.pages.proofs.page.Pages.record_of.Goals as goal

pub returns-then-read-number : goal.returns-then-read-number
unfolding number_of
returns-then-read-number c =
    sym (lookup_in _ _ _ c.args.self.now.within ∙ ap Ok (c.loop-i.invariant ∙ first_here _ _ _ _ (omega arith) (sym c.read.ensures ∙ c.if-read-number.true)))

pub loop-i-preserved : goal.loop-i-preserved
unfolding number_of
loop-i-preserved c = c.loop-i.invariant ∙ first_next _ _ _ _ (omega arith) (λ e. c.if-read-number.false (c.read.ensures ∙ e))

pub returns : goal.returns
returns c = sym (lookup_in _ _ _ c.args.self.now.within ∙ ap Ok (c.loop-i.invariant ∙ first_none _ _ _ _ (omega arith)))
