use Rattle.std.proofs.Common.{◌≡◌, refl, ◌∙◌, arith}
use Rattle.interpreter.proofs.Laws.Turns.{core_pc, gone_core, gone_here, gone_stays, gone_turn}
use Rattle.interpreter.proofs.quick.plain_steps.Goals as goal

pub fetch-requires : goal.fetch-requires
fetch-requires c = c.none.ensures _ _

pub loop-count-init : goal.loop-count-init
loop-count-init c = let s = c.in-Some.ensures in let z = core_pc _ c.core-core.ensures in (rw z s.aligned, rw z s.word, s.shows, c.none-data.ensures _ _, refl, λ y h o x d b. gone_core _ _ _ _ _ y h o x d c.core-core.ensures b)

pub returns-in_default-plain_step : goal.returns-in_default-plain_step
returns-in_default-plain_step c = λ y h o x d b. gone_stays _ _ _ _ _ y h o x d _ _ c.in_default-plain_step.ensures c.after.ensures (c.loop-count.invariant.5 y h o x d b)

pub fetch-requires-in-loop-count : goal.fetch-requires-in-loop-count
fetch-requires-in-loop-count c = c.in-Some-plain_step.ensures.kept _ c.loop-count.invariant.2

pub returns-in_default-fetch : goal.returns-in_default-fetch
returns-in_default-fetch c = λ y h o x d b. gone_here _ _ _ _ _ y h o x d _ _ c.after-in_default-fetch.ensures (gone_turn _ _ _ _ _ y h o x d _ _ c.if-c.false c.loop-count-test.true c.loop-count.invariant.1 c.in-Some-plain_step.ensures (c.loop-count.invariant.5 y h o x d b))

pub loop-count-preserved : goal.loop-count-preserved
loop-count-preserved c = let s = c.in-Some-fetch.ensures in (s.aligned, s.word, s.shows, c.in-Some-plain_step.ensures.shows, c.pages-1.given ∙ c.loop-count.invariant.4, λ y h o x d b. gone_turn _ _ _ _ _ y h o x d _ _ c.if-c.false c.loop-count-test.true c.loop-count.invariant.1 c.in-Some-plain_step.ensures (c.loop-count.invariant.5 y h o x d b))

pub returns : goal.returns
returns c = let e : c.loop-count.count ≡ c.args.budget = omega arith in λ y h o x d b. gone_here _ _ _ _ _ y h o x d _ _ c.after-2.ensures (rw e at c.loop-count.invariant.5 y h o x d b)
