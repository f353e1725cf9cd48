use Rattle.std.proofs.Common.{rules, sym, ◌∙◌}
use Rattle.interpreter.proofs.Laws.Steps.{step_bad, step_good, good_hint}
use Rattle.interpreter.proofs.Laws.Lent.{finished_by}
use Rattle.interpreter.proofs.step.step.Goals as goal

pub returns-then-bad : goal.returns-then-bad
returns-then-bad c = step_bad _ _ _ _ _ _ _ c.cpu-c.ensures c.bad.ensures c.if-bad.true (c.unstepped.ensures _ _ _)

pub advance-made-requires : goal.advance-made-requires
advance-made-requires c = good_hint _ _ _ _ c.bad.ensures c.if-bad.false

pub returns : goal.returns
returns c = let s = sym c.advance-made.ensures.lent.regs in let t = sym c.advance-made.ensures.lent.key in let v = sym c.advance-made.ensures.lent.pages in let w = sym c.advance-made.ensures.lent.hint in let z = sym c.advance-made.ensures.lent.output in finished_by c.with.ensures (search rules) (search rules) (search rules) (search rules) (search rules) _ _ ∙ step_good _ _ _ _ _ _ _ c.cpu-c.ensures c.bad.ensures c.if-bad.false c.advance-made.ensures.machine
