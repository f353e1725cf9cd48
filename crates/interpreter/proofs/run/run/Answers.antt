use Rattle.std.proofs.Common.{◌≡◌, ◌<◌, arith, rules, sym, ◌∙◌}
use Rattle.interpreter.proofs.Laws.Lent.{stopped_by}
use Rattle.interpreter.proofs.Laws.Runs.{run_none, run_bad, run_value}
use Rattle.interpreter.proofs.run.run.Goals as goal

pub returns-then-budget-eq0 : goal.returns-then-budget-eq0
returns-then-budget-eq0 c = let z : c.args.budget ≡ 0 = omega arith in run_none _ _ _ _ _ _ _ z (c.unmoved.ensures _ _ _)

pub returns-then-bad : goal.returns-then-bad
returns-then-bad c = let z : 0 < c.args.budget = omega arith in run_bad _ _ _ _ _ _ _ _ c.cpu-c.ensures c.bad.ensures z c.if-bad.true (c.unmoved-then-bad.ensures _ _ _)

pub returns : goal.returns
returns c = let s = sym c.repeat-end.ensures.lent.regs in let t = sym c.repeat-end.ensures.lent.key in let v = sym c.repeat-end.ensures.lent.pages in let w = sym c.repeat-end.ensures.lent.hint in let z = sym c.repeat-end.ensures.lent.output in stopped_by c.with.ensures (search rules) (search rules) (search rules) (search rules) (search rules) _ _ ∙ run_value _ _ _ _ _ _ _ _ c.cpu-c.ensures c.bad.ensures c.repeat-end.ensures.machine
