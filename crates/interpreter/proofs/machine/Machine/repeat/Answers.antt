use Rattle.std.proofs.Common.{◌∙◌, arith}
use Rattle.interpreter.proofs.Laws.Kept.{formed}
use Rattle.interpreter.proofs.Laws.Lent.{same_loans}
use Rattle.interpreter.proofs.Laws.Runs.{run_went, turn_good, run_turn, run_last, run_spent}
use Rattle.interpreter.proofs.machine.Machine.repeat.Goals as goal

pub returns-then-budget-count-clause-machine : goal.returns-then-budget-count-clause-machine
returns-then-budget-count-clause-machine c = run_spent _ _ _ _ _ _ (run_went _ _ _ _ _ _ _ c.loop-count.invariant.2 (rw c.loop-count.invariant.3.input at c.plain_steps-count.ensures.rest)) c.if-budget-count.true

pub advance-made-requires : goal.advance-made-requires
advance-made-requires c = (formed _ c.plain_steps-count.ensures.fine).hint

pub returns-then-not-is_stepped-clause-machine : goal.returns-then-not-is_stepped-clause-machine
returns-then-not-is_stepped-clause-machine c = let i = c.plain_steps-count.ensures.lent.input ∙ c.loop-count.invariant.3.input in c.last.ensures _ ∙ run_last _ _ _ _ _ _ (run_went _ _ _ _ _ _ _ c.loop-count.invariant.2 (rw c.loop-count.invariant.3.input at c.plain_steps-count.ensures.rest)) _ c.plain_steps-count.ensures.fine c.if-budget-count.false (rw i at c.advance-made.ensures.machine) c.is_stepped.ensures c.if-not-is_stepped.true-raw

pub loop-count-preserved : goal.loop-count-preserved
loop-count-preserved c = let i = c.plain_steps-count.ensures.lent.input ∙ c.loop-count.invariant.3.input in (let l = c.if-budget-count.false in omega (arith, l), turn_good _ _ _ _ c.plain_steps-count.ensures.fine c.advance-made.ensures.machine, run_turn _ _ _ _ _ _ (run_went _ _ _ _ _ _ _ c.loop-count.invariant.2 (rw c.loop-count.invariant.3.input at c.plain_steps-count.ensures.rest)) _ c.plain_steps-count.ensures.fine c.if-budget-count.false (rw i at c.advance-made.ensures.machine) c.is_stepped.ensures c.if-not-is_stepped.false-raw, same_loans (same_loans c.loop-count.invariant.3 c.plain_steps-count.ensures.lent) c.advance-made.ensures.lent)

pub returns-clause-machine : goal.returns-clause-machine
returns-clause-machine c = run_spent _ _ _ _ _ _ c.loop-count.invariant.2 c.loop-count-test.false
