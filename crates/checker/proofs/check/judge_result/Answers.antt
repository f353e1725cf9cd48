use Rattle.std.proofs.Common.{arith}
use Rattle.checker.proofs.Laws.Judged.{result_state}
use Rattle.checker.proofs.Laws.Same.{not_state, tested_not}
use Rattle.checker.proofs.check.judge_result.Goals as goal

pub returns-then-ne : goal.returns-then-ne
returns-then-ne c =
    let a = c.args in
    result_state _ c.requires _ _ _ (not_state _ _ (omega arith) (omega arith) (omega arith) (omega arith) (tested_not a.left a.new c.ne.ensures c.if-ne.true))
