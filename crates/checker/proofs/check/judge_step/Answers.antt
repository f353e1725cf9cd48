use Rattle.checker.proofs.Laws.Judged.{arm_exited, arm_unshown, arm_misplaced, arm_disagrees, arm_judged, running, word_as}
use Rattle.checker.proofs.check.judge_step.Goals as goal

pub returns-then-s : goal.returns-then-s
returns-then-s c = arm_exited _ c.requires.1 c.if-s.true

pub returns-in_err-made : goal.returns-in_err-made
returns-in_err-made c = arm_unshown _ c.requires.0 (running _ c.requires.1 c.if-s.false) c.requires.1 c.word_at-word.ensures c.doubleword_at-old.ensures c.cpu.ensures _ _ _ c.step_shown.ensures c.in_err-made.was c.from_residual.ensures.1

pub returns-then-not-placed : goal.returns-then-not-placed
returns-then-not-placed c = arm_misplaced _ c.requires.0 (running _ c.requires.1 c.if-s.false) c.requires.1 c.word_at-word.ensures c.doubleword_at-old.ensures c.cpu.ensures _ _ _ c.step_shown.ensures c.in_ok-made.was c.placed.ensures c.if-not-placed.true-raw

pub agrees-requires : goal.agrees-requires
agrees-requires c = (c.requires.0, word_as _ c.requires.0 c.word_at-word.ensures)

pub returns-then-not-agrees : goal.returns-then-not-agrees
returns-then-not-agrees c = arm_disagrees _ c.requires.0 (running _ c.requires.1 c.if-s.false) c.requires.1 c.word_at-word.ensures c.doubleword_at-old.ensures c.cpu.ensures _ _ _ c.step_shown.ensures c.in_ok-made.was c.placed.ensures c.if-not-placed.false-raw c.agrees.ensures c.if-not-agrees.true-raw

pub returns : goal.returns
returns c = arm_judged _ c.requires.0 (running _ c.requires.1 c.if-s.false) c.requires.1 c.word_at-word.ensures c.doubleword_at-old.ensures c.cpu.ensures _ _ _ c.step_shown.ensures c.in_ok-made.was c.placed.ensures c.if-not-placed.false-raw c.agrees.ensures c.if-not-agrees.false-raw c.requires.2 c.with-left.ensures c.judge_result.ensures
