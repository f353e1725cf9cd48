use Rattle.checker.proofs.Laws.Judged.{check_step}
use Rattle.checker.proofs.check.check.Goals as goal

pub returns : goal.returns
returns c = check_step _ c.if-record-ne-SIZE.false c.decode_at.ensures c.in-Some.is c.decode_at-2.ensures c.in-Some-decode_at.is c.word_at.ensures c.if-word_at-ne0.false c.judge_step.ensures
