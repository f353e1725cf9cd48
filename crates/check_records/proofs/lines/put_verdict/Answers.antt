use Rattle.std.proofs.Common.{length, ap, arith}
use Rattle.checker.specs.Verdicts.{Verdict}
use Rattle.check_records.specs.Lines.{said}
use Rattle.check_records.proofs.lines.put_verdict.Goals as goal

pub put-requires : goal.put-requires
unfolding said
put-requires c = omega (arith, c.requires, ap (λ (z : Verdict). length (said z)) c.in-Ok.is)

pub returns-in-Ok : goal.returns-in-Ok
unfolding said
returns-in-Ok c = rw c.in-Ok.is c.put.ensures
