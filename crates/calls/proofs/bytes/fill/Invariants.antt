use Rattle.std.proofs.Common.{◌-◌}
use Rattle.calls.proofs.bytes.fill.Given as goal

abbrev pub decreases-loop-k : goal.decreases-loop-k
decreases-loop-k l = l.to - l.k
