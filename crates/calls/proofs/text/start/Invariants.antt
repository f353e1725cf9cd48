use Rattle.std.proofs.Common.{◌-◌}
use Rattle.calls.proofs.text.start.Given as goal

abbrev pub decreases-loop-k : goal.decreases-loop-k
decreases-loop-k l = l.k-end - l.k
