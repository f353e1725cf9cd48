use Rattle.std.proofs.Common.{◌-◌}
use Rattle.calls.proofs.bytes.lay.Given as goal

abbrev pub decreases-loop-k : goal.decreases-loop-k
decreases-loop-k l = l.k-end - l.k
