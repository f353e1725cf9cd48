use Rattle.std.proofs.Common.{◌-◌}
use Rattle.calls.proofs.text.hex.Given as goal

abbrev pub decreases-loop-k : goal.decreases-loop-k
decreases-loop-k l = 256 - l.k
