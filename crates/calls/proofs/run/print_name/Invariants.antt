use Rattle.std.proofs.Common.{◌-◌}
use Rattle.calls.proofs.run.print_name.Given as goal

abbrev pub decreases-loop-k : goal.decreases-loop-k
decreases-loop-k g l = l.k-end - l.k
