use Rattle.std.proofs.Common.{◌-◌}
use Rattle.calls.proofs.machine.plain_state.Given as goal

abbrev pub decreases-loop-k : goal.decreases-loop-k
decreases-loop-k l = 352 - l.k
