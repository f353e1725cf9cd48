use Rattle.std.proofs.Common.{◌-◌}
use Rattle.calls.proofs.carry.Given as goal

abbrev pub decreases-loop : goal.decreases-loop
decreases-loop g l = l.end - l.counter
