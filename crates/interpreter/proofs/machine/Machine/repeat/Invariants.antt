use Rattle.std.proofs.Common.{◌≡◌, ◌-◌, ◌≤◌, false}
use Rattle.interpreter.specs.Machine.{bad}
use Rattle.interpreter.specs.Runs.{more, run_def}
use Rattle.interpreter.specs.Lent.{held, index_in, data_in, SameLoans}
use Rattle.interpreter.proofs.machine.Machine.repeat.Given as goal

abbrev pub invariant-loop-count : goal.invariant-loop-count
invariant-loop-count l =
    (l.count ≤ l.budget)
    × (bad (held l.self) ≡ false)
    × (run_def (index_in l.initial.self) (data_in l.initial.self) l.budget (held l.initial.self) ≡ more l.count (run_def (index_in l.initial.self) (data_in l.initial.self) (l.budget - l.count) (held l.self)))
    × SameLoans l.initial.self l.self

abbrev pub decreases-loop-count : goal.decreases-loop-count
decreases-loop-count l =
    l.budget - l.count
