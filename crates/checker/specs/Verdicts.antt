-- What the checker answers, and document 01's numbers of its refusals.
use Rattle.std.specs.Prelude.{ℕ, Result, Ok, Err}
use Rattle.checker.specs.declared.verdict.Fault.{Fault}
use Rattle.checker.specs.declared.verdict.Fault.TheVariants.{Length, Form, AlreadyExited, StepRefused, WideStep, Touch, Result as ResultFault}
use Rattle.interpreter.specs.declared.shown.Unshown.{Unshown}
use Rattle.interpreter.specs.declared.shown.Unshown.TheVariants.{Refused as RefusedStep, Wide}

-- nothing, or a fault
abbrev pub Verdict : Type 0
Verdict = Result (Unit {0}) Fault

abbrev pub Accepted : Verdict
Accepted = Ok tt

abbrev pub Refused : Fault → Verdict
Refused f = Err f

unfoldable pub fault_number : Fault → ℕ
fault_number Length = 21
fault_number Form = 22
fault_number AlreadyExited = 23
fault_number StepRefused = 24
fault_number WideStep = 25
fault_number Touch = 26
fault_number ResultFault = 27

-- the fault of a record that shows no step
abbrev pub fault_of : Unshown → Fault
fault_of (RefusedStep n) = StepRefused
fault_of Wide = WideStep
