-- What the private parts of the checker answer. No public promise rests on these.
use Rattle.std.specs.Prelude.{ℕ, ◌&&◌, cond, List, [], ◌∷◌, eqb}
use Rattle.interpreter.specs.declared.state.State.{State}
use Rattle.checker.specs.declared.verdict.Fault.TheVariants.{AlreadyExited, StepRefused, WideStep, Touch, Result}
use Rattle.checker.specs.Verdicts.{Verdict}
use Rattle.checker.specs.Verdicts.{Accepted, Refused}
use Rattle.checker.specs.Records.{new_eight}
use Rattle.checker.specs.Check.{same_state, applies, first_fault}

-- a record of 752 bytes that is formed
unfoldable pub step_judged : List ℕ → Verdict
step_judged r = first_fault (applies r) (AlreadyExited ∷ StepRefused ∷ WideStep ∷ Touch ∷ Result ∷ [])

-- what the step left
unfoldable pub result_judged : List ℕ → State → State → ℕ → Verdict
result_judged r n s y = cond (same_state s n && eqb y (new_eight r)) Accepted (Refused Result)
