use Rattle.std.proofs.Common.{◌≡◌, ℕ, List, ap, rules, Err, ◌∙◌}
use Rattle.interpreter.specs.Lent.{held, with_regs}
use Rattle.interpreter.proofs.Laws.Lent.{worked_as}
use Rattle.interpreter.proofs.Laws.Plans.{change_done, change_full}
use Rattle.interpreter.proofs.machine.Machine.complete.Goals as goal

pub returns-in_err-settle-clause-machine : goal.returns-in_err-settle-clause-machine
returns-in_err-settle-clause-machine c = let e : c.from_residual.result ≡ Err c.in_err-settle.field-0.0 = search rules in worked_as _ e ∙ change_full _ _ _ _ _ _ _ _ _ _ _ (rw c.in_err-settle.was at c.settle.ensures.machine)

pub returns-clause-machine : goal.returns-clause-machine
returns-clause-machine c = change_done _ _ _ _ _ _ _ _ _ _ _ (rw c.in_ok-settle.was at c.settle.ensures.machine) (ap (λ (l : List ℕ). with_regs (held c.settle.new.self) l) c.set_reg.ensures) c.changed-self.ensures
