use Rattle.std.proofs.Common.{◌≡◌, rules, Ok, Err, ap, ◌∙◌}
use Rattle.interpreter.proofs.Laws.Lent.{worked_as}
use Rattle.interpreter.proofs.Laws.Plans.{hint_refused, hint_kept, hint_handed}
use Rattle.interpreter.proofs.machine.Machine.hinted.Goals as goal

pub returns-in_err-handed-clause-machine : goal.returns-in_err-handed-clause-machine
returns-in_err-handed-clause-machine c = let e : c.from_residual.result ≡ Err c.in_err-handed.field-0.0 = search rules in worked_as _ e ∙ hint_refused _ _ _ _ _ _ _ _ _ c.listen.ensures c.in_err-handed.was

pub returns-in-None-clause-machine : goal.returns-in-None-clause-machine
returns-in-None-clause-machine c = hint_kept _ _ _ _ _ _ _ _ _ c.listen.ensures (c.in_ok-handed.was ∙ ap Ok c.in-None.is) c.reply.ensures.machine c.plus.ensures c.onward-self.ensures

pub returns-in-Some-clause-machine : goal.returns-in-Some-clause-machine
returns-in-Some-clause-machine c = hint_handed _ _ _ _ _ _ _ _ _ c.listen.ensures (c.in_ok-handed.was ∙ ap Ok c.in-Some.is) c.reply.ensures.machine c.onward-self-in-Some.ensures
