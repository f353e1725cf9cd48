use Rattle.std.proofs.Common.{◌≡◌, rules, Err, ◌∙◌}
use Rattle.interpreter.proofs.Laws.Lent.{worked_as}
use Rattle.interpreter.proofs.Laws.Plans.{read_done, read_full}
use Rattle.interpreter.proofs.machine.Machine.read_bytes.Goals as goal

pub returns-in_err-store-clause-machine : goal.returns-in_err-store-clause-machine
returns-in_err-store-clause-machine c = let e : c.from_residual.result ≡ Err c.in_err-store.field-0.0 = search rules in worked_as _ e ∙ read_full _ _ _ _ _ _ _ _ _ _ c.moving-n.ensures c.aligned-at.ensures.0 (rw (c.memory.ensures.0, c.memory.ensures.1) at c.eight-old.ensures) c.merge-new.ensures (rw c.in_err-store.was at c.store.ensures.machine)

pub returns-clause-machine : goal.returns-clause-machine
returns-clause-machine c = read_done _ _ _ _ _ _ _ _ _ _ c.moving-n.ensures c.aligned-at.ensures.0 (rw (c.memory.ensures.0, c.memory.ensures.1) at c.eight-old.ensures) c.merge-new.ensures (rw c.in_ok-store.was at c.store.ensures.machine) c.reply.ensures.machine c.plus.ensures c.onward-self.ensures
