use Rattle.std.proofs.Common.{ap, Err, ◌∙◌}
use Rattle.interpreter.proofs.Laws.Plans.{exec_refused, exec_call, exec_done}
use Rattle.interpreter.proofs.machine.Machine.execute.Goals as goal

pub returns-in-Refused-clause-machine : goal.returns-in-Refused-clause-machine
returns-in-Refused-clause-machine c = exec_refused _ _ _ _ _ _ _ _ _ _ c.touch_of-t.ensures (rw (c.memory.ensures.0, c.memory.ensures.1) at c.touched-mem.ensures) c.ins_of.ensures c.kernel-effect.ensures (c.in-Err.is ∙ ap Err c.in-Refused.is)

pub returns-in-Call-clause-machine : goal.returns-in-Call-clause-machine
returns-in-Call-clause-machine c = exec_call _ _ _ _ _ _ _ _ _ _ c.touch_of-t.ensures (rw (c.memory.ensures.0, c.memory.ensures.1) at c.touched-mem.ensures) c.ins_of.ensures c.kernel-effect.ensures (c.in-Err.is ∙ ap Err c.in-Call.is) c.call.ensures.machine

pub returns-in-Ok-clause-machine : goal.returns-in-Ok-clause-machine
returns-in-Ok-clause-machine c = exec_done _ _ _ _ _ _ _ _ _ _ c.touch_of-t.ensures (rw (c.memory.ensures.0, c.memory.ensures.1) at c.touched-mem.ensures) c.ins_of.ensures c.kernel-effect.ensures c.in-Ok.is c.complete.ensures.machine
