use Rattle.std.proofs.Common.{rules, sym, ◌∙◌}
use Rattle.interpreter.proofs.Laws.Shown.{shown_as, reply_made, heap_made, exit_made, key_made}
use Rattle.interpreter.proofs.shown.call.Goals as goal

pub returns-in-Answer : goal.returns-in-Answer
returns-in-Answer c = let s = sym c.answered.ensures.lent.regs in let t = sym c.answered.ensures.lent.key in shown_as _ _ c.untouching.ensures ∙ reply_made _ _ _ _ _ _ c.call_in-called.ensures c.in-Answer.is c.answered.ensures.machine (search rules) (search rules)

pub returns-in-Heap : goal.returns-in-Heap
returns-in-Heap c = let s = sym c.grown.ensures.lent.regs in let t = sym c.grown.ensures.lent.key in shown_as _ _ c.untouching-in-Heap.ensures ∙ heap_made _ _ _ _ _ c.call_in-called.ensures c.in-Heap.is c.grown.ensures.machine (search rules) (search rules)

pub returns-in-Exit : goal.returns-in-Exit
returns-in-Exit c = let s = sym c.exited.ensures.lent.regs in let t = sym c.exited.ensures.lent.key in shown_as _ _ c.untouching-in-Exit.ensures ∙ exit_made _ _ _ _ _ c.call_in-called.ensures c.in-Exit.is c.exited.ensures.machine (search rules) (search rules)

pub returns-in-Key : goal.returns-in-Key
returns-in-Key c = let s = sym c.keyed_by.ensures.lent.regs in let t = sym c.keyed_by.ensures.lent.key in key_made _ _ _ _ c.call_in-called.ensures c.in-Key.is c.aligned-a.ensures.0 c.ranges.x.fits c.keyed_by.ensures.machine (search rules) (search rules)
