use Rattle.interpreter.proofs.Laws.Turns.{completed}
use Rattle.interpreter.proofs.quick.complete.Goals as goal

pub returns : goal.returns
returns c = completed c.finish.ensures c.settle.ensures.0 c.settle.ensures.1
