use Rattle.interpreter.proofs.window.Pair.none.Goals as goal

pub returns : goal.returns
returns c p u = (c.none.ensures _ _, c.none-2.ensures _ _)
