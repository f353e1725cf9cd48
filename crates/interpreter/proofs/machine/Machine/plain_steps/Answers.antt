use Rattle.std.proofs.Common.{[]}
use Rattle.interpreter.proofs.machine.Machine.plain_steps.Goals as goal

pub returns-clause-within : goal.returns-clause-within
returns-clause-within c = (c.plain_steps-went.ensures _ _ _ [] [] c.requires).within

pub returns-clause-fine : goal.returns-clause-fine
returns-clause-fine c = (c.plain_steps-went.ensures _ _ _ [] [] c.requires).fine

pub returns-clause-rest : goal.returns-clause-rest
returns-clause-rest c = (c.plain_steps-went.ensures _ _ _ _ _ c.requires).rest
