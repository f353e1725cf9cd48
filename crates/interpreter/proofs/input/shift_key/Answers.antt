use Rattle.std.proofs.Common.{arith}
use Rattle.interpreter.proofs.Laws.Inputs.{shifted_by_copy}
use Rattle.interpreter.proofs.input.shift_key.Goals as goal

pub returns : goal.returns
returns c = shifted_by_copy c.args.key.now _ _ _ _ _ _ (omega arith) c.requires c.copy.ensures c.to_be_bytes.ensures c.copy-2.ensures
