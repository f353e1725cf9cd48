use Rattle.interpreter.proofs.Laws.Utf8.{utf8_tested}
use Rattle.interpreter.proofs.utf8.valid.Goals as goal

pub returns : goal.returns
returns c = utf8_tested c.args.text.now _ c.is_utf8.ensures
