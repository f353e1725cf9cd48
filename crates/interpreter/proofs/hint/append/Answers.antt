use Rattle.pages.specs.Pages.{byte_at}
use Rattle.interpreter.proofs.Laws.Hints.{lay_out}
use Rattle.interpreter.proofs.hint.append.Goals as goal

pub returns-in-Some : goal.returns-in-Some
returns-in-Some c =
    let a = c.args in
    lay_out (byte_at a.pages.now a.used) a.hint.now a.held a.address a.count a.output.now c.requires.0 c.copy_out.ensures c.requires.1 c.in-Some.is c.copy.ensures
