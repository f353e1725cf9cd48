use Rattle.rocchivanda.proofs.Laws.Ends.{leaves_is}
use Rattle.rocchivanda.proofs.call.finish.Goals as goal

pub returns : goal.returns
returns c = λ p h o. leaves_is _ _ _ _ _ c.keep.ensures c.tell.ensures
