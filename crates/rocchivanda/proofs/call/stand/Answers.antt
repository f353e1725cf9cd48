use Rattle.rocchivanda.proofs.Laws.Ends.{stays_is}
use Rattle.rocchivanda.proofs.call.stand.Goals as goal

pub returns : goal.returns
returns c = λ s p h o. stays_is _ _ _ _ _ c.used-u.ensures c.tell.ensures
