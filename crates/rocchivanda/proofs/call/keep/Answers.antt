use Rattle.rocchivanda.proofs.Laws.Ends.{kept_is}
use Rattle.rocchivanda.proofs.call.keep.Goals as goal

pub returns : goal.returns
returns c = kept_is _ _ c.requires c.encode-encoded.ensures c.copy.ensures
