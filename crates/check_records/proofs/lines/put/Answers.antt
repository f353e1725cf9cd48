use Rattle.std.proofs.Common.{arith}
use Rattle.check_records.proofs.Puts.{put_copied}
use Rattle.check_records.proofs.lines.put.Goals as goal

pub returns : goal.returns
returns c = put_copied _ _ _ _ (omega arith) (omega arith) c.copy_from_slice.ensures.after (omega arith)
