use Rattle.std.proofs.Common.{refl}
use Rattle.interpreter.proofs.Laws.Layout.{put_whole}
use Rattle.interpreter.proofs.state.State.encode.Goals as goal

pub returns : goal.returns
returns c = put_whole _ c.args.self refl c.cpu.ensures c.put_state.ensures
