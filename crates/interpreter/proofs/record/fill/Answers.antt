use Rattle.interpreter.proofs.Laws.Recorder.{record_filled}
use Rattle.interpreter.proofs.record.fill.Goals as goal

pub returns : goal.returns
returns c = record_filled _ _ _ _ _ _ _ c.requires c.cpu.ensures c.put_state.ensures c.cpu-2.ensures c.put_state-2.ensures c.put_rest.ensures
