use Rattle.interpreter.proofs.Laws.Recorder.{record_short}
use Rattle.interpreter.proofs.record.step_recorded.Goals as goal

pub returns-then-buf-ne-SIZE : goal.returns-then-buf-ne-SIZE
returns-then-buf-ne-SIZE c = record_short _ _ _ _ _ _ _ _ c.if-buf-ne-SIZE.true (c.unstepped.ensures _ _ _)
