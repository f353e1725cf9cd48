use Rattle.interpreter.proofs.Laws.Turns.{kernel_is, turned}
use Rattle.interpreter.proofs.Laws.Dests.{kernel_dest, touch_even}
use Rattle.interpreter.specs.Plan.{touch_of}
use Rattle.std.proofs.Common.{sym, ◌∙◌}
use Rattle.interpreter.proofs.quick.step_by_kernel.Goals as goal

pub complete-requires : goal.complete-requires
unfolding touch_of
complete-requires c = (c.requires.0, c.requires.1, λ a e. touch_even _ _ a (sym c.requires.2 ∙ e), kernel_dest _ _ c.kernel-effect.ensures c.in-Ok.is)

pub returns : goal.returns
returns c = turned _ _ _ _ _ _ c.requires.2 c.requires.3 (kernel_is _ _ _ _ _ c.with_core.ensures c.ins_of.ensures c.kernel-effect.ensures c.in-Ok.is) c.requires.0 c.complete.ensures
