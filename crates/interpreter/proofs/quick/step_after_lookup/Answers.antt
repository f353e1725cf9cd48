use Rattle.interpreter.proofs.Laws.Turns.{quick_kernel, turned}
use Rattle.interpreter.proofs.Laws.Turns.{slow_agrees}
use Rattle.interpreter.proofs.Laws.Dests.{kernel_dest, touch_even}
use Rattle.interpreter.proofs.Laws.Tests.{on}
use Rattle.interpreter.specs.Plan.{touch_of}
use Rattle.std.proofs.Common.{sym, refl, ◌∙◌}
use Rattle.interpreter.proofs.quick.step_after_lookup.Goals as goal

pub touched-mem-requires : goal.touched-mem-requires
unfolding touch_of
touched-mem-requires c = (c.window_of-d.ensures.0, sym c.covers.ensures ∙ on _ c.if-not-covers.false-raw, λ a e. touch_even _ _ a (sym c.touch_of-t.ensures ∙ e))

pub step_by_kernel-requires : goal.step_by_kernel-requires
step_by_kernel-requires c = (c.window_of-d.ensures, sym c.covers.ensures ∙ on _ c.if-not-covers.false-raw, c.touch_of-t.ensures, c.touched-mem.ensures)

pub complete-requires : goal.complete-requires
unfolding touch_of
complete-requires c = (c.window_of-d.ensures, sym c.covers.ensures ∙ on _ c.if-not-covers.false-raw, λ a e. touch_even _ _ a (sym c.touch_of-t.ensures ∙ e), kernel_dest _ _ refl (quick_kernel _ _ _ _ _ c.with_core.ensures c.ins_of-i.ensures c.requires.1 (slow_agrees _ _ _ _ _ c.ins_of-i.ensures c.decode.ensures c.elsewhere-effect.ensures) c.in-Some.is))

pub returns : goal.returns
returns c = turned _ _ _ _ _ _ c.touch_of-t.ensures c.touched-mem.ensures (quick_kernel _ _ _ _ _ c.with_core.ensures c.ins_of-i.ensures c.requires.1 (slow_agrees _ _ _ _ _ c.ins_of-i.ensures c.decode.ensures c.elsewhere-effect.ensures) c.in-Some.is) c.window_of-d.ensures c.complete.ensures
