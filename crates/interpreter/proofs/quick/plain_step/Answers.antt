use Rattle.interpreter.proofs.Laws.Turns.{ins_key, quiet_kernel, quiet_touch, reach_kernel, reach_touch, reach_covered, reach_eight, turned}
use Rattle.interpreter.proofs.Laws.Dests.{kernel_dest, touch_even}
use Rattle.interpreter.specs.Plan.{touch_of}
use Rattle.std.proofs.Common.{sym, refl, ◌∙◌}
use Rattle.interpreter.proofs.quick.plain_step.Goals as goal

pub plain-plain-requires : goal.plain-plain-requires
plain-plain-requires c = ins_key _ _ _ _ _ c.with_core.ensures c.ins_of-i.ensures c.of-key.ensures

pub finish-requires : goal.finish-requires
finish-requires c = kernel_dest _ _ refl (quiet_kernel _ _ _ _ _ c.with_core.ensures c.ins_of-i.ensures c.requires.1 c.plain-plain.ensures c.in-Some.is)

pub returns-in-Some : goal.returns-in-Some
returns-in-Some c = turned _ _ _ _ _ _ (quiet_touch _ _ _ _ _ c.with_core.ensures c.ins_of-i.ensures c.plain-plain.ensures c.in-Some.is) refl (quiet_kernel _ _ _ _ _ c.with_core.ensures c.ins_of-i.ensures c.requires.1 c.plain-plain.ensures c.in-Some.is) c.requires.0 (c.finish.ensures _ _)

pub kept-kept-requires : goal.kept-kept-requires
kept-kept-requires c = (c.requires.0.0, ins_key _ _ _ _ _ c.with_core.ensures c.ins_of-i.ensures c.of-key.ensures)

pub complete-requires : goal.complete-requires
unfolding touch_of
complete-requires c = (c.requires.0, reach_covered _ _ _ _ _ c.with_core.ensures c.ins_of-i.ensures _ _ _ c.kept-kept.ensures c.in-Some-kept.is c.address.ensures, λ a e. touch_even _ _ a (sym (reach_touch _ _ _ _ _ c.with_core.ensures c.ins_of-i.ensures _ _ _ c.kept-kept.ensures c.in-Some-kept.is c.address.ensures) ∙ e), kernel_dest _ _ refl (reach_kernel _ _ _ _ _ c.with_core.ensures c.ins_of-i.ensures _ _ _ c.requires.1 c.kept-kept.ensures c.in-Some-kept.is))

pub returns-in-Some-kept : goal.returns-in-Some-kept
returns-in-Some-kept c = turned _ _ _ _ _ _ (reach_touch _ _ _ _ _ c.with_core.ensures c.ins_of-i.ensures _ _ _ c.kept-kept.ensures c.in-Some-kept.is c.address.ensures) (reach_eight _ _ _ _ _ c.with_core.ensures c.ins_of-i.ensures _ _ _ c.kept-kept.ensures c.in-Some-kept.is c.address.ensures) (reach_kernel _ _ _ _ _ c.with_core.ensures c.ins_of-i.ensures _ _ _ c.requires.1 c.kept-kept.ensures c.in-Some-kept.is) c.requires.0 c.complete.ensures
