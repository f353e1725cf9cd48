use Rattle.std.proofs.Common.{◌≡◌, length, refl, ap, ◌∙◌, arith}
use lib.Seq.{length-sets}
use Rattle.pages.specs.Bytes.{row}
use Rattle.pages.specs.Memory.{span}
use Rattle.pages.proofs.Laws.Places.{sets_whole}
use Rattle.pages.proofs.Laws.Loads.{length_span, span_more}
use Rattle.pages.proofs.page.Pages.copy.Goals as goal

pub loop-done-init : goal.loop-done-init
unfolding span row
loop-done-init c = (omega arith, refl, refl)

pub loop-done-preserved : goal.loop-done-preserved
loop-done-preserved c =
    let l = c.loop-done in
    let e = span_more c.args.buf.now l.buf _ c.args.address _ l.done c.in_page-n.result _ l.invariant.2 refl (omega arith) (omega arith) c.copy_in_page.ensures in
    (omega arith, ap length e ∙ simp length-sets, e)

pub returns : goal.returns
returns c =
    let l = c.loop-done in
    let e : l.done ≡ length c.args.buf.now = omega arith in
    rw e at l.invariant.2 ∙ sets_whole _ _ (length_span _ _ _)
