use Rattle.std.proofs.Common.{◌≡◌, ◌+◌, ◌*◌, ◌∙◌, arith, length-set}
use Rattle.pages.proofs.Laws.Places.{number_fits}
use Rattle.interpreter.specs.Layout.{eight}
use Rattle.interpreter.proofs.Laws.Layout.{set_more}
use Rattle.interpreter.proofs.layout.registers_at.Goals as goal

pub loop-i-preserved : goal.loop-i-preserved
loop-i-preserved c =
    let s = c.args in
    let l = c.loop-i in
    let v : c.doubleword_at.result ≡ eight s.b.now (s.k + 8 * l.i) = c.doubleword_at.ensures ∙ number_fits 8 s.b.now (s.k + 8 * l.i) (omega arith) in
    (simp length-set l.invariant.0, set_more l.regs _ (λ j. eight s.b.now (s.k + 8 * j)) l.i (omega arith) l.invariant.1 v)
