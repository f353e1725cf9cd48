use Rattle.std.proofs.Common.{◌≡◌, ◌*◌, sym, refl, arith}
use Rattle.interpreter.specs.Inputs.{same, has_key}
use Rattle.interpreter.proofs.Laws.Inputs.{key_more, key_apart}
use Rattle.interpreter.proofs.input.has_key.Goals as goal

pub loop-k-init : goal.loop-k-init
unfolding same
loop-k-init c = refl

pub returns-then-doubleword_at : goal.returns-then-doubleword_at
returns-then-doubleword_at c =
    sym (key_apart _ _ _ _ (λ j. (c.type_inv.index j).fits) c.fits-key (omega arith) (omega arith) (omega arith) (omega arith) c.doubleword_at.ensures c.doubleword_at-in-loop-k.ensures c.if-doubleword_at.true)

pub loop-k-preserved : goal.loop-k-preserved
loop-k-preserved c =
    key_more _ _ _ _ (λ j. (c.type_inv.index j).fits) c.fits-key (omega arith) (omega arith) (omega arith) (omega arith) c.doubleword_at.ensures c.doubleword_at-in-loop-k.ensures c.loop-k.invariant c.if-doubleword_at.false

pub returns : goal.returns
unfolding has_key
returns c =
    let e : 8 * c.loop-k.k ≡ 32 = omega arith in
    sym (rw e at c.loop-k.invariant)
