use Rattle.interpreter.specs.HiLo.{div}
use Rattle.interpreter.proofs.Laws.Signed.{magnitude_pos, sext_remainder, sext_quotient}
use Rattle.std.proofs.Common.{arith, lit<}
use Rattle.interpreter.proofs.hi_lo.div.Goals as goal

pub nonzero_rem-m : goal.nonzero_rem-m
nonzero_rem-m c =
    rw c.magnitude-n.ensures
    (magnitude_pos 32 _ c.requires (omega arith))

pub nonzero_div-m : goal.nonzero_div-m
nonzero_div-m c =
    rw c.magnitude-n.ensures
    (magnitude_pos 32 _ c.requires (omega arith))

pub returns : goal.returns
unfolding div
returns c =
    simp (
      c.sext.ensures,
      c.sext-2.ensures,
      c.signed_doubleword.ensures,
      c.signed_doubleword-2.ensures,
      c.negative-s.ensures,
      c.negative.ensures,
      c.magnitude-m.ensures,
      c.magnitude-n.ensures,
      sext_remainder 32 32 (lit< tt),
      sext_quotient 32 32 (lit< tt),
    )
