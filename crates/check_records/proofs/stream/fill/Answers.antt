use Rattle.std.proofs.Common.{rules, ◌≡◌, ◌+◌, ◌-◌, ◌≤◌, ◌++◌, ℕ, List, length, take, sym, ap, ◌∙◌, subst, length-take-le}
use Rattle.std.proofs.Math.Seq.{take-append-add, take-append-le}
use Rattle.std.specs.Io.KnownBytes.{Consumes}
use Rattle.std.proofs.KnownBytes.{Consumes-trans}
use borrow.Rule.Slice.PartMut.{put_mid, post_of}
use Rattle.check_records.proofs.stream.fill.Goals as goal

-- what is filled, and then the front of what was read into the rest
take-filled : (a k n : ℕ) (xs ys : List ℕ) → a ≤ length xs → n ≤ length ys → take (a + n) (put_mid a k xs ys) ≡ take a xs ++ take n ys
take-filled a k n xs ys within fits =
    let after = post_of a k xs in
    ap (λ m. take (m + n) (take a xs ++ (ys ++ after))) (sym (length-take-le a xs within)) ∙ take-append-add (take a xs) (ys ++ after) n ∙ ap (λ l. take a xs ++ l) (take-append-le n ys after fits)

pub loop-done-preserved : goal.loop-done-preserved
loop-done-preserved g c =
    let from = c.loop-done.done in
    let same = take-filled from (length c.loop-done.buf - from) c.in-Ok.count c.loop-done.buf c.read.new.buf c.loop-done.invariant.0 c.in-Ok.ensures.bound.0 in
    (search rules, search rules, subst (Consumes _ _) (sym same) (Consumes-trans _ _ _ _ _ c.loop-done.invariant.2 c.in-Ok.ensures.bytes.0))
