use Rattle.std.proofs.Common.{◌≡◌, ◌+◌, ◌-◌, length, take, drop, arith, ap, sym, ◌∙◌}
use lib.Seq.{sets}
use Rattle.pages.proofs.Laws.Std.{filled}
use Rattle.pages.proofs.Laws.Places.{test_in, length_part, put_in, put_not}
use Rattle.pages.proofs.Laws.Loads.{length_span, span_part, span_over, read_whole, read_refused}
use Rattle.pages.proofs.reader.copy_out.Goals as goal

pub returns-then-not-holds : goal.returns-then-not-holds
returns-then-not-holds c = put_not _ _ _ _ (length_span _ _ _) c.holds.ensures c.if-not-holds.true

pub returns-in-Ok : goal.returns-in-Ok
returns-in-Ok c =
    let h = test_in c.holds.ensures c.if-not-holds.false in
    let same : c.args.at + c.args.count - c.args.at ≡ c.args.count = omega arith in
    let long : c.args.count ≡ length (take (c.args.at + c.args.count - c.args.at) (drop c.args.at c.args.buf.now)) =
    rw same (sym (length_part c.args.buf.now c.args.at c.args.count h)) in
    span_part _ _ _ _ _ _ h (omega arith) (read_whole _ _ _ _ _ (rw c.new-reader.ensures at c.read.ensures.read) c.in-Ok.is long)
    ∙ put_in _ _ _ _ (length_span _ _ _) c.holds.ensures c.if-not-holds.false

pub returns-in-Err-Overused : goal.returns-in-Err-Overused
returns-in-Err-Overused c =
    let r = read_refused _ _ _ _ _ (rw c.new-reader.ensures at c.read.ensures.read) c.in-Err-Overused.is in
    filled _ _ _ _ (omega arith) (test_in c.holds.ensures c.if-not-holds.false) (rw r.0 at (c.fill.ensures.after (λ y e. e)))
    ∙ ap (sets _ _) (span_over _ _ _ _ r.1)
    ∙ put_in _ _ _ _ (length_span _ _ _) c.holds.ensures c.if-not-holds.false
