use Rattle.std.proofs.Common.{rules, subst, sym, arith, length-take-le}
use Rattle.std.specs.Io.KnownBytes.{Appends}
use Rattle.std.proofs.KnownBytes.{Appends-kept}
use Rattle.check_records.specs.Lines.{lines_of}
use Rattle.check_records.proofs.Laws.{printed_within, printed_front}
use Rattle.check_records.proofs.stream.lines.Goals as goal

pub slice_bounds-write_all-end : goal.slice_bounds-write_all-end
slice_bounds-write_all-end g c =
    sym (length-take-le _ _ (printed_within c.args.from c.args.records.now _ (omega arith) _ _ c.print-count.ensures))

pub slice_bounds-text-end : goal.slice_bounds-text-end
slice_bounds-text-end g c =
    printed_within c.args.from c.args.records.now _ (omega arith) _ _ c.print-count.ensures

pub returns : goal.returns
returns g c =
    let put = printed_front c.args.from c.args.records.now _ (omega arith) _ _ c.print-count.ensures in
    let written = subst (Appends _ _) put c.in_ok-write_all.ensures.bytes in
    let kept : Appends (g.W.Write.contents c.args.output.now) (g.W.Write.contents c.flush.new.self) (lines_of c.args.from c.args.records.now) = Appends-kept _ _ _ _ written c.flush.ensures.bytes in
    search rules
