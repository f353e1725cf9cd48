use Rattle.std.proofs.Common.{◌≡◌, ◌++◌, [], sym, refl, ap, ◌∙◌, append-nil, arith, rules}
use Rattle.std.specs.Slice.Iter.{chunks_rest}
use Rattle.checker.specs.Check.{check_def}
use Rattle.check_records.specs.Lines.{line, lines_of}
use Rattle.check_records.proofs.Laws.{next_line, no_lines, prints, prints_none}
use Rattle.check_records.proofs.Lengths.{length_line, next_room}
use Rattle.check_records.proofs.Puts.{puts_then, puts_length}
use Rattle.check_records.proofs.lines.print.Goals as goal

pub returns-then-out-count : goal.returns-then-out-count
returns-then-out-count c = prints_none c.args.from c.args.records.now c.args.out.now (omega arith)

pub loop-record-init : goal.loop-record-init
loop-record-init c =
    let same : chunks_rest c.into_iter-record-iterator.result ≡ c.args.records.now = search rules in
    ([], record { place = refl; bytes = refl }, ap (lines_of c.args.from) same, search rules, rw same (omega arith))

pub put_line-at-requires : goal.put_line-at-requires
put_line-at-requires c =
    let (done, put, whole, size, room) = c.loop-record.invariant in
    let next = c.in-Some.ensures.steps in
    omega (arith, length_line, room, next.1.2, puts_length put)

pub loop-record-preserved : goal.loop-record-preserved
loop-record-preserved c =
    let (done, put, whole, size, room) = c.loop-record.invariant in
    let from = c.loop-record.position in
    let front = c.in-Some.record.now in
    let next = c.in-Some.ensures.steps in
    let part = rw size at next.1.1 in
    let more = puts_then put c.put_line-at.ensures in
    (done ++ line from (check_def front), rw (← c.check.ensures) more, next_line from front (chunks_rest c.next.new.self) done (lines_of c.args.from c.args.records.now) (search rules) next.1.0 part next.1.2 whole, search rules, next_room front (chunks_rest c.next.new.self) c.loop-record.at next.1.0 part next.1.2 c.put_line-at.ensures.place (length_line from _ (search rules)) room)

pub returns : goal.returns
returns c =
    let (done, put, whole, size, room) = c.loop-record.invariant in
    let none = no_lines c.loop-record.position (chunks_rest c.loop-record.record-iterator) c.in-None.ensures.steps.1.0 in
    let all : done ≡ lines_of c.args.from c.args.records.now = sym (append-nil done) ∙ ap (λ z. done ++ z) (sym none) ∙ whole in
    prints c.args.from c.args.records.now c.args.out.now (omega arith) all put
