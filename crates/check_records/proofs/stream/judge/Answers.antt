use Rattle.std.proofs.Common.{rules, ◌≡◌, ◌∙◌, ◌++◌, [], take, length, refl, arith, length-append, length-take-le}
use Rattle.std.proofs.KnownBytes.{Consumes-nil, Consumes-trans, Consumes-whole}
use Rattle.check_records.proofs.Laws.{chunk_written, front_written, none_written, chunk_after}
use Rattle.check_records.proofs.stream.judge.Goals as goal

pub loop-init : goal.loop-init
loop-init g c = ([], Consumes-nil _, none_written _, refl, refl, refl)

pub returns-in-Err-clause-unread : goal.returns-in-Err-clause-unread
returns-in-Err-clause-unread g c =
    let (seen, read, written, whole, from, size) = c.loop.invariant in
    let count = c.fill-count.result.0 in
    let part = take count c.fill-count.new.buf in
    λ _. (seen ++ part, Consumes-trans _ _ _ seen part read c.fill-count.ensures.bytes, front_written _ _ _ count seen c.fill-count.new.buf c.loop.from from whole c.fill-count.ensures.bound written c.in_ok-answer.ensures.written)

pub returns-then-count-lt-CHUNK-clause-whole : goal.returns-then-count-lt-CHUNK-clause-whole
returns-then-count-lt-CHUNK-clause-whole g c =
    let (seen, read, written, whole, from, size) = c.loop.invariant in
    let part = take c.fill-count.result.0 c.fill-count.new.buf in
    let all = chunk_written _ _ _ seen part c.loop.from from whole written c.in_ok-answer-2.ensures.written in
    Consumes-whole _ _ (seen ++ part) _ (Consumes-trans _ _ _ seen part read c.fill-count.ensures.bytes) (search rules) all

pub loop-preserved : goal.loop-preserved
loop-preserved g c =
    let (seen, read, written, whole, from, size) = c.loop.invariant in
    let part = take c.fill-count.result.0 c.fill-count.new.buf in
    let length_part : length part ≡ 65424 = omega (arith, length-take-le c.fill-count.result.0 c.fill-count.new.buf c.fill-count.ensures.bound, c.fill-count.ensures.bound, size) in
    let all = chunk_written _ _ _ seen part c.loop.from from whole written c.in_ok-answer-2.ensures.written in
    (seen ++ part, Consumes-trans _ _ _ seen part read c.fill-count.ensures.bytes, all, omega (arith, length-append seen part, whole, length_part), c.after-from.ensures ∙ chunk_after seen part c.fill-count.new.buf c.loop.from from whole length_part (search rules), search rules)
