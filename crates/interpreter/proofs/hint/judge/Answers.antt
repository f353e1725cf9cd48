use Rattle.std.proofs.Common.{le-leb}
use borrow.Author.Tests.{lt-leb}
use Rattle.interpreter.proofs.Laws.Hints.{word_announced, text_valid, heard_text, heard_full, heard_out}
use Rattle.interpreter.proofs.hint.judge.Goals as goal

pub returns-then-not-valid : goal.returns-then-not-valid
returns-then-not-valid c =
    let t = c.args.text.now in
    let l = c.if-text-lt-LENGTH.false in
    heard_text t _ _ (word_announced t l c.word_at-n.ensures) l c.if-rest-n.false c.if-n-rest.false (text_valid t c.valid.ensures c.if-not-valid.true)

pub returns-then-room-n : goal.returns-then-room-n
returns-then-room-n c =
    let t = c.args.text.now in
    let l = c.if-text-lt-LENGTH.false in
    heard_full t _ _ (word_announced t l c.word_at-n.ensures) l c.if-rest-n.false c.if-n-rest.false (text_valid t c.valid.ensures c.if-not-valid.false) (lt-leb _ _ c.if-room-n.true)

pub returns : goal.returns
returns c =
    let t = c.args.text.now in
    let l = c.if-text-lt-LENGTH.false in
    heard_out t _ _ (word_announced t l c.word_at-n.ensures) l c.if-rest-n.false c.if-n-rest.false (text_valid t c.valid.ensures c.if-not-valid.false) (le-leb _ _ c.if-room-n.false)
