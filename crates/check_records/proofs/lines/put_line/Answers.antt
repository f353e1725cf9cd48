use Rattle.std.proofs.Common.{arith}
use Rattle.check_records.specs.Lines.{line}
use Rattle.check_records.proofs.Puts.{puts_then, puts_length}
use Rattle.check_records.proofs.Lengths.{line_parts}
use Rattle.check_records.proofs.lines.put_line.Goals as goal

pub put_number-space-requires : goal.put_number-space-requires
put_number-space-requires c =
    let a = c.args in
    omega (arith, line_parts a.position a.verdict, c.requires)

pub put-word-requires : goal.put-word-requires
put-word-requires c =
    let a = c.args in
    let p = c.put_number-space.ensures in
    omega (arith, line_parts a.position a.verdict, c.requires, p.place, puts_length p)

pub put_verdict-end-requires : goal.put_verdict-end-requires
put_verdict-end-requires c =
    let a = c.args in
    let p = c.put_number-space.ensures in
    let q = c.put-word.ensures in
    omega (arith, line_parts a.position a.verdict, c.requires, p.place, puts_length p, q.place, puts_length q)

pub put-requires : goal.put-requires
put-requires c =
    let a = c.args in
    let p = c.put_number-space.ensures in
    let q = c.put-word.ensures in
    let r = c.put_verdict-end.ensures in
    omega (arith, line_parts a.position a.verdict, c.requires, p.place, puts_length p, q.place, puts_length q, r.place, puts_length r)

pub returns : goal.returns
unfolding line
returns c =
    puts_then (puts_then (puts_then c.put_number-space.ensures c.put-word.ensures) c.put_verdict-end.ensures) c.put.ensures
