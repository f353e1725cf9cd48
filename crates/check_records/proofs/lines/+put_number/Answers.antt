use Rattle.std.proofs.Common.{arith}
use Rattle.check_records.proofs.Puts.{puts_digit, puts_more, puts_length}
use Rattle.check_records.proofs.Lengths.{length_digit, length_more}
use Rattle.check_records.proofs.lines.+put_number.Goals as goal

pub put-requires : goal.put-requires
put-requires t c = omega (arith, c.requires, length_digit c.args.n c.if-n-lt10.true)

pub returns-then-n-lt10 : goal.returns-then-n-lt10
returns-then-n-lt10 t c = puts_digit c.args.n c.if-n-lt10.true c.put.ensures

pub put_number-next-requires : goal.put_number-next-requires
put_number-next-requires t c = (omega arith, omega (arith, c.requires, length_more c.args.n c.if-n-lt10.false c.ranges.n.fits))

pub put-requires-2 : goal.put-requires-2
put-requires-2 t c =
    let p = c.put_number-next.ensures in
    omega (arith, c.requires, length_more c.args.n c.if-n-lt10.false c.ranges.n.fits, p.place, puts_length p)

pub returns : goal.returns
returns t c = puts_more c.args.n c.if-n-lt10.false c.ranges.n.fits c.put_number-next.ensures c.put-2.ensures
