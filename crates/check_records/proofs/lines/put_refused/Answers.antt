use Rattle.std.proofs.Common.{decimal, codes, arith, length-append}
use Rattle.checker.specs.Verdicts.{fault_number}
use Rattle.check_records.specs.Lines.{said}
use Rattle.check_records.proofs.Puts.{puts_then, puts_length}
use Rattle.check_records.proofs.lines.put_refused.Goals as goal

pub put-next-requires : goal.put-next-requires
unfolding said
put-next-requires c =
    omega (arith, c.requires, length-append (codes "refused ") (decimal (fault_number c.args.fault)))

pub put_number-requires : goal.put_number-requires
unfolding said
put_number-requires c =
    let p = c.put-next.ensures in
    rw (c.from.ensures, c.from-number.ensures) (omega (arith, p.place, puts_length p, c.requires, length-append (codes "refused ") (decimal (fault_number c.args.fault))))

pub returns : goal.returns
unfolding said
returns c = rw (← c.from-number.ensures, ← c.from.ensures) (puts_then c.put-next.ensures c.put_number.ensures)
