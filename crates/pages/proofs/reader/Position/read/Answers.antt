use Rattle.std.proofs.Common.{rules}
use Rattle.pages.proofs.Laws.Loads.{read_over, read_fits}
use Rattle.pages.proofs.reader.Position.read.Goals as goal

pub returns-in_err-records : goal.returns-in_err-records
returns-in_err-records c =
    let h = read_over c.args.pages.now c.args.used c.args.self.now c.args.buf.now in
    search rules

pub returns : goal.returns
returns c =
    let s = c.in_ok-records.ensures.ok in
    read_fits _ _ _ _ s.2 c.min-n.ensures (rw (s.0, s.1) at c.copy.ensures)
