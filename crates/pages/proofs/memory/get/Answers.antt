use Rattle.std.proofs.Common.{rules}
use Rattle.pages.proofs.Laws.Calls.{get_misaligned, get_over, get_fits}
use Rattle.pages.proofs.memory.get.Goals as goal

pub returns-then-address-SIZE-ne0 : goal.returns-then-address-SIZE-ne0
returns-then-address-SIZE-ne0 g c = get_misaligned _ _ _ _ (rw c.SIZE.ensures at c.if-address-SIZE-ne0.true)

pub returns-in_err-records : goal.returns-in_err-records
returns-in_err-records g c =
    let h = get_over g.T.Number.SIZE c.args.pages.now c.args.used c.args.address (rw c.SIZE.ensures at c.if-address-SIZE-ne0.false) in
    search rules

pub returns : goal.returns
returns g c =
    let s = c.in_ok-records.ensures.ok in
    get_fits g.T.Number.SIZE _ _ _ (rw c.SIZE.ensures at c.if-address-SIZE-ne0.false) s.2 (rw (s.0, s.1) at c.load.ensures)
