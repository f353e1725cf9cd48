use Rattle.std.proofs.Common.{rules}
use Rattle.pages.proofs.Laws.Stores.{set_misaligned, set_over, set_aligned}
use Rattle.pages.proofs.memory.set.Goals as goal

pub returns-then-address-SIZE-ne0 : goal.returns-then-address-SIZE-ne0
returns-then-address-SIZE-ne0 g c = set_misaligned _ _ _ _ _ (rw c.SIZE.ensures at c.if-address-SIZE-ne0.true)

pub returns-then-not-fits : goal.returns-then-not-fits
returns-then-not-fits g c = set_over g.T.Number.SIZE _ _ _ _ (rw c.SIZE.ensures at c.if-address-SIZE-ne0.false) c.if-not-fits.ensures.no

pub returns-in_err-store : goal.returns-in_err-store
returns-in_err-store g c =
    let n = c.new-records.ensures.same in
    let a = set_aligned g.T.Number.SIZE c.args.pages.now c.args.used c.args.address (g.T.Number.value c.args.value) (rw c.SIZE.ensures at c.if-address-SIZE-ne0.false) in
    let f = rw (n.0, n.1) at c.in_err-store.ensures.full in
    search rules

pub returns : goal.returns
returns g c =
    let n = c.new-records.ensures.same in
    let a = set_aligned g.T.Number.SIZE c.args.pages.now c.args.used c.args.address (g.T.Number.value c.args.value) (rw c.SIZE.ensures at c.if-address-SIZE-ne0.false) in
    let f = rw (n.0, n.1) at c.in_ok-store.ensures.ok in
    search rules
