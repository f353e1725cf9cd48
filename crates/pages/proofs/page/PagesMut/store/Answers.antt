use Rattle.std.proofs.Common.{arith}
use Rattle.pages.proofs.Laws.Widths.{in_page}
use Rattle.pages.proofs.Laws.Lookups.{place_inside}
use Rattle.pages.proofs.Laws.Stores.{put_held, put_full, put_opened}
use Rattle.pages.proofs.page.PagesMut.store.Goals as goal

pub write-requires : goal.write-requires
write-requires g c =
    let e = rw (c.shared.ensures.0, c.shared.ensures.1) at c.place_of.ensures in
    let i = place_inside _ _ _ _ e c.in-Some.is in
    let f = in_page _ g.T.Number.widths c.requires in omega (arith, i, f)

pub returns-in-Some-clause-ok : goal.returns-in-Some-clause-ok
returns-in-Some-clause-ok g c =
    let e = rw (c.shared.ensures.0, c.shared.ensures.1) at c.place_of.ensures in
    put_held _ _ _ _ e c.in-Some.is c.write.ensures

pub returns-then-is_full-clause-full : goal.returns-then-is_full-clause-full
returns-then-is_full-clause-full g c =
    let e = rw (c.shared.ensures.0, c.shared.ensures.1) at c.place_of.ensures in
    put_full _ _ _ _ c.if-is_full.ensures.full e c.in-None.is

pub returns-else-is_full-clause-ok : goal.returns-else-is_full-clause-ok
returns-else-is_full-clause-ok g c =
    let e = rw (c.shared.ensures.0, c.shared.ensures.1) at c.place_of.ensures in
    put_opened _ _ _ _ c.if-is_full.ensures.room e c.in-None.is c.open-next.ensures.bytes c.open-next.ensures.used (rw c.open-next.ensures.place at c.write-in-None.ensures)
