use Rattle.std.proofs.Common.{rules}
use Rattle.pages.proofs.Laws.Lookups.{lookup_out}
use Rattle.pages.proofs.page.page_lookup.Goals as goal

pub returns-in_err-records : goal.returns-in_err-records
returns-in_err-records c = search (rules, lookup_out)
