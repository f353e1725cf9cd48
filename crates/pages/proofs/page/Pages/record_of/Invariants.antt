-- What is looked for among all used records is what is looked for among those from record i on.
use Rattle.std.proofs.Common.{◌≡◌, ◌-◌}
use Rattle.pages.specs.Pages.{first_record}
use Rattle.pages.proofs.page.Pages.record_of.Given as goal

abbrev pub invariant-loop-i : goal.invariant-loop-i
invariant-loop-i l = first_record l.self.bytes.now l.number l.self.used 0 ≡ first_record l.self.bytes.now l.number (l.self.used - l.i) l.i
