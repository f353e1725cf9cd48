use Rattle.std.proofs.Common.{◌≡◌, ◌-◌, ◌≤◌, length}
use lib.Seq.{sets}
use Rattle.pages.specs.Memory.{span}
use Rattle.pages.specs.Pages.{byte_at}
use Rattle.pages.proofs.page.Pages.copy.Given as goal

abbrev pub invariant-loop-done : goal.invariant-loop-done
invariant-loop-done l =
    (l.done ≤ l.count) × (length l.buf ≡ l.count) × (l.buf ≡ sets l.initial.buf 0 (span (byte_at l.self.bytes.now l.self.used) l.address l.done))

abbrev pub decreases-loop-done : goal.decreases-loop-done
decreases-loop-done l = l.count - l.done
