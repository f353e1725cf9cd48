use Rattle.interpreter.specs.Parts.{Shows, Both, cpu_with, Gone}
use Rattle.interpreter.specs.Machine.{machine, bad}
use Rattle.pages.specs.Bytes.{big}
use Rattle.pages.specs.Pages.{byte_at}
use Rattle.std.proofs.Common.{◌≡◌, ℕ, ◌%◌, false, List, length}
use Rattle.interpreter.proofs.quick.plain_steps.Given as goal

-- The loop's invariant: the word is the one at an aligned pc, the pages are where they were found, and the whole run is the steps
-- made so far and the rest.
abbrev pub invariant-loop-count : goal.invariant-loop-count
invariant-loop-count l =
    (l.core.pc % 4 ≡ 0)
    × (l.word ≡ big 4 (byte_at l.pages l.used) l.core.pc)
    × Shows l.pages l.used l.code
    × Both l.pages l.used l.data
    × (length l.pages ≡ length l.initial.pages)
    × ((y h o x d : List ℕ) → bad (machine l.c l.initial.regs y l.used l.initial.pages h o) ≡ false → Gone l.c l.used l.initial.regs l.initial.pages l.budget (record { cpu = cpu_with l.c l.core l.count; count = l.count }) l.regs l.pages y h o x d)
