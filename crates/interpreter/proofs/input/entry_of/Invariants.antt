-- The loop's invariant: what is looked for in the whole index is what is looked for from record i on.
use Rattle.std.proofs.Common.{◌≡◌, ◌-◌, ◌/◌, length}
use Rattle.interpreter.specs.Inputs.{entry_of, first_entry}
use Rattle.interpreter.proofs.input.entry_of.Given as goal

abbrev pub invariant-loop-i : goal.invariant-loop-i
invariant-loop-i l = entry_of l.index l.key ≡ first_entry l.index l.key (length l.index / 48 - l.i) l.i
