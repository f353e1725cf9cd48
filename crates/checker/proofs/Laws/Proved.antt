-- The theorems of the checker, together (specs/Statement.antt).
use Rattle.checker.specs.Statement.{Theorems}
use Rattle.checker.proofs.Laws.First.{refused_first}
use Rattle.checker.proofs.Laws.Theorem.{accepted_none, accepted_iff, accepted_steps}
use Rattle.checker.proofs.Laws.Filled.{filled_accepted}
use Rattle.checker.proofs.Laws.Examples.{examples_hold}

pub theorems : Theorems
theorems =
    record {
      refused_first = refused_first;
      accepted_none = accepted_none;
      accepted_iff = accepted_iff;
      accepted_steps = accepted_steps;
      examples_hold = examples_hold;
      filled_accepted = λ x d m b p f l c n. filled_accepted x d m p f c n b l;
    }
