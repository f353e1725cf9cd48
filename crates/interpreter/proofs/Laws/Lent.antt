-- The machine on what is lent to it.
use Rattle.std.proofs.Common.{◌≡◌, ℕ, Bool, List, sym, refl, ap, ◌∙◌, Result, Err}
use Rattle.pages.specs.Calls.{stored, set_def}
use Rattle.pages.specs.declared.memory.StoreError.{StoreError}
use Rattle.interpreter.specs.declared.effect.Refusal.TheVariants.{MemoryFull}
use Rattle.interpreter.specs.Plan.{stores}
use Rattle.interpreter.specs.Machine.{Machine, machine, cpu_of, state_of}
use Rattle.interpreter.specs.declared.effect.Refusal.{Refusal}
use Rattle.interpreter.specs.declared.step.Answer.{Answer}
use Rattle.interpreter.specs.declared.state.State.{State}
use Rattle.interpreter.specs.declared.machine.Machine.{Machine as Lent}
use Rattle.interpreter.specs.Step.{left, finished}
use Rattle.interpreter.specs.Runs.{ran, stopped}
use Rattle.interpreter.specs.Lent.{SameLoans, worked, kept, put_by}
use Rattle.interpreter.proofs.Laws.Paging.{unstored}

-- a store that was not made
pub put_none : (m : Machine) (a v : ℕ) {r : Result ℕ StoreError} {q : List ℕ} {e : StoreError} → stored r q ≡ set_def 8 m.pages m.used a v → r ≡ Err e
    → kept (Err MemoryFull) (machine m.cpu m.regs m.key m.used q m.hint m.output) ≡ put_by m (set_def 8 m.pages m.used a v)
put_none m a v {r} {q} {e} y z =
    let g = unstored m.pages m.used (stores a v) y z refl in
    rw g (ap (put_by m) (ap (λ (r : Result ℕ StoreError). stored r m.pages) (sym z) ∙ ap (stored r) (sym g) ∙ y))

pub worked_as : {r q : Result Answer Refusal} (m : Machine) → r ≡ q → worked r m ≡ worked q m
worked_as m e = ap (λ (r : Result Answer Refusal). worked r m) e

pub same_loans : {m n o : Lent} → SameLoans m n → SameLoans n o → SameLoans m o
same_loans a b = record { regs = b.regs ∙ a.regs; key = b.key ∙ a.key; pages = b.pages ∙ a.pages; hint = b.hint ∙ a.hint; output = b.output ∙ a.output; input = b.input ∙ a.input }

-- what was lent is what the machine left
module _ {m : Machine} {s : State} {r k p h o : List ℕ} (e : s ≡ state_of m.cpu r k) (a : r ≡ m.regs) (b : k ≡ m.key) (f : p ≡ m.pages) (g : h ≡ m.hint) (i : o ≡ m.output) where
  pub finished_by : (w : Answer) (t : Bool) → finished (record { answer = w; state = s; used = m.used; counts = t }) p h o ≡ left w m t
  unfolding state_of cpu_of
  finished_by w t = rw (e, a, b, f, g, i)

  pub stopped_by : (w : Answer) (n : ℕ) → stopped (record { answer = w; state = s; used = m.used; count = n }) p h o ≡ ran w m n
  unfolding state_of cpu_of
  stopped_by w n = rw (e, a, b, f, g, i)
