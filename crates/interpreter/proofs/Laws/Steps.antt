-- Refusal 1, and the step by value.
use Rattle.std.proofs.Common.{◌≡◌, ℕ, ◌/◌, ◌<◌, ◌≤◌, Bool, true, false, ltb, List, [], length, sym, ◌∙◌, le-ltb, lt-ltb}
use Rattle.interpreter.specs.declared.effect.Refusal.TheVariants.{BadMachine}
use Rattle.interpreter.specs.declared.state.Cpu.{Cpu}
use Rattle.interpreter.specs.declared.state.State.{State}
use Rattle.interpreter.specs.Machine.{machine, cpu_of, room_of, formless, bad}
use Rattle.interpreter.specs.Step.{Left, refused, advance, step_def, machine_of}
use Rattle.interpreter.proofs.Laws.Kept.{formed}

module _ (c : Cpu) (r k : List ℕ) (u : ℕ) (p h o : List ℕ) where
  pub bad_rules : 1 < c.rules → true ≡ bad (machine c r k u p h o)
  unfolding bad formless
  bad_rules e = rw (lt-ltb 1 c.rules e)

  pub bad_hint : {g : ℕ} → c.rules ≤ 1 → g ≡ room_of h → g < c.hint → true ≡ bad (machine c r k u p h o)
  unfolding bad formless
  bad_hint {g} e y i = rw (le-ltb 1 c.rules e, ← y, lt-ltb g c.hint i)

  pub bad_used : {g : ℕ} → c.rules ≤ 1 → g ≡ room_of h → c.hint ≤ g → ltb (length p / 4104) u ≡ bad (machine c r k u p h o)
  unfolding bad formless
  bad_used {g} e y i = rw (le-ltb 1 c.rules e, ← y, le-ltb g c.hint i)

-- where 1 does not apply, the held hint bytes are in the room
pub good_hint : (c : Cpu) (u : ℕ) (p h : List ℕ) {t : Bool} → ((r k o : List ℕ) → t ≡ bad (machine c r k u p h o)) → t ≡ false → c.hint ≤ room_of h
good_hint c u p h y e = (formed (machine c [] [] u p h []) (sym (y [] [] []) ∙ e)).hint

-- 1 of a state by value
pub bad_as : (s : State) (u : ℕ) (p h o : List ℕ) {c : Cpu} {t : Bool} → c ≡ cpu_of s → ((r k o : List ℕ) → t ≡ bad (machine c r k u p h o)) → t ≡ bad (machine_of s u p h o)
bad_as s u p h o z y = y s.regs s.key o ∙ rw z

module _ (x d : List ℕ) (s : State) (u : ℕ) (p h o : List ℕ) {c : Cpu} {t : Bool} (z : c ≡ cpu_of s) (y : (r k o : List ℕ) → t ≡ bad (machine c r k u p h o)) where
  pub step_bad : {l : Left} → t ≡ true → l ≡ refused (machine_of s u p h o) BadMachine → l ≡ step_def x d (machine_of s u p h o)
  unfolding step_def
  step_bad e q = q ∙ rw (← bad_as s u p h o z y, e)

  pub step_good : {l : Left} → t ≡ false → l ≡ advance x d (machine c s.regs s.key u p h o) → l ≡ step_def x d (machine_of s u p h o)
  unfolding step_def cpu_of
  step_good e q = q ∙ rw (z, ← bad_as s u p h o z y, e)
