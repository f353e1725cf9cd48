-- From a group's answer to what the instruction does.
use Rattle.std.proofs.Common.{◌≡◌, ℕ, sym, refl, ap, ◌∙◌}
use Rattle.std.specs.Prelude.{Option, Some, None, Ok}
use Rattle.interpreter.specs.Isa.{Alu, Imm, Instruction, alu, imm}
use Rattle.interpreter.specs.OpcodeMap.{find, found, jumps, branches, immediates, memory, by_opcode}
use Rattle.interpreter.specs.Effects.{Effect, to_rd, to_rt}
use Rattle.interpreter.specs.Alu.{known, known_imm}
use Rattle.interpreter.specs.Kernel.{does}
use Rattle.interpreter.specs.declared.effect.Ins.{Ins}
use Rattle.interpreter.specs.declared.effect.Change.{Change}

-- what follows an answer: its value goes on, and an unknown code is the others' to do
abbrev pub or_else : (ℕ → Change) → Effect → Option ℕ → Effect
or_else f e (Some v) = Ok (f v)
or_else f e None = e

-- ---- the two groups: from the answer r, told to be s, to the effect

module _ (i : Ins) (other : Instruction) where
  pub alu_told : (a : Option Alu) {r s : Option ℕ} {e : Effect} → r ≡ known a i → r ≡ s → e ≡ or_else (to_rd i) (does other i) s → e ≡ does (found alu a other) i
  unfolding does found known
  alu_told a p q h = h ∙ ap (or_else (to_rd i) (does other i)) (sym q ∙ p) ∙ go a
    where
      go : (a : Option Alu) → or_else (to_rd i) (does other i) (known a i) ≡ does (found alu a other) i
      go (Some a) = refl
      go None = refl

  pub imm_told : (a : Option Imm) {r s : Option ℕ} {e : Effect} → r ≡ known_imm a i → r ≡ s → e ≡ or_else (to_rt i) (does other i) s → e ≡ does (found imm a other) i
  unfolding does found known_imm
  imm_told a p q h = h ∙ ap (or_else (to_rt i) (does other i)) (sym q ∙ p) ∙ go a
    where
      go : (a : Option Imm) → or_else (to_rt i) (does other i) (known_imm a i) ≡ does (found imm a other) i
      go (Some a) = refl
      go None = refl

-- ---- codes of the opcode field that are no jump and no branch

pub past_jumps : (op : ℕ) → find op jumps ≡ None → find op branches ≡ None → by_opcode op ≡ found imm (find op immediates) (memory op)
unfolding by_opcode found
past_jumps op j b = rw (j, b)
