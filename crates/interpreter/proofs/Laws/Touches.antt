-- Which instructions touch eight bytes, by the opcode field.
use Rattle.std.proofs.Common.{◌≡◌, ℕ, zero, suc, ◌<◌, Bool, true, false, cond, not, ◌&&◌, ◌||◌, T, eqb, sym, refl, ◌∙◌, arith, Some, None}
use Rattle.std.specs.Prelude.{Option, Some, None, is_some}
use native.Mathlib.Decide.{ℕ_discrete}
use Rattle.interpreter.specs.Isa.{funct_of, rt_of, Instruction, alu, imm, hilo, load, store, conditional, branch, jump, other, reserved}
use Rattle.interpreter.specs.OpcodeMap.{find, found, accesses, immediates, loads, stores, conditionals, branches, jumps, memory, by_opcode, registers, special, special2, regimm, decode_by}
use Rattle.interpreter.specs.Kernel.{touching}

-- ---- a test that is computed at every number below n

abbrev below : (ℕ → Bool) → ℕ → Bool
below f zero = true
below f (suc n) = below f n && f n

both_left : (a b : Bool) → T (a && b) → T a
both_left true b t = tt
both_left false b t = t

both_right : (a b : Bool) → T (a && b) → T b
both_right true b t = t
both_right false b t = absurd t

at : (f : ℕ → Bool) (n : ℕ) → T (below f n) → (k : ℕ) → k < n → T (f k)
at f zero t k h = absurd (omega arith)
at f (suc n) t k h = go (ℕ_discrete k n) (at f n (both_left (below f n) (f n) t) k)
  where
    go : Dec (k ≡ n) → (k < n → T (f k)) → T (f k)
    go (yes e) ih = rw e (both_right (below f n) (f n) t)
    go (no d) ih = ih (omega arith)

-- ---- the other codes touch nothing

nothing : {A : Type 0} (f : A → Instruction) (x : Option A) (rest : Instruction) (a : ℕ)
    → ((y : A) → touching (f y) a ≡ None) → touching rest a ≡ None → touching (found f x rest) a ≡ None
unfolding found
nothing f (Some y) rest a h r = h y
nothing f None rest a h r = r

module _ (a : ℕ) where
  pub special_nothing : (f : ℕ) → touching (special f) a ≡ None
  unfolding special registers touching
  special_nothing f =
      nothing jump _ _ a (λ y. refl) (nothing other _ _ a (λ y. refl) (nothing hilo _ _ a (λ y. refl)
      (nothing alu _ _ a (λ y. refl) (nothing alu _ _ a (λ y. refl) (nothing alu _ _ a (λ y. refl) refl)))))

  special2_nothing : (f : ℕ) → touching (special2 f) a ≡ None
  unfolding special2 touching
  special2_nothing f = nothing alu _ _ a (λ y. refl) refl

  regimm_nothing : (t : ℕ) → touching (regimm t) a ≡ None
  unfolding regimm touching
  regimm_nothing t = nothing branch _ _ a (λ y. refl) refl

  -- a load or store, unless a list before has the code
  memory_touches : (op : ℕ) → touching (memory op) a ≡ cond (accesses op) (Some a) None
  unfolding memory accesses touching found
  memory_touches op = go (find op loads) (find op stores) (find op conditionals)
    where
      go : (l : Option _) (s : Option _) (c : Option _)
          → touching (found load l (found store s (found conditional c reserved))) a ≡ cond (is_some l || (is_some s || is_some c)) (Some a) None
      go (Some l) s c = refl
      go None (Some s) c = refl
      go None None (Some c) = refl
      go None None None = refl

-- ---- no code of a load or store is anything else

alone : ℕ → Bool
alone op =
    not (accesses op)
    || (not (eqb op 0x00) && (not (eqb op 0x01) && (not (eqb op 0x1c)
    && (not (is_some (find op jumps)) && (not (is_some (find op branches)) && not (is_some (find op immediates)))))))

all_alone : T (below alone 64)
unfolding alone accesses find jumps branches immediates loads stores conditionals
all_alone = tt

not_false : (b : Bool) → T (not b) → b ≡ false
not_false true t = absurd t
not_false false t = refl

none_of : {A : Type 0} (x : Option A) → T (not (is_some x)) → x ≡ None
none_of (Some y) t = absurd t
none_of None t = refl

module _ (op w a : ℕ) where
  quiet : accesses op ≡ false → touching (decode_by op w) a ≡ None
  unfolding decode_by by_opcode touching
  quiet q = go (eqb op 0x00) (eqb op 0x01) (eqb op 0x1c)
    where
      rest : touching (found jump (find op jumps) (found branch (find op branches) (found imm (find op immediates) (memory op)))) a ≡ None
      rest =
          nothing jump _ _ a (λ y. refl) (nothing branch _ _ a (λ y. refl) (nothing imm _ _ a (λ y. refl)
          (memory_touches a op ∙ rw q)))

      go : (s r t : Bool)
          → touching (cond s (special (funct_of w)) (cond r (regimm (rt_of w)) (cond t (special2 (funct_of w)) (found jump (find op jumps) (found branch (find op branches) (found imm (find op immediates) (memory op))))))) a
          ≡ None
      go true r t = special_nothing a (funct_of w)
      go false true t = regimm_nothing a (rt_of w)
      go false false true = special2_nothing a (funct_of w)
      go false false false = rest

  loud : accesses op ≡ true → T (alone op) → touching (decode_by op w) a ≡ Some a
  unfolding alone decode_by by_opcode found
  loud q t =
      let u = rw q at t in
      let v = both_right (not (eqb op 0x00)) _ u in
      let x = both_right (not (eqb op 0x01)) _ v in
      let y = both_right (not (eqb op 0x1c)) _ x in
      let z = both_right (not (is_some (find op jumps))) _ y in
      let e0 : eqb op 0x00 ≡ false = not_false (eqb op 0x00) (both_left (not (eqb op 0x00)) _ u) in
      let e1 : eqb op 0x01 ≡ false = not_false (eqb op 0x01) (both_left (not (eqb op 0x01)) _ v) in
      let e2 : eqb op 0x1c ≡ false = not_false (eqb op 0x1c) (both_left (not (eqb op 0x1c)) _ x) in
      let n0 : find op jumps ≡ None = none_of (find op jumps) (both_left (not (is_some (find op jumps))) _ y) in
      let n1 : find op branches ≡ None = none_of (find op branches) (both_left (not (is_some (find op branches))) _ z) in
      let n2 : find op immediates ≡ None = none_of (find op immediates) (both_right (not (is_some (find op branches))) _ z) in
      rw (e0, e1, e2, n0, n1, n2) (memory_touches a op ∙ rw q)

  pub touches_by : op < 64 → (b : Bool) → b ≡ accesses op → touching (decode_by op w) a ≡ cond b (Some a) None
  touches_by h true e = loud (sym e) (at alone 64 all_alone op h)
  touches_by h false e = quiet (sym e)
