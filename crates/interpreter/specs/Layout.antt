-- A state's 360 bytes (document 01, "The step record"), big-endian.
use Rattle.std.specs.Prelude.{◌≡◌, ℕ, zero, suc, ◌+◌, ◌*◌, ◌^◌, ◌<◌, ◌≤◌, Bool, cond, not, ◌&&◌, List, [], ◌∷◌, ◌++◌, length, ◌==◌, nat_le, Option, Some, None}
use Rattle.pages.specs.Bytes.{cell, row, zeros, big, bytes_of}
use Rattle.interpreter.specs.Machine.{reg, cpu_of, largest_rules, hint_room, formless}
use Rattle.interpreter.specs.declared.state.State.{State}
use Rattle.interpreter.specs.declared.state.Cpu.{Cpu}

-- ---- from a state to its bytes

-- the first n numbers of a list, in eight bytes each
unfoldable pub eights : List ℕ → ℕ → List ℕ
eights r zero = []
eights r (suc n) = eights r n ++ bytes_of 8 (reg r n)

abbrev pub flag : Bool → ℕ
flag b = cond b 1 0

-- pc 256, next_pc 264, hi 272, lo 280, heap 288, step 296, input offset 304, hint length 312
unfoldable pub numbers_of : Cpu → List ℕ
numbers_of c = c.pc ∷ c.next ∷ c.hi ∷ c.lo ∷ c.heap ∷ c.step ∷ c.offset ∷ c.hint ∷ []

-- exited 352, code 353, rules 354, five zeros
unfoldable pub last_of : Cpu → List ℕ
last_of c = flag c.exited ∷ c.code ∷ c.rules ∷ zeros 5

-- registers 0 to 255, then the numbers 256, key 320, and the rest 352
unfoldable pub encode : State → List ℕ
encode s = eights s.regs 32 ++ eights (numbers_of (cpu_of s)) 8 ++ row (cell s.key) 0 32 ++ last_of (cpu_of s)

-- ---- from bytes to the state at byte k

-- the number in the eight bytes from byte k on
abbrev pub eight : List ℕ → ℕ → ℕ
eight b k = big 8 (cell b) k

-- the n numbers from byte k on
unfoldable pub numbers : List ℕ → ℕ → ℕ → List ℕ
numbers b k n = row (λ i. eight b (k + 8 * i)) 0 n

unfoldable pub decode_at : List ℕ → ℕ → State
decode_at b k = record {
  regs = numbers b k 32;
  pc = eight b (k + 256);
  next = eight b (k + 264);
  hi = eight b (k + 272);
  lo = eight b (k + 280);
  heap = eight b (k + 288);
  step = eight b (k + 296);
  offset = eight b (k + 304);
  hint = eight b (k + 312);
  key = row (cell b) (k + 320) 32;
  exited = (cell b (k + 352) == 1);
  code = cell b (k + 353);
  rules = cell b (k + 354);
}

-- exited is 0 or 1, the five spare bytes are zero, and rules and hint length are in bounds
unfoldable pub formed_at : List ℕ → ℕ → Bool
formed_at b k = nat_le (cell b (k + 352)) 1 && big 5 (cell b) (k + 355) == 0 && not (formless hint_room (cpu_of (decode_at b k)))

-- the state that the 360 bytes from byte k on are; none where there are fewer bytes, or they are no state's
unfoldable pub decoded_at : List ℕ → ℕ → Option State
decoded_at b k = cond (nat_le (k + 360) (length b) && formed_at b k) (Some (decode_at b k)) None

unfoldable pub decode_def : List ℕ → Option State
decode_def b = cond (length b == 360 && formed_at b 0) (Some (decode_at b 0)) None

-- ---- the states that 360 bytes can say

-- what every value of the type `State` is: 32 registers and numbers of 64 bits, a key of 32 bytes, a code of 8 bits
pub record Typed (s : State) : Type 0 where
  pub regs : length s.regs ≡ 32
  pub values : (i : ℕ) → reg s.regs i < 2 ^ 64
  pub pc : s.pc < 2 ^ 64
  pub next : s.next < 2 ^ 64
  pub hi : s.hi < 2 ^ 64
  pub lo : s.lo < 2 ^ 64
  pub heap : s.heap < 2 ^ 64
  pub step : s.step < 2 ^ 64
  pub offset : s.offset < 2 ^ 64
  pub key : length s.key ≡ 32
  pub bytes : (i : ℕ) → cell s.key i < 256
  pub code : s.code < 256

pub record Fits (s : State) : Type 0 where
  pub typed : Typed s
  pub hint : s.hint ≤ hint_room
  pub rules : s.rules ≤ largest_rules
