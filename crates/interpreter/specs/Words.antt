-- Numbers of 64 bits: words, sign extensions, orders, bits and signed results.
use Rattle.std.specs.Prelude.{ℕ, zero, suc, ◌+◌, ◌-◌, ◌*◌, ◌/◌, ◌%◌, ◌^◌, min, max, Bool, true, false, cond, not, ◌==◌, nat_le, nat_lt}
use Rattle.std.specs.Bool.{beq}
use Rattle.interpreter.specs.declared.effect.Rules.{Rules}
use Rattle.interpreter.specs.declared.effect.Rules.TheVariants.{Interpreter, Manual}

-- the rules that a number names: 0 the interpreter's, every other the manual's
abbrev pub rules_of : ℕ → Rules
rules_of n = cond (n == 0) Interpreter Manual

-- what the interpreter's rules give, and what the manual's: every difference between the two is a `by_rules`
abbrev pub by_rules : {A : Type 0} → Rules → A → A → A
by_rules Interpreter x y = x
by_rules Manual x y = y

abbrev pub word : ℕ → ℕ
word x = x % 2 ^ 32

-- sums and differences modulo 2^64
abbrev pub plus : ℕ → ℕ → ℕ
plus x y = (x + y) % 2 ^ 64

abbrev pub minus : ℕ → ℕ → ℕ
minus x y = (x + (2 ^ 64 - y)) % 2 ^ 64

-- ---- sign extension

-- the low n bits of x, sign-extended to 64 bits
unfoldable pub sext : ℕ → ℕ → ℕ
sext n x = cond (nat_lt (x % 2 ^ n) (2 ^ (n - 1))) (x % 2 ^ n) (x % 2 ^ n + (2 ^ 64 - 2 ^ n))

-- the Rust's sign_extend at an index from 1 to 63: every bit of x from index - 1 up is a sign
abbrev pub extended : ℕ → ℕ → ℕ
extended k x = cond (nat_lt x (2 ^ (k - 1))) (x % 2 ^ k) (x % 2 ^ k + (2 ^ 64 - 2 ^ k))

-- and at any index: counts modulo 64, and a multiple of 64 gives 0
unfoldable pub sign_extend : ℕ → ℕ → ℕ
sign_extend x index = cond (index % 64 == 0) 0 (extended (index % 64) x)

-- ---- orders

abbrev pub bit : Bool → ℕ
bit b = cond b 1 0

-- the sign of n bits
abbrev pub negative : ℕ → ℕ → Bool
negative n x = nat_le (2 ^ (n - 1)) x

-- the signed order of 64 bits: a negative number is below every other, and of two of one sign the smaller in bits is below
unfoldable pub less : ℕ → ℕ → Bool
less x y = cond (negative 64 x) (cond (negative 64 y) (nat_lt x y) true) (cond (negative 64 y) false (nat_lt x y))

-- ---- bits one by one, the lowest first

unfoldable pub bitwise : (ℕ → ℕ → ℕ) → ℕ → ℕ → ℕ → ℕ
bitwise f zero x y = 0
bitwise f (suc n) x y = bitwise f n (x / 2) (y / 2) * 2 + f (x % 2) (y % 2)

abbrev pub and : ℕ → ℕ → ℕ
and x y = bitwise min 64 x y

abbrev pub or : ℕ → ℕ → ℕ
or x y = bitwise max 64 x y

abbrev pub xor : ℕ → ℕ → ℕ
xor x y = bitwise (λ a b. (a + b) % 2) 64 x y

-- ---- signed numbers of n bits

-- the distance from 0
unfoldable pub magnitude : ℕ → ℕ → ℕ
magnitude n x = cond (negative n x) (2 ^ n - x) x

-- a distance from 0, with its sign, in n bits
unfoldable pub signed : ℕ → Bool → ℕ → ℕ
signed n s m = cond s ((2 ^ n - m) % 2 ^ n) m

abbrev pub differ : Bool → Bool → Bool
differ s t = not (beq s t)

-- quotient and remainder of n bits, cut towards 0: the remainder has the dividend's sign
unfoldable pub quotient : ℕ → ℕ → ℕ → ℕ
quotient n x y = signed n (differ (negative n x) (negative n y)) (magnitude n x / magnitude n y)

unfoldable pub remainder : ℕ → ℕ → ℕ → ℕ
remainder n x y = signed n (negative n x) (magnitude n x % magnitude n y)

-- the product of n bits by n bits, in 2 n bits
unfoldable pub product : ℕ → ℕ → ℕ → ℕ
product n x y = signed (n + n) (differ (negative n x) (negative n y)) (magnitude n x * magnitude n y)
