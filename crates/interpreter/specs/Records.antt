-- The step record (document 01, "The step record"), 752 bytes, big-endian.
use Rattle.std.specs.Prelude.{ℕ, List, ◌++◌, Option, Some, None}
use Rattle.pages.specs.Bytes.{zeros, bytes_of}
use Rattle.interpreter.specs.declared.state.State.{State}
use Rattle.interpreter.specs.Layout.{encode}

-- address 728, old eight 736, new eight 744; without a touch these 24 bytes are zero
abbrev pub touch_bytes : Option ℕ → ℕ → ℕ → List ℕ
touch_bytes None x y = zeros 24
touch_bytes (Some a) x y = bytes_of 8 a ++ bytes_of 8 x ++ bytes_of 8 y

-- instruction 720, four zeros 724, and the touched eight
unfoldable pub rest_of : ℕ → Option ℕ → ℕ → ℕ → List ℕ
rest_of w t x y = bytes_of 4 w ++ zeros 4 ++ touch_bytes t x y

-- old state 0, new state 360, and the rest 720
unfoldable pub record_of : State → State → ℕ → Option ℕ → ℕ → ℕ → List ℕ
record_of s n w t x y = encode s ++ encode n ++ rest_of w t x y
