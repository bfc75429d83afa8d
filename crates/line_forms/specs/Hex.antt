-- Upper-case hex: a digit's byte, and the digits of a number.
use Rattle.std.specs.Prelude.{List, [], ◌∷◌, ℕ, zero, suc, ◌+◌, ◌/◌, ◌%◌, ◌^◌}
use Rattle.bits.specs.Choice.{when◌then◌else◌, ◌<?◌}

-- a digit in upper-case hex: 0 is 48, A is 65
unfoldable pub up_of : ℕ → ℕ
up_of n = when n <? 10 then 48 + n else 55 + n

-- k digits of v, the highest first
unfoldable pub hex_of : ℕ → ℕ → List ℕ
hex_of zero v = []
hex_of (suc k) v = up_of (v / 16 ^ k % 16) ∷ hex_of k v
