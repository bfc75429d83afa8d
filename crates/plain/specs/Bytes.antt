-- The plain rule a byte at a time, as the code makes it; proofs/Bridge.antt shows that it comes to the rule.
use Rattle.std.specs.Prelude.{List, ℕ, ◌+◌, ◌*◌, ◌/◌, ◌%◌, get_or}
use Rattle.bits.specs.Bits.{bit, blend_k}
use Rattle.bits.specs.Choice.{when◌then◌else◌, ◌is◌}
use Rattle.bits.specs.Places.{map_n, put4_of}
use Rattle.plain.specs.Plain.{lane_value}

-- FF in each enabled lane
unfoldable pub spread_of : ℕ → ℕ
spread_of l = l % 2 * 255 + l / 2 % 2 * 65280 + l / 4 % 2 * 16711680 + l / 8 % 2 * 4278190080

-- the read of a dword with lanes l
unfoldable pub driven_of : ℕ → ℕ → ℕ
driven_of l d = lane_value (bit d) l

unfoldable pub if_enabled : ℕ → ℕ → ℕ
if_enabled on mask = when on is 1 then mask else 0

unfoldable pub lane_of : ℕ → ℕ → ℕ → ℕ → ℕ
lane_of on mask old w = blend_k 8 (if_enabled on mask) old w

-- a, b, c, d: the masks of the four bytes
unfoldable pub stored_of : List ℕ → ℕ → ℕ → ℕ → ℕ → ℕ → ℕ → ℕ → List ℕ
stored_of m o l v a b c d =
    put4_of m o
    (lane_of (l % 2) a (get_or m o 0) (v % 256))
    (lane_of (l / 2 % 2) b (get_or m (o + 1) 0) (v / 256 % 256))
    (lane_of (l / 4 % 2) c (get_or m (o + 2) 0) (v / 65536 % 256))
    (lane_of (l / 8 % 2) d (get_or m (o + 3) 0) (v / 16777216 % 256))

abbrev pub returned_byte : List ℕ → List ℕ → ℕ → ℕ → ℕ
returned_byte masks defaults i x = blend_k 8 (get_or masks i 0) x (get_or defaults i 0)

unfoldable pub returned_of : List ℕ → List ℕ → List ℕ → List ℕ
returned_of masks defaults m = map_n 256 (returned_byte masks defaults) 0 m
