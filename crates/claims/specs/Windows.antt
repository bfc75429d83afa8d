-- Registers and windows as the code takes them, from 256 bytes; proofs/Bases.antt shows that they come to the rules.
use Rattle.std.specs.Prelude.{Bool, List, ℕ, ◌+◌, ◌/◌, ◌%◌, ◌^◌, get_or}
use Rattle.bits.specs.Bits.{little}
use Rattle.bits.specs.Choice.{when◌then◌else◌, ◌or◌, ◌is◌}
use Rattle.map.specs.Registers.{GTTMMADR, GMADR, IOBAR, MSAC, PMCS}
use Rattle.rules.specs.Device.{size_of, exponent_of}
use Rattle.rules.specs.Claims.{Claimed, unclaimed, claimed, translation, aperture, io, translation_exponent, io_exponent}

-- the register of n bytes at a place
unfoldable pub register_at : ℕ → List ℕ → ℕ → ℕ
register_at n m at = little n (λ (k : ℕ). get_or m (at + k) 0)

-- the address equals the base in all bits from the size upward
abbrev pub holds_of : ℕ → ℕ → ℕ → Bool
holds_of b size a = a / size is b / size

-- the aperture of so many bytes
unfoldable pub in_aperture : ℕ → ℕ → ℕ → Claimed
in_aperture b size a = when holds_of b size a then claimed aperture (a % size) else unclaimed

-- the aperture by its size code
unfoldable pub aperture_of : ℕ → ℕ → ℕ → Claimed
aperture_of b code a = when code is 2 then unclaimed else in_aperture b (2 ^ exponent_of code) a

-- the memory windows
unfoldable pub memory_of : List ℕ → ℕ → Claimed
memory_of m a =
    when holds_of (register_at 8 m GTTMMADR) (2 ^ translation_exponent) a then claimed translation (a % 2 ^ translation_exponent)
    else aperture_of (register_at 8 m GMADR) (size_of (get_or m MSAC 0)) a

-- the I/O window
unfoldable pub io_of : List ℕ → ℕ → Claimed
io_of m p = when holds_of (register_at 4 m IOBAR) (2 ^ io_exponent) p then claimed io (p % 2 ^ io_exponent) else unclaimed

-- busy, or power state 11
abbrev pub off_of : Bool → List ℕ → Bool
off_of busy m = busy or get_or m PMCS 0 % 4 is 3
