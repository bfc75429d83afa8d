-- Address claims ('Claims, probe, walk').
use Rattle.std.specs.Prelude.{Bool, ℕ, ◌+◌, ◌/◌, ◌%◌, ◌^◌}
use Rattle.bits.specs.Bits.{bit, field, number_of}
use Rattle.bits.specs.Choice.{when◌then◌else◌, ◌or◌, ◌is◌, ◌<?◌}
use Rattle.map.specs.Registers.{PCICMD2, GTTMMADR, GMADR, IOBAR, MSAC, PMCS}
use Rattle.rules.specs.declared.State.{State}
use Rattle.rules.specs.Access.{byte, busy}
use Rattle.rules.specs.Device.{size_of, exponent_of}

-- ---- what a claim gives

pub data Window : Type 0 where
  translation aperture io : Window

pub data Claimed : Type 0 where
  unclaimed : Claimed
  -- the window that claims the address, with the offset inside
  claimed : Window → ℕ → Claimed

-- ---- bases

-- a base is its register of so many bits with the bits below `low` taken as 0
abbrev pub base_bit : State → ℕ → ℕ → ℕ → ℕ
base_bit s at low b = when b <? low then 0 else bit (byte s (at + b / 8)) (b % 8)

unfoldable pub base : State → ℕ → ℕ → ℕ → ℕ
base s at width low = number_of width (base_bit s at low)

abbrev pub translation_base : State → ℕ
translation_base s = base s GTTMMADR 64 4

abbrev pub aperture_base : State → ℕ
aperture_base s = base s GMADR 64 4

abbrev pub io_base : State → ℕ
io_base s = base s IOBAR 32 2

-- ---- sizes, as exponents

-- 4 MB
abbrev pub translation_exponent : ℕ
translation_exponent = 22

-- 64 bytes
abbrev pub io_exponent : ℕ
io_exponent = 6

-- ---- the rule

-- the address equals the base in all bits from the size upward
abbrev pub holds : ℕ → ℕ → ℕ → Bool
holds b e a = a / 2 ^ e is b / 2 ^ e

-- the offset is the address modulo the window's size
abbrev pub at : Window → ℕ → ℕ → Claimed
at w e a = claimed w (a % 2 ^ e)

-- while busy nothing is claimed, and in power state 11
abbrev pub off : State → Bool
off s = busy s or field (byte s PMCS) 1 0 is 3

-- size code 10 claims no aperture
unfoldable pub aperture_claim : State → ℕ → ℕ → Claimed
aperture_claim s code a =
    when code is 2 then unclaimed
    else when holds (aperture_base s) (exponent_of code) a then at aperture (exponent_of code) a
    else unclaimed

-- memory needs PCICMD2 bit 1; if both windows hold the address, GTTMMADR answers
unfoldable pub memory_claim_of : State → ℕ → Claimed
memory_claim_of s a =
    when bit (byte s PCICMD2) 1 is 0 then unclaimed
    else when off s then unclaimed
    else when holds (translation_base s) translation_exponent a then at translation translation_exponent a
    else aperture_claim s (size_of (byte s MSAC)) a

-- I/O needs PCICMD2 bit 0
unfoldable pub io_claim_of : State → ℕ → Claimed
io_claim_of s p =
    when bit (byte s PCICMD2) 0 is 0 then unclaimed
    else when off s then unclaimed
    else when holds (io_base s) io_exponent p then at io io_exponent p
    else unclaimed
