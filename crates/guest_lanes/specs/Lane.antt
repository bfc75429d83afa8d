-- Which guest bits of a byte a write reaches, as the code finds them.
use Rattle.std.specs.Prelude.{Bool, false, ℕ, ◌+◌}
use Rattle.bits.specs.Bits.{blend_k}
use Rattle.bits.specs.Choice.{when◌then◌else◌, ◌is◌}
use Rattle.any_map.specs.Map.{mask_at}
use Rattle.any_device.specs.Class.{Stored, never, always, once, until, special}
use Rattle.any_device.specs.Device.{is_closed}
use Rattle.map.specs.Registers.{GMADR}
use Rattle.map.specs.Class.{ivy_bridge, Special, Class}
use Rattle.map.specs.Map.{igd}
use Rattle.rules.specs.declared.Flags.{Flags}
use Rattle.rules.specs.Device.{holds_by, is_taken, closed_of}

-- ---- which guest bits a write leaves

unfoldable pub taken_mask : ℕ → ℕ
taken_mask code = mask_at (igd ivy_bridge) (λ (k : Class). is_taken code k.stored) (GMADR + 3)

unfoldable pub if_closed : ℕ → ℕ → ℕ
if_closed flag mask = when flag is 0 then 0 else mask

-- a guest bit that does not take the bit written, by the flags, the size code that stands and the byte written
unfoldable pub leaves : Flags → ℕ → ℕ → Stored Special → Bool
leaves c code w never = false
leaves c code w always = false
leaves c code w (once f) = is_closed (closed_of c) f
leaves c code w (until cs) = false
leaves c code w (special k) = holds_by code w k

abbrev pub leaves_bit : Flags → ℕ → ℕ → Class → Bool
leaves_bit c code w k = leaves c code w k.stored

unfoldable pub held_of : Flags → ℕ → ℕ → ℕ → ℕ
held_of c code w i = mask_at (igd ivy_bridge) (leaves_bit c code w) i

-- the guest bits that take what is written
unfoldable pub reach_of : Flags → ℕ → ℕ → ℕ → ℕ → ℕ
reach_of c code i full w = blend_k 8 (held_of c code w i) full 0
