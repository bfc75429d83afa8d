-- What a direct read gives lane by lane, and that a port caller sees nothing of the lanes that are not enabled ('How a bit behaves', as amended by W-206).
-- The first three are said of any bits, so of the built-in function and of a sheet's device.
use Rattle.std.specs.Prelude.{◌≡◌, true, false, ℕ, ◌+◌, ◌-◌, ◌/◌, ◌%◌, ◌^◌, ◌<◌}
use Rattle.bits.specs.Bits.{byte_of}
use Rattle.bits.specs.Choice.{when◌then◌else◌}
use Rattle.answer.specs.Refusals.{number, value, ok}
use Rattle.rules.specs.declared.State.{State}
use Rattle.access.specs.Access.{enabled, byte_for}
use Rattle.rules.specs.Read.{read_bit, read_value}
use Rattle.plain.specs.Plain.{Bits, shown_value, read_reply}
use Rattle.rules.specs.Ports.{DATA, at_latch, dword_of, port_lanes, port_read_of}

-- 1. An accepted read gives each enabled byte in its place, and FF in the lanes that aren't enabled.
abbrev pub InLanes : Type 0
InLanes = (b : Bits) (o l k : ℕ) → ((i j : ℕ) → b i j < 2) → k < 4 → byte_for o (shown_value b o l) (o + k) ≡ (when enabled o l (o + k) then byte_of (b (o + k)) else 0xFF)

-- 2. Lanes 0 reads FFFFFFFF.
abbrev pub NoLanes : Type 0
NoLanes = (b : Bits) (o : ℕ) → shown_value b o 0 ≡ 0xFFFFFFFF

-- 3. A refused read still returns 0.
abbrev pub RefusedRead : Type 0
RefusedRead = (o l v : ℕ) → (number (read_reply o l v) ≡ 0 → ⊥) → value (read_reply o l v) ≡ 0

-- 4. A port caller sees no difference.

-- a dword has the enabled bytes as a guest reads them, whatever it has in the other lanes: 00, or FF
abbrev pub Shows : State → ℕ → ℕ → ℕ → Type 0
Shows s o l d = (k : ℕ) → k < 4 → enabled o l (o + k) ≡ true → byte_for o d (o + k) ≡ byte_of (read_bit s (o + k))

-- so does a direct read
abbrev pub Direct : Type 0
Direct = (s : State) (o l : ℕ) → Shows s o l (read_value s o l)

-- and whichever such dword it is, an accepted data read of w bytes gives the w bytes of its lanes, moved down, and 0 above the width
abbrev pub ThroughPort : Type 0
ThroughPort = (s : State) (p w v d : ℕ) → at_latch p w ≡ false → port_read_of s p w ≡ ok v → Shows s (dword_of s.latch) (port_lanes (p - DATA) w) d → v ≡ d / 256 ^ (p - DATA) % 256 ^ w
