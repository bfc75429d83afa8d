-- The built-in function as a device: its map, its write-once fields, and its special rules, of the size code, the aperture and the power state ('How a bit behaves').
use Rattle.std.specs.Prelude.{List, [], ◌∷◌, Bool, false, not, ℕ, ◌+◌, get_or}
use Rattle.bits.specs.Bits.{bit, field}
use Rattle.bits.specs.Choice.{when◌then◌else◌, ◌and◌, ◌or◌, ◌is◌, ◌≤?◌, ◌<?◌}
use Rattle.access.specs.Access.{enabled}
use Rattle.any_map.specs.Map.{class_at, defaults}
use Rattle.any_device.specs.Class.{Stored, never, always, once, until, special}
use Rattle.any_device.specs.Device as D
use Rattle.any_device.specs.Device.{Device, Span, span, places_of}
use Rattle.map.specs.Registers.{SVID2, SID2, MSAC, CAPL, SWSCI}
use Rattle.map.specs.Class.{Platform, ivy_bridge, Special, size, taken, power}
use Rattle.map.specs.Map.{igd}
use Rattle.rules.specs.declared.State.{State}
use Rattle.rules.specs.declared.Flags.{Flags}

-- ---- MSAC's size code, bits 2:1

abbrev pub size_of : ℕ → ℕ
size_of msac = field msac 2 1

-- code 00 names 128 MB, 2 ^ 27
abbrev pub least_exponent : ℕ
least_exponent = 27

-- how many bits of GMADR, from bit 27 up, the code makes read-only: 01 bit 27, 11 bits 28:27, 00 neither; 10 (foreign states only) neither
unfoldable pub bits_taken : ℕ → ℕ
bits_taken code = when code is 3 then 2 else when code is 1 then 1 else 0

-- 01 names 256 MB, 11 names 512 MB: each bit taken doubles the size
abbrev pub exponent_of : ℕ → ℕ
exponent_of code = least_exponent + bits_taken code

-- bit b of GMADR is one of them
unfoldable pub taken_by : ℕ → ℕ → Bool
taken_by code b = least_exponent ≤? b and b <? exponent_of code

-- ---- the special rules

-- where the size code is this, a write of byte w over the bit's own byte leaves the bit: code 10 is not stored, nor are the power states 01 and 10
unfoldable pub holds_by : ℕ → ℕ → Special → Bool
holds_by code w size = size_of w is 2
holds_by code w (taken b) = taken_by code b
holds_by code w power = not (field w 1 0 is 0 or field w 1 0 is 3)

-- the size code that bytes hold
abbrev pub code_in : List ℕ → ℕ
code_in m = size_of (get_or m MSAC 0)

-- every write that enables MSAC clears the bits that the code then makes read-only
unfoldable pub sweeps : Special → List ℕ → ℕ → ℕ → Bool
sweeps size m o l = false
sweeps (taken b) m o l = enabled o l MSAC and taken_by (code_in m) b
sweeps power m o l = false

-- a bit of GMADR that the code takes
abbrev pub is_taken : ℕ → Stored Special → Bool
is_taken code never = false
is_taken code always = false
is_taken code (once f) = false
is_taken code (until cs) = false
is_taken code (special size) = false
is_taken code (special (taken b)) = taken_by code b
is_taken code (special power) = false

-- ---- the computed pointer

-- CAPPOINT reads 90 when CAPL bit 0 is 0, D0 when it is 1
unfoldable pub pointer : List ℕ → ℕ
pointer m = when bit (get_or m CAPL 0) 0 is 1 then 0xD0 else 0x90

-- ---- the device

-- where the write-once fields stand, in the order of their numbers: SVID2, SID2, the byte that has bit 15 of SWSCI
unfoldable pub spans : List Span
spans = span SVID2 2 ∷ span SID2 2 ∷ span (SWSCI + 1) 1 ∷ []

abbrev pub built_in : Device Special Platform
built_in = record {
  class = λ (p : Platform) (i j : ℕ). class_at (igd p) i j;
  defaults = λ (p : Platform). defaults (igd p);
  fields = 3;
  places = places_of spans;
  holds = λ (k : Special) (m : List ℕ) (w : ℕ). holds_by (code_in m) w k;
  sweeps = sweeps;
  computes = λ (m : List ℕ) (i j : ℕ). bit (pointer m) j;
}

-- ---- what of a state is the device's

abbrev pub closed_of : Flags → List ℕ
closed_of c = c.svid2 ∷ c.sid2 ∷ c.swsci15 ∷ []

abbrev pub core_of : List ℕ → Flags → D.State Platform
core_of m c = record { bytes = m; closed = closed_of c; platform = ivy_bridge }

abbrev pub core : State → D.State Platform
core s = core_of s.bytes s.flags
