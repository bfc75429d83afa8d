-- The classes of the built-in function's bits ('The register map', 'How a bit behaves').
use Rattle.std.specs.Prelude.{[], ◌∷◌, ℕ}
use Rattle.any_map.specs.Map.{Rule}
use Rattle.any_device.specs.Class as C
use Rattle.any_device.specs.Class.{never, always, special, device, guest_bit, host_bit, computed_bit, with_f}

-- what a platform reset chooses from
pub data Platform : Type 0 where
  ivy_bridge : Platform

-- its special rules: the size code of MSAC; a bit of GMADR, by its number, unless the size code takes it; the power state
pub data Special : Type 0 where
  size : Special
  taken : ℕ → Special
  power : Special

-- the three write-once fields: SVID2, SID2, and bit 15 of SWSCI
pub data Field : Type 0 where
  svid2 sid2 swsci15 : Field

abbrev pub field_number : Field → ℕ
field_number svid2 = 0
field_number sid2 = 1
field_number swsci15 = 2

-- ---- the classes

abbrev pub Class : Type 0
Class = C.Class Special

abbrev pub read_only : Class
read_only = guest_bit never

abbrev pub host : Class
host = host_bit device

abbrev pub guest : Class
guest = guest_bit always

abbrev pub once : Field → Class
once f = guest_bit (C.once (field_number f))

abbrev pub size_code : Class
size_code = guest_bit (special size)

abbrev pub aperture : ℕ → Class
aperture b = guest_bit (special (taken b))

abbrev pub power_state : Class
power_state = guest_bit (special power)

abbrev pub computed : Class
computed = computed_bit

-- no write stores it, and the end of the function reset that it starts leaves it at its default, 0
abbrev pub reset_start : Class
reset_start = with_f read_only

-- ---- the marks of a row

-- F: a function reset returns its bits to default
abbrev pub returning : Rule Class → Rule Class
returning [] = []
returning (p ∷ ps) = record { mask = p.mask; class = with_f p.class } ∷ returning ps

infix 15 ◌F ◌h
abbrev pub ◌F : Rule Class → Rule Class
r F = returning r

-- h: the house reading, where the manual's scan is poor; it says nothing of a bit
abbrev pub ◌h : Rule Class → Rule Class
r h = r
