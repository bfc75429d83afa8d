-- The plain rule: what a read, a guest write, a host update and a function reset make of a bit, by masks alone ('How a bit behaves').
-- One rule for two sources of masks: the register map, whose special rules stand in Read.antt and Guest.antt, and a register sheet.
use Rattle.std.specs.Prelude.{List, Bool, not, ℕ, ◌+◌, ◌/◌, ◌%◌, get_or}
use Rattle.bits.specs.Bits.{bit, number_of, byte_of}
use Rattle.bits.specs.Choice.{when◌then◌else◌, ◌and◌, ◌or◌, ◌is◌, ◌<?◌, any_below}
use Rattle.bits.specs.Places.{bytes}
use Rattle.answer.specs.Refusals.{Reply, OFFSET}
use Rattle.access.specs.Access.{enabled, byte_for, bad_offset, reply_at}
use Rattle.past.specs.Past.{Given, nothing, given}

-- bit j of byte i
abbrev pub Bits : Type 0
Bits = ℕ → ℕ → ℕ

-- whether a mask has bit j of byte i
abbrev pub Mask : Type 0
Mask = ℕ → ℕ → Bool

-- the bits that a table of bytes holds, and the mask that it is
abbrev pub held : List ℕ → Bits
held m i j = bit (get_or m i 0) j

-- the 256 bytes that bits make
abbrev pub made : Bits → List ℕ
made b = bytes (λ (i : ℕ). byte_of (b i))

abbrev pub under : List ℕ → Mask
under t i j = bit (get_or t i 0) j is 1

-- ---- a guest read of the dword at o, with lanes l

-- a bit of a lane that is not enabled: the bus pulls it high
abbrev pub undriven : ℕ
undriven = 1

-- of a dword's 32 bits: each enabled byte in its place, FF in the others
abbrev pub lane_value : (ℕ → ℕ) → ℕ → ℕ
lane_value b l = number_of 32 (λ (n : ℕ). when bit l (n / 8) is 1 then b n else undriven)

abbrev pub shown_value : Bits → ℕ → ℕ → ℕ
shown_value b o l = lane_value (λ (n : ℕ). b (o + n / 8) (n % 8)) l

-- refusals 5 and 6 in this order; else the value
abbrev pub read_reply : ℕ → ℕ → ℕ → Reply
read_reply o l value = reply_at (bad_offset o) OFFSET l value

-- ---- a guest write

-- in an enabled lane, a bit that the mask has takes the bit written, w
abbrev pub stored_over : Bool → Bool → ℕ → ℕ → ℕ
stored_over lane has w x = when lane and has then w else x

-- a write of v to the dword at o, with lanes l
abbrev pub written_bit : Mask → Bits → ℕ → ℕ → ℕ → Bits
written_bit g b o l v i j = stored_over (enabled o l i) (g i j) (bit (byte_for o v i) j) (b i j)

-- ---- a host update of the byte at o, with a mask byte and a value byte

-- the mask byte has a bit outside the host mask
abbrev pub outside : Mask → ℕ → ℕ → Bool
outside h o m = any_below 8 (λ (j : ℕ). bit m j is 1 and not (h o j))

-- masked bits take the value's bits
abbrev pub updated_bit : Bits → ℕ → ℕ → ℕ → Bits
updated_bit b o m v i j = when i is o and bit m j is 1 then bit v j else b i j

-- what an accepted host update gives bit j of byte i, if it masks it
abbrev pub update_gives : Mask → ℕ → ℕ → ℕ → ℕ → ℕ → Given
update_gives h o m v i j = when not (255 <? o or outside h o m) and i is o and bit m j is 1 then given (bit v j) else nothing

-- ---- a function reset

-- a bit that the mask has returns to default
abbrev pub returned_bit : Mask → (ℕ → ℕ) → Bits → Bits
returned_bit f d b i j = when f i j then bit (d i) j else b i j
