-- What deeds leave of the small map, computed: a row a rule.
use mathlib.Core.List.{List, [], ◌∷◌}
use mathlib.Core.Bool.{Bool, true}
use Prim.Native.Nat.{ℕ}
use lib.Dec.{T}
use lib.ListN.{get_or}
use Rattle.bits.specs.Bits.{number_of}
use Rattle.bits.specs.Choice.{◌and◌, ◌is◌}
use Rattle.access.specs.Access.{enabled, byte_for}
use Rattle.past.specs.Past.{ran}
use Rattle.any_map.specs.Map.{row_at, class_at, defaults}
use Rattle.any_device.specs.Class.{device, firmware}
use Rattle.any_device.specs.Device.{Deed, guest, host, return, anew, places_of, held_back, stored_bit, swept, written_bit, touches, closed_after, not_hosted, updated_bit, ended_bit, fresh, perform}
use Rattle.any_device.specs.Kinds.{run}
use Rattle.any_tried.specs.Small.{spans, Platform, bare, board, rows, tried}

-- from the start on the bare platform: these deeds leave this byte with this value
pub record Row : Type 0 where
  pub deeds : List (Deed Platform)
  pub at : ℕ
  pub value : ℕ

infix 70 ◌leave◌at◌
abbrev pub ◌leave◌at◌ : List (Deed Platform) → ℕ → ℕ → Row
ds leave x at i = record { deeds = ds; at = i; value = x }

abbrev pub all : List Row → Bool
all [] = true
all (e ∷ es) = get_or (run tried bare e.deeds).bytes e.at 0 is e.value and all es

pub small_rows : List Row
small_rows =
    -- write-one-to-clear: the host's 1 sets, a guest's 1 in an enabled lane clears, a 0 of either leaves, and the later wins
    (host device 0x05 0x70 0x70 ∷ []) leave 0x70 at 0x05 ∷
    (host device 0x05 0x70 0x70 ∷ guest 0x04 0x2 0x2000 ∷ []) leave 0x50 at 0x05 ∷
    (host device 0x05 0x70 0x70 ∷ guest 0x04 0x1 0x2000 ∷ []) leave 0x70 at 0x05 ∷
    (host device 0x05 0x70 0x70 ∷ host device 0x05 0x70 0x00 ∷ []) leave 0x70 at 0x05 ∷
    (host device 0x05 0x70 0x70 ∷ guest 0x04 0x2 0x7000 ∷ host device 0x05 0x70 0x10 ∷ []) leave 0x10 at 0x05 ∷
    -- another host's update, and one of a bit that has none, are refused whole
    (host firmware 0x05 0x70 0x70 ∷ []) leave 0x00 at 0x05 ∷
    (host device 0x05 0xF0 0x70 ∷ []) leave 0x00 at 0x05 ∷
    -- a lock freezes the bits that it is made of, and the others that it names
    (guest 0x10 0x1 0xF2 ∷ guest 0x10 0x1 0x00 ∷ []) leave 0xF2 at 0x10 ∷
    (guest 0x10 0x1 0xF2 ∷ guest 0x14 0x1 0xFF ∷ []) leave 0x00 at 0x14 ∷
    (guest 0x14 0x1 0xFF ∷ []) leave 0xFF at 0x14 ∷
    -- a lock of two bits: bit 2 is writable under the lock where bit 3 is 1
    (guest 0x10 0x1 0xFA ∷ guest 0x10 0x1 0x04 ∷ []) leave 0xFE at 0x10 ∷
    (guest 0x10 0x1 0xF2 ∷ guest 0x10 0x1 0x04 ∷ []) leave 0xF2 at 0x10 ∷
    -- a lock that is write-once
    (guest 0x20 0x1 0x03 ∷ guest 0x20 0x1 0x04 ∷ []) leave 0x07 at 0x20 ∷
    (guest 0x20 0x1 0x00 ∷ guest 0x20 0x1 0x03 ∷ []) leave 0x02 at 0x20 ∷
    -- write-once: the first write's enabled bytes, and no more
    (guest 0x08 0x1 0x34 ∷ guest 0x08 0x3 0xFFFF ∷ []) leave 0x00 at 0x09 ∷
    (guest 0x08 0x1 0x34 ∷ return ∷ guest 0x08 0x3 0xFFFF ∷ []) leave 0x34 at 0x08 ∷
    -- a function reset returns F bits alone, a platform reset all, to the platform that it chooses
    (guest 0x04 0x1 0x01 ∷ return ∷ []) leave 0x90 at 0x04 ∷
    (guest 0x10 0x1 0xF2 ∷ return ∷ []) leave 0xF2 at 0x10 ∷
    (guest 0x10 0x1 0xF2 ∷ anew board ∷ []) leave 0xA0 at 0x14 ∷
    (guest 0x10 0x1 0xF2 ∷ anew bare ∷ guest 0x14 0x1 0xFF ∷ []) leave 0xFF at 0x14 ∷
    []

pub each_row_lem : T (all small_rows)
unfolding small_rows number_of row_at class_at defaults ran enabled byte_for places_of held_back stored_bit swept written_bit touches closed_after not_hosted updated_bit ended_bit fresh perform spans rows
each_row_lem = tt
