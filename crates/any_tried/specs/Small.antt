-- A small map of its own, with the kinds of bits that no device here has yet: write-one-to-clear bits, bits that a lock freezes, a lock of two bits, and a lock that is itself write-once.
use Rattle.std.specs.Prelude.{List, [], ◌∷◌, ℕ}
use Rattle.any_map.specs.Map as M
use Rattle.any_map.specs.Map.{Map, Row, row, ◌on◌, ◌&◌, class_at}
use Rattle.any_device.specs.Class.{Stands, never, always, once, until, device, Class, guest_bit, clear_bit, with_f}
use Rattle.any_device.specs.Device.{Device, Span, span, places_of}

-- it has no special rules, and two platforms
abbrev pub Special : Type 0
Special = ⊥

pub data Platform : Type 0 where
  bare board : Platform

-- ---- its locks

-- bit b of byte i has the value v
abbrev pub stands : ℕ → ℕ → ℕ → Stands
stands i b v = record { byte = i; place = b; value = v }

-- bit 1 of byte 10
abbrev pub LOCK : List Stands
LOCK = stands 0x10 1 1 ∷ []

-- the same, where bit 3 of it is 0
abbrev pub LOCK_LOW : List Stands
LOCK_LOW = stands 0x10 1 1 ∷ stands 0x10 3 0 ∷ []

-- bit 0 of byte 20, which is write-once
abbrev pub SEAL : List Stands
SEAL = stands 0x20 0 1 ∷ []

-- ---- its classes

abbrev pub guest : Class Special
guest = guest_bit always

abbrev pub write_once : ℕ → Class Special
write_once f = guest_bit (once f)

abbrev pub locked_by : List Stands → Class Special
locked_by cs = guest_bit (until cs)

abbrev pub one_to_clear : Class Special
one_to_clear = clear_bit device

-- ---- its rows

abbrev pub strap : Platform → ℕ
strap bare = 0x00
strap board = 0xA0

--      at · bytes · default · rule
unfoldable pub rows : Platform → List (Row (Class Special))
rows p =
    row 0x04 2 0x0090 (one_to_clear on 0x7000 & with_f guest on 0x0001) ∷
    row 0x08 2 0x0000 (write_once 0 on 0xFFFF) ∷
    row 0x10 1 0x00 (locked_by LOCK on 0xFA & locked_by LOCK_LOW on 0x04 & one_to_clear on 0x01) ∷
    row 0x14 1 (strap p) (locked_by LOCK on 0xFF) ∷
    row 0x20 1 0x00 (write_once 1 on 0x01 & locked_by SEAL on 0x02 & guest on 0x04) ∷
    []

abbrev pub small : Platform → Map (Class Special)
small p = record { rows = rows p; unlisted = guest_bit never }

unfoldable pub spans : List Span
spans = span 0x08 2 ∷ span 0x20 1 ∷ []

abbrev pub tried : Device Special Platform
tried = record {
  class = λ (p : Platform) (i j : ℕ). class_at (small p) i j;
  defaults = λ (p : Platform). M.defaults (small p);
  fields = 2;
  places = places_of spans;
  holds = λ (k : Special) (m : List ℕ) (w : ℕ). absurd k;
  sweeps = λ (k : Special) (m : List ℕ) (o l : ℕ). absurd k;
  computes = λ (m : List ℕ) (i j : ℕ). 0;
}
