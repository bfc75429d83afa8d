-- The sentences of 'Walk', each with bytes, computed, of which the walk would say otherwise if the sentence were turned round.
use mathlib.Core.Path.{◌≡◌, refl}
use mathlib.Core.List.{List, []}
use Prim.Native.Nat.{ℕ, ◌+◌, ◌%◌}
use Rattle.bits.specs.Choice.{when◌then◌else◌, ◌is◌, ◌<?◌}
use Rattle.bits.specs.Places.{bytes}
use Rattle.walk.specs.Walk.{found_at, absent, refused, walk_from, walk_of}

-- 256 bytes: byte 06h and byte 34h as given, and f from 40h on
abbrev list : ℕ → ℕ → (ℕ → ℕ) → List ℕ
list status first f = bytes (λ (i : ℕ). when i is 0x06 then status else when i is 0x34 then first else when i <? 0x40 then 0 else f i)

-- two items: ID 05 at 40h, and ID 13 at 50h, whose next pointer is last
abbrev two : ℕ → ℕ → ℕ
two last i = when i is 0x40 then 0x05 else when i is 0x41 then 0x50 else when i is 0x50 then 0x13 else when i is 0x51 then last else 0

-- an item at each of the 48 dwords from 40h on, each pointing at the next; the last points at `last`
abbrev chain : ℕ → ℕ → ℕ
chain last i = when i is 0xFD then last else when i % 4 is 1 then i + 3 else 0x01

pub record Walked : Type 0 where
  -- a buffer that isn't 256 bytes
  pub another_length : walk_of [] 0x05 ≡ refused 1 0
  -- If byte 06h bit 4 is 0 the list is empty
  pub no_list : walk_of (list 0xEF 0x40 (two 0)) 0x05 ≡ absent 0
  -- the first pointer is byte 34h; each item's ID is at its offset, the next pointer one byte on; the found one is counted
  pub first_item : walk_of (list 0x10 0x40 (two 0)) 0x05 ≡ found_at 0x40 1
  pub second_item : walk_of (list 0x10 0x40 (two 0)) 0x13 ≡ found_at 0x50 2
  pub from_the_second : walk_of (list 0x10 0x50 (two 0)) 0x05 ≡ absent 1
  -- pointer 0: absent
  pub none_left : walk_of (list 0x10 0x40 (two 0)) 0x07 ≡ absent 2
  pub none_at_all : walk_of (list 0x10 0x00 (two 0)) 0x05 ≡ absent 0
  -- the two low bits of a pointer are dropped before any test
  pub low_bits : walk_of (list 0x10 0x43 (two 0x03)) 0x07 ≡ absent 2
  pub low_bits_found : walk_of (list 0x10 0x42 (two 0)) 0x05 ≡ found_at 0x40 1
  -- pointer 04h to 3Ch
  pub from_04 : walk_of (list 0x10 0x40 (two 0x04)) 0x07 ≡ refused 10 2
  pub to_3C : walk_of (list 0x10 0x3F (two 0)) 0x05 ≡ refused 10 0
  -- 48 items visited and another pointer pending; pointer 0 and a bad pointer come first
  pub forty_eight : walk_of (list 0x10 0x40 (chain 0)) 0x07 ≡ absent 48
  pub one_more : walk_of (list 0x10 0x40 (chain 0x40)) 0x07 ≡ refused 11 48
  pub bad_then : walk_of (list 0x10 0x40 (chain 0x20)) 0x07 ≡ refused 10 48
  -- wanted ID at the item, the first that has it
  pub the_first : walk_of (list 0x10 0x80 (chain 0x40)) 0x01 ≡ found_at 0x80 1

pub walked : Walked
unfolding walk_of walk_from
walked = record {
  another_length = refl;
  no_list = refl;
  first_item = refl;
  second_item = refl;
  from_the_second = refl;
  none_left = refl;
  none_at_all = refl;
  low_bits = refl;
  low_bits_found = refl;
  from_04 = refl;
  to_3C = refl;
  forty_eight = refl;
  one_more = refl;
  bad_then = refl;
  the_first = refl;
}
