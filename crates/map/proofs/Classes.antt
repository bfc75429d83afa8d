-- The map gives each of the 2,048 bits one class, and the tables say what the classes say.
use mathlib.Core.Path.{◌≡◌, refl}
use mathlib.Core.Bool.{Bool, true, false, not}
use Prim.Native.Nat.{ℕ, ◌*◌, ◌<◌, ◌≤◌}
use lib.Dec.{T}
use Rattle.bits.specs.Bits.{bit}
use Rattle.bits.specs.Choice.{both, either, mark, all_below}
use Rattle.bits.proofs.Below.{both_left, both_right, is_false}
use Rattle.any_map.specs.Map.{default_in, row_at, rows_at, parts_at, in_order, every_class}
use Rattle.any_map.proofs.Laws.{table_bit, default_at_lem, past_the_map, one_at, one_row, one_class, every_bit}
use Rattle.any_device.specs.Class.{device, stores, by_host, has_f, is_never, is_until}
use Rattle.map.specs.Class.{ivy_bridge, Class, read_only}
use Rattle.map.specs.Map.{rows, igd, class_of, default_at, guest_at, host_at, reset_at}

-- ---- every bit has exactly one class: at most one part of one row has it, and where none has it it is read-only

all_one : T (all_below 256 (one_at (rows ivy_bridge)))
unfolding rows
all_one = tt

pub a_row : (i : ℕ) → i < 256 → rows_at (rows ivy_bridge) i ≤ 1
a_row = one_row (rows ivy_bridge) all_one

pub a_class : (i j : ℕ) → i < 256 → j < 8 → parts_at (rows ivy_bridge) i j ≤ 1
a_class = one_class (rows ivy_bridge) all_one

-- each default and each mask lies within its register's bytes, and the rows are in order
pub rows_fit : T (in_order 0 (rows ivy_bridge))
unfolding rows
rows_fit = tt

-- a byte past the last has no row, so its bits are read-only
pub past_the_rows : (i j : ℕ) → 256 ≤ i → class_of i j ≡ read_only
past_the_rows i j h = past_the_map (igd ivy_bridge) rows_fit i j h

-- ---- what holds of every class that a row names

-- no bit is a guest's and the host's, a function reset returns none of the host's, and no bit is write-one-to-clear or has a lock
abbrev apart : Class → Bool
apart c = either (is_never c.stored) (not (by_host device c))

abbrev stays : Class → Bool
stays c = either (not (has_f c)) (not (by_host device c))

abbrev sound : Class → Bool
sound c = both (apart c) (both (stays c) (both (not c.clears) (not (is_until c.stored))))

all_sound : T (every_class (igd ivy_bridge) sound)
unfolding rows
all_sound = tt

pub sound_at : (i j : ℕ) → T (sound (class_of i j))
sound_at i j = every_bit sound (igd ivy_bridge) all_sound i j

-- none is write-one-to-clear, and none has a lock
pub unclearing : (i j : ℕ) → (class_of i j).clears ≡ false
unclearing i j = is_false _ (both_left (not (class_of i j).clears) _ (both_right (stays (class_of i j)) _ (both_right (apart (class_of i j)) _ (sound_at i j))))

pub lockless : (i j : ℕ) → is_until (class_of i j).stored ≡ false
lockless i j = is_false _ (both_right (not (class_of i j).clears) _ (both_right (stays (class_of i j)) _ (both_right (apart (class_of i j)) _ (sound_at i j))))

-- ---- the tables

pub guest_bit_lem : (i j : ℕ) → i < 256 → j < 8 → bit (guest_at i) j ≡ mark (stores (class_of i j))
guest_bit_lem i j h k = table_bit (igd ivy_bridge) stores i j h k

pub host_bit_lem : (i j : ℕ) → i < 256 → j < 8 → bit (host_at i) j ≡ mark (by_host device (class_of i j))
host_bit_lem i j h k = table_bit (igd ivy_bridge) (by_host device) i j h k

pub reset_bit : (i j : ℕ) → i < 256 → j < 8 → bit (reset_at i) j ≡ mark (has_f (class_of i j))
reset_bit i j h k = table_bit (igd ivy_bridge) has_f i j h k

no_product : (never host : Bool) → T (either never (not host)) → mark (not never) * mark host ≡ 0
no_product true true t = refl
no_product true false t = refl
no_product false true t = absurd t
no_product false false t = refl

pub disjoint : (i j : ℕ) → i < 256 → j < 8 → bit (guest_at i) j * bit (host_at i) j ≡ 0
disjoint i j h k = rw (guest_bit_lem i j h k, host_bit_lem i j h k) (no_product (is_never (class_of i j).stored) (by_host device (class_of i j)) (both_left (apart (class_of i j)) _ (sound_at i j)))

-- each byte of the defaults is its row's
pub default_is : (i : ℕ) → i < 256 → default_at i ≡ default_in (row_at (igd ivy_bridge) i) i
default_is i h = default_at_lem (igd ivy_bridge) i h
