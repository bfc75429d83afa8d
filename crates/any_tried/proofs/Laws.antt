-- What holds of every device holds of this one: each kind's history, and that what a lock freezes stays until a platform reset.
use mathlib.Core.Path.{◌≡◌, refl}
use mathlib.Core.Bool.{true, false}
use Prim.Native.Nat.{ℕ, ◌<◌, ◌≤◌}
use lib.Dec.{T}
use Rattle.bits.specs.Choice.{all_below}
use Rattle.any_map.specs.Map.{in_order, row_at, class_at}
use Rattle.any_map.proofs.Laws.{past_the_map}
use Rattle.any_device.specs.Class.{of_once}
use Rattle.any_device.specs.Device.{State, is_closed, places_of}
use Rattle.any_device.specs.Kinds.{History, Plain, ReadOnly, Cleared, of_field, Placed}
use Rattle.any_device.specs.First as F
use Rattle.any_device.specs.Locks.{sealed, frozen_by, Locked}
use Rattle.any_device.specs.Lanes.{Disabled}
use Rattle.any_device.proofs.Histories as H
use Rattle.any_device.proofs.First.{first_write_lem}
use Rattle.any_device.proofs.Fields.{agrees, placed}
use Rattle.any_device.proofs.Frozen.{locked_run}
use Rattle.any_device.proofs.Lanes.{disabled}
use Rattle.any_tried.specs.Small.{Platform, bare, board, rows, small, spans, tried, LOCK, LOCK_LOW, SEAL}

in_order_lem : (p : Platform) → T (in_order 0 (rows p))
unfolding rows
in_order_lem bare = tt
in_order_lem board = tt

all_agree : (p : Platform) → T (all_below 256 (agrees tried p))
unfolding rows row_at class_at spans places_of of_field
all_agree bare = tt
all_agree board = tt

past_all : (p : Platform) (f i j : ℕ) → 256 ≤ i → of_once f (tried.class p i j) ≡ false
past_all p f i j h = rw (past_the_map (small p) (in_order_lem p) i j h)

fields_placed : Placed tried
fields_placed = placed tried spans refl all_agree past_all

-- ---- the histories

pub each_plain : History tried (Plain tried)
each_plain = H.plain tried

pub each_read_only : History tried (ReadOnly tried)
each_read_only = H.read_only_lem tried

pub each_cleared : History tried (Cleared tried)
each_cleared = H.cleared tried

pub each_first : (f : ℕ) → f < 2 → F.FirstWrite tried f
each_first f h = first_write_lem tried f fields_placed h

pub each_lane : Disabled tried
each_lane = disabled tried

-- ---- the locks

pub each_locked : Locked tried
each_locked = locked_run tried

-- the bits that a lock is made of are frozen by it, in every state
pub lock_sealed : (s : State Platform) → sealed tried s LOCK LOCK ≡ true
unfolding rows row_at class_at frozen_by
lock_sealed s = go s.platform
  where
    go : (p : Platform) → sealed tried (record { bytes = s.bytes; closed = s.closed; platform = p }) LOCK LOCK ≡ true
    go bare = refl
    go board = refl

pub low_sealed : (s : State Platform) → sealed tried s LOCK_LOW LOCK_LOW ≡ true
unfolding rows row_at class_at frozen_by
low_sealed s = go s.platform
  where
    go : (p : Platform) → sealed tried (record { bytes = s.bytes; closed = s.closed; platform = p }) LOCK_LOW LOCK_LOW ≡ true
    go bare = refl
    go board = refl

-- a write-once bit that is a lock: where its field is closed
pub seal_closed : (s : State Platform) → is_closed s.closed 1 ≡ true → sealed tried s SEAL SEAL ≡ true
unfolding rows row_at class_at frozen_by
seal_closed s e = go s.platform
  where
    go : (p : Platform) → sealed tried (record { bytes = s.bytes; closed = s.closed; platform = p }) SEAL SEAL ≡ true
    go bare = rw e
    go board = rw e
