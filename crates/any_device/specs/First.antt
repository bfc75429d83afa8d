-- Write-once in the paper's words: the first write that touches the field since the last platform reset, its enabled bytes over the default.
use Rattle.std.specs.Prelude.{◌≡◌, List, false, ℕ, ◌<◌}
use Rattle.bits.specs.Bits.{bit}
use Rattle.bits.specs.Choice.{when◌then◌else◌}
use Rattle.access.specs.Access.{enabled, byte_for}
use Rattle.past.specs.Past.{ran}
use Rattle.any_device.specs.Class.{once, none, Class}
use Rattle.plain.specs.Plain.{held}
use Rattle.any_device.specs.Device.{Device, Deed, idle, guest, host, return, anew, default_bit}
use Rattle.any_device.specs.Kinds.{Touch, platform_of, run, touching}

pub data First : Type 0 where
  no_write : First
  -- offset, lanes, value
  first : ℕ → ℕ → ℕ → First

pub record Since (P : Type 0) : Type 0 where
  pub platform : P
  pub write : First

-- a write is remembered where none is yet
abbrev pub or_first : First → First → First
or_first no_write f = f
or_first (first o l v) f = first o l v

module _ {P : Type 0} where
  abbrev pub remember : Touch P → Deed P → Since P → Since P
  remember t idle y = y
  remember t (guest o l v) y = record { platform = y.platform; write = or_first y.write (when t y.platform o l then first o l v else no_write) }
  remember t (host w o m v) y = y
  remember t return y = y
  remember t (anew p) y = record { platform = p; write = no_write }

module _ {K P : Type 0} (d : Device K P) where
  abbrev pub over_default : Since P → ℕ → ℕ → ℕ
  over_default y i j = over y.write
    where
      over : First → ℕ
      over no_write = default_bit d y.platform i j
      over (first o l v) = when enabled o l i then bit (byte_for o v i) j else default_bit d y.platform i j

  abbrev pub first_since : ℕ → P → List (Deed P) → Since P
  first_since f p ds = ran (remember (touching d f)) (record { platform = p; write = no_write }) ds

  -- a bit of the field
  abbrev pub Locked : ℕ → Class K → Type 0
  Locked f c = (c.stored ≡ once f) × (c.clears ≡ false) × (c.host ≡ none) × (c.returned ≡ false)

  abbrev pub FirstWrite : ℕ → Type 0
  FirstWrite f = (i j : ℕ) → i < 256 → j < 8 → (p : P) (ds : List (Deed P)) → Locked f (d.class (platform_of (touching d f) p ds) i j) → held (run d p ds).bytes i j ≡ over_default (first_since f p ds) i j
