-- The events of a small device, computed: what each leaves, by 'How a bit behaves' and W-201.
use mathlib.Core.Path.{◌≡◌, refl}
use mathlib.Core.List.{List, [], ◌∷◌}
use Prim.Native.Nat.{ℕ}
use Rattle.bits.specs.Bits.{number_of}
use Rattle.bits.specs.Places.{from}
use Rattle.access.specs.Access.{enabled, byte_for}
use Rattle.past.specs.Past.{ran}
use Rattle.plain_device.specs.declared.Tables.{Tables}
use Rattle.plain_device.specs.Device.{write_of, host_of, function_reset_of, happens}
use Rattle.plain_device.specs.declared.Event.{Event}
use Rattle.plain_device.specs.declared.Event.TheVariants.{Read, Write, HostUpdate, FunctionReset, PlatformReset}
use Rattle.plain_device.specs.ReadOnly.{run}

-- one register of two bytes at 00: byte 00 is the guest's, and a function reset returns its low half; of byte 01 the low half is the guest's and the high half the host's, and none is reset
abbrev small : Tables
small = record {
  defaults = 0x34 ∷ 0x12 ∷ [];
  guests = 0xFF ∷ 0x0F ∷ [];
  hosts = 0x00 ∷ 0xF0 ∷ [];
  resets = 0x0F ∷ 0x00 ∷ [];
}

-- two bytes, and no other is listed
abbrev two : ℕ → ℕ → List ℕ
two a b = a ∷ b ∷ from 254 (λ (i : ℕ). 0) 2

-- a guest write of ones, then of a value, and a host update, with events es behind them
abbrev changed : List Event → List ℕ
changed es = run small (Write 0 15 0xFFFFFFFF ∷ Write 0 3 0xABCD ∷ HostUpdate 1 0xF0 0xA0 ∷ es)

pub record Happened : Type 0 where
  pub written : run small (Write 0 15 0xFFFFFFFF ∷ []) ≡ two 0xFF 0x1F
  pub updated : changed [] ≡ two 0xCD 0xAB
  pub reset : changed (FunctionReset ∷ []) ≡ two 0xC4 0xAB
  pub anew : changed (PlatformReset ∷ []) ≡ small.defaults
  -- a read, a bad offset, bad lanes, and a bit that is not the host's
  pub kept : changed (Read 0 15 ∷ Write 1 15 0 ∷ Write 0 16 0 ∷ HostUpdate 1 0x0F 0 ∷ []) ≡ two 0xCD 0xAB

pub happened : Happened
unfolding number_of enabled byte_for ran write_of host_of function_reset_of happens
happened = record { written = refl; updated = refl; reset = refl; anew = refl; kept = refl }
