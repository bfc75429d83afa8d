-- A state whose bytes are 256 bytes: the fresh state is one, and every event leaves one.
use mathlib.Core.Path.{◌≡◌}
use Prim.Native.Nat.{ℕ, ◌^◌, ◌<◌}
use native.Mathlib.Omega.{arith}
use lib.ListN.{length, get_or}
use Rattle.bits.specs.Bits.{byte_of}
use Rattle.bits.specs.Places.{bytes}
use Rattle.bits.proofs.Laws.{number<}
use Rattle.bits.proofs.Places.{length_bytes, at_each}
use Rattle.any_map.specs.Map.{default_in, row_at, defaults}
use Rattle.map.specs.Class.{ivy_bridge}
use Rattle.map.specs.Map.{igd}
use Rattle.rules.specs.declared.State.{State}
use Rattle.rules.specs.Access.{byte}
use Rattle.rules.specs.Guest.{bit_after, written_of}
use Rattle.rules.specs.Reset.{ended_bit, ended_of}
use Rattle.rules.specs.Host.{host_bit, host_step_of}
use Rattle.rules.specs.Fresh.{fresh_of}
use Rattle.rules.specs.declared.Event.{Event}
use Rattle.rules.specs.Events.{happens}
use Rattle.any_device.proofs.EachBit.{written<2, updated<2, ended<2}
use Rattle.rules.specs.Device.{built_in, core}
use Rattle.rules.proofs.Runs.{event_keeps}

pub record Good (s : State) : Type 0 where
  pub long : length s.bytes ≡ 256
  pub fits : (i : ℕ) → byte s i < 2 ^ 8

-- bytes made of bits
of_bits : (f : ℕ → ℕ → ℕ) → ((i j : ℕ) → f i j < 2) → (i : ℕ) → get_or (bytes (λ (i : ℕ). byte_of (f i))) i 0 < 2 ^ 8
of_bits f b i = at_each (λ (x : ℕ). x < 2 ^ 8) 256 (λ (i : ℕ). byte_of (f i)) 0 i (omega arith) (λ j. number< 8 (f j) (b j))

pub fresh_good : Good fresh_of
unfolding fresh_of defaults
fresh_good = record {
  long = length_bytes (λ (i : ℕ). default_in (row_at (igd ivy_bridge) i) i);
  fits = λ i. at_each (λ (x : ℕ). x < 2 ^ 8) 256 (λ (i : ℕ). default_in (row_at (igd ivy_bridge) i) i) 0 i (omega arith) (λ j. omega arith);
}

step_good : (s : State) (o l v : ℕ) → Good (written_of s o l v)
unfolding written_of
step_good s o l v = record { long = length_bytes (λ (i : ℕ). byte_of (bit_after s o l v i)); fits = of_bits (bit_after s o l v) (written<2 built_in (core s) o l v) }

host_good : (s : State) (o m v : ℕ) → Good (host_step_of s o m v)
unfolding host_step_of
host_good s o m v = record { long = length_bytes (λ (i : ℕ). byte_of (host_bit s o m v i)); fits = of_bits (host_bit s o m v) (updated<2 built_in (core s) o m v) }

ended_good : (s : State) → Good (ended_of s)
unfolding ended_of
ended_good s = record { long = length_bytes (λ (i : ℕ). byte_of (ended_bit s i)); fits = of_bits (ended_bit s) (ended<2 built_in (core s)) }

pub event_good : (e : Event) (s : State) → Good s → Good (happens e s).state
event_good e s g = event_keeps Good fresh_good (λ s o l v h. step_good s o l v) (λ s o m v e h. host_good s o m v) (λ s h. ended_good s) (λ s x w h. record { long = h.long; fits = h.fits }) e s g
