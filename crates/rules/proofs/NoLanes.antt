-- A write with lanes 0 is accepted and changes nothing.
use mathlib.Core.Path.{◌≡◌, refl, sym, ◌∙◌}
use mathlib.Core.Bool.{false}
use Prim.Native.Nat.{ℕ, suc, ◌+◌, ◌-◌, ◌^◌, ◌<◌}
use lib.Dec.{eqb, leb, ltb}
use lib.ListN.{length, get_or}
use Rattle.bits.specs.Bits.{bit, byte_of}
use Rattle.bits.specs.Choice.{both}
use Rattle.bits.proofs.Laws.{number_ext, number_bits, bit_zero}
use Rattle.bits.proofs.Below.{both_off, none_any, pick_has}
use Rattle.bits.proofs.Places.{as_bytes}
use Rattle.map.specs.Registers.{MSAC, AFCTL}
use Rattle.map.specs.Class.{Field, field_number}
use Rattle.rules.specs.declared.State.{State}
use Rattle.rules.specs.declared.Flags.{Flags}
use Rattle.rules.specs.Access.{byte, busy}
use Rattle.access.specs.Access.{enabled}
use Rattle.any_device.specs.Device as D
use Rattle.rules.specs.Device.{built_in}
use Rattle.rules.specs.Guest.{touches, flags_after, starts, bit_after, written_of, step_of}
use Rattle.rules.proofs.Stored.{left}

none_enabled : (o i : ℕ) → enabled o 0 i ≡ false
unfolding enabled
none_enabled o i = rw (bit_zero (i - o), both_off (ltb i (o + 4)), both_off (leb o i))

none_touched : (o : ℕ) (f : Field) → touches o 0 f ≡ false
unfolding D.touches
none_touched o f = none_any 4 (λ (k : ℕ). both (eqb (bit 0 k) 1) (eqb (get_or built_in.places (o + k) 0) (suc (field_number f)))) (λ k h. rw (bit_zero k))

-- each bit stays
pub no_lanes_bit : (s : State) (o v i j : ℕ) → bit_after s o 0 v i j ≡ bit (byte s i) j
no_lanes_bit s o v i j = left s o 0 v i j (none_enabled o MSAC) (none_enabled o i)

pub no_lanes_flags : (o v : ℕ) (c : Flags) → flags_after o 0 v c ≡ c
unfolding flags_after starts
no_lanes_flags o v c = rw (none_enabled o AFCTL) (simp none_touched)

-- so does the state, whose bytes are 256 bytes
pub no_lanes_write : (s : State) (o v : ℕ) → length s.bytes ≡ 256 → ((i : ℕ) → byte s i < 2 ^ 8) → step_of s o 0 v ≡ s
unfolding step_of written_of
no_lanes_write s o v n b =
    let same = as_bytes s.bytes (λ (i : ℕ). byte_of (bit_after s o 0 v i)) n (λ i h. sym (number_bits 8 (byte s i) (b i)) ∙ number_ext 8 (bit (byte s i)) (bit_after s o 0 v i) (λ j k. sym (no_lanes_bit s o v i j))) in
    pick_has (λ (t : State). t ≡ s) (busy s) s (written_of s o 0 v) refl (rw (← same, no_lanes_flags o v s.flags))
