-- The end of a function reset a byte at a time comes to the rule, bit by bit: for every state whose bytes are 256 bytes.
use mathlib.Core.Path.{◌≡◌, refl, ◌∙◌}
use mathlib.Core.Bool.{Bool, true, false}
use Prim.Native.Nat.{ℕ}
use lib.Dec.{eqb}
use lib.ListN.{length}
use Rattle.bits.specs.Bits.{bit, byte_of}
use Rattle.bits.specs.Choice.{pick}
use Rattle.bits.proofs.Laws.{number_ext}
use Rattle.bits.proofs.Below.{mark_is}
use Rattle.bits.proofs.Places.{bytes_ext}
use Rattle.plain.specs.Plain.{made, held, under, returned_bit}
use Rattle.plain.proofs.Bridge.{returned_is}
use Rattle.any_device.specs.Class.{has_f}
use Rattle.any_device.specs.Device as D
use Rattle.map.specs.Map.{class_of, resets, defaults, default_at}
use Rattle.map.proofs.Classes.{reset_bit}
use Rattle.rules.specs.declared.State.{State}
use Rattle.rules.specs.Access.{holding, busy}
use Rattle.rules.specs.Reset.{ended_bit, idle, ended_of, end_of}
use Rattle.function_reset.specs.Bytes.{reset_bytes, end_bytes, end_flags}

module _ (s : State) (n : length s.bytes ≡ 256) where
  reset_list : reset_bytes s.bytes ≡ made (ended_bit s)
  unfolding D.ended_bit
  reset_list =
      returned_is s.bytes n resets defaults
      ∙ bytes_ext (λ (i : ℕ). byte_of (returned_bit (under resets) default_at (held s.bytes) i)) (λ (i : ℕ). byte_of (ended_bit s i))
      (λ i h. number_ext 8 (returned_bit (under resets) default_at (held s.bytes) i) (ended_bit s i) (λ j k. rw (reset_bit i j h k, mark_is (has_f (class_of i j)))))

  -- the state that lent bytes and flags make, with all else as it was
  pub end_is : holding s (end_bytes s.flags s.bytes) (end_flags s.flags) ≡ end_of s
  unfolding end_bytes end_flags end_of ended_of
  end_is = go (busy s)
    where
      go : (b : Bool) → holding s (pick b (reset_bytes s.bytes) s.bytes) (pick b (idle s.flags) s.flags) ≡ pick b (ended_of s) s
      go true = rw reset_list
      go false = refl
