-- The guest bits that a write reaches, as the code finds them, are those that the rules do not hold back.
use mathlib.Core.Path.{◌≡◌, refl, ap, subst, ◌∙◌}
use mathlib.Core.Bool.{Bool, true, false, not}
use Prim.Native.Nat.{ℕ, ◌<◌}
use lib.Dec.{T, eqb}
use Rattle.bits.specs.Bits.{bit, number_of, blend_k}
use Rattle.bits.specs.Choice.{pick, mark}
use Rattle.bits.proofs.Laws.{number_ext, bit_zero, bit_number}
use Rattle.bits.proofs.Below.{mark_is, mark<2}
use Rattle.any_map.specs.Map.{class_at, mask_at}
use Rattle.any_map.proofs.Laws.{mask_bit, table_at}
use Rattle.any_map.proofs.Blends.{blend_by}
use Rattle.any_device.specs.Class.{Stored, never, always, once, until, special, is_never, is_until, stores}
use Rattle.any_device.specs.Device as D
use Rattle.map.specs.Registers.{MSAC}
use Rattle.map.specs.Class.{ivy_bridge, Special, Class}
use Rattle.map.specs.Map.{igd, class_of, guest_at}
use Rattle.map.proofs.Classes.{lockless}
use Rattle.rules.specs.declared.State.{State}
use Rattle.rules.specs.Access.{byte}
use Rattle.rules.specs.Device.{size_of, built_in, core}
use Rattle.rules.proofs.Stored.{held_back}
use Rattle.guest_lanes.specs.Lane.{leaves, leaves_bit, held_of, reach_of}

module _ (s : State) where
  abbrev code : ℕ
  code = size_of (byte s MSAC)

  open_bit : (b : Bool) → pick b 0 1 ≡ mark (not b)
  open_bit true = refl
  open_bit false = refl

  -- the guest mask without the held bits is the mask of the bits that take what is written
  reached_bit : (w : ℕ) (st : Stored Special) → is_until st ≡ false → pick (leaves s.flags code w st) 0 (mark (not (is_never st))) ≡ mark (not (D.held_back built_in (core s) w st))
  unfolding leaves D.held_back
  reached_bit w never e = refl
  reached_bit w always e = refl
  reached_bit w (once f) e = open_bit (D.is_closed (core s).closed f)
  reached_bit w (until cs) e = absurd (subst T e tt)
  reached_bit w (special k) e = open_bit (built_in.holds k s.bytes w)

  reach_mask : (w i : ℕ) → i < 256 → reach_of s.flags code i (guest_at i) w ≡ number_of 8 (λ (j : ℕ). mark (not (held_back s w i j)))
  unfolding reach_of held_of
  reach_mask w i h =
      ap (λ (g : ℕ). blend_k 8 (mask_at (igd ivy_bridge) (leaves_bit s.flags code w) i) g 0) (table_at (igd ivy_bridge) stores i h) ∙ blend_by (igd ivy_bridge) (leaves_bit s.flags code w) i (mask_at (igd ivy_bridge) stores i) 0
      ∙ number_ext 8 (λ (j : ℕ). pick (leaves_bit s.flags code w (class_of i j)) (bit 0 j) (bit (mask_at (igd ivy_bridge) stores i) j)) (λ (j : ℕ). mark (not (held_back s w i j))) (λ j l. rw (bit_zero j, mask_bit (igd ivy_bridge) stores i j l) (reached_bit w (class_of i j).stored (lockless i j)))

  pub reach_has : (w i j : ℕ) → i < 256 → j < 8 → eqb (bit (reach_of s.flags code i (guest_at i) w) j) 1 ≡ not (held_back s w i j)
  reach_has w i j h k = rw (reach_mask w i h, bit_number 8 (λ (j : ℕ). mark (not (held_back s w i j))) (λ j. mark<2 (not (held_back s w i j))) j k) (mark_is (not (held_back s w i j)))
