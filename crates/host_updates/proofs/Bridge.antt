-- The host update of one byte comes to the plain rule, bit by bit, for any host masks and any 256 bytes; with the map's it is the built-in function's.
use mathlib.Core.Path.{◌≡◌, refl, sym, subst, ◌∙◌}
use mathlib.Core.List.{List}
use mathlib.Core.Bool.{Bool, true, false, not}
use Prim.Native.Nat.{ℕ, ◌^◌, ◌<◌}
use native.Mathlib.Omega.{arith}
use lib.Dec.{eqb, ltb}
use lib.ListN.{length, length-set, get_or}
use borrow.Author.Tests.{eq-eqb, ne_eqb, ltb-false}
use Rattle.bits.specs.Bits.{bit, byte_of, blend_k}
use Rattle.bits.specs.Choice.{pick, both, ◌is◌}
use Rattle.bits.specs.Places.{bytes}
use Rattle.bits.proofs.Laws.{number_ext, number_bits, blend_each, some_outside}
use Rattle.bits.proofs.Below.{any_ext, mark_is}
use Rattle.bits.proofs.Places.{set_at, as_bytes, bytes_ext}
use Rattle.answer.specs.Refusals.{fine, ok, no, OFFSET, NOT_HOST}
use Rattle.any_device.specs.Class.{device, by_host}
use Rattle.any_device.specs.Device as D
use Rattle.map.specs.Map.{class_of, hosts}
use Rattle.map.proofs.Classes.{host_bit_lem}
use Rattle.rules.specs.declared.State.{State}
use Rattle.rules.specs.Access.{holding, byte, Outcome, done, refused}
use Rattle.plain.specs.Plain as P
use Rattle.plain.specs.Plain.{Mask, held, under, updated_bit}
use Rattle.rules.specs.Host.{not_host, host_bit, host_step_of, host_of}
use Rattle.rules.proofs.Stored.{updated_form}
use Rattle.host_updates.specs.Update.{outside, hosted_bytes, Lent, lent, update_bytes}

-- ---- the mask's bits outside the host mask

-- for any table of host masks, and the mask h that it is at byte o
pub outside_is : (t : List ℕ) (h : Mask) (o mask : ℕ) → ((j : ℕ) → j < 8 → under t o j ≡ h o j) → not (outside t o mask is 0) ≡ P.outside h o mask
outside_is t h o mask has =
    some_outside 8 (get_or t o 0) mask
    ∙ any_ext 8 (λ (j : ℕ). both (eqb (bit mask j) 1) (not (under t o j))) (λ (j : ℕ). both (eqb (bit mask j) 1) (not (h o j))) (λ j k. rw (has j k))

-- ---- the bytes afterwards

module _ (m : List ℕ) (n : length m ≡ 256) (b : (i : ℕ) → get_or m i 0 < 2 ^ 8) where
  pub hosted_list : (o mask v : ℕ) → hosted_bytes m o mask v ≡ bytes (λ (i : ℕ). byte_of (updated_bit (held m) o mask v i))
  unfolding hosted_bytes
  hosted_list o mask v =
      as_bytes _ (λ (i : ℕ). byte_of (updated_bit (held m) o mask v i)) (length-set m o (blend_k 8 mask (get_or m o 0) v) ∙ n)
      (λ i h. set_at (λ (x : ℕ). x ≡ byte_of (updated_bit (held m) o mask v i)) m o i (blend_k 8 mask (get_or m o 0) v) (rw n h)
      (λ ne. sym (number_bits 8 (get_or m i 0) (b i)) ∙ number_ext 8 (bit (get_or m i 0)) (updated_bit (held m) o mask v i) (λ j k. rw (ne_eqb i o ne)))
      (λ e. subst (λ (i : ℕ). blend_k 8 mask (get_or m o 0) v ≡ byte_of (updated_bit (held m) o mask v i)) (sym e)
      (blend_each 8 mask (get_or m o 0) v ∙ number_ext 8 (λ (j : ℕ). pick (eqb (bit mask j) 1) (bit v j) (bit (get_or m o 0) j)) (updated_bit (held m) o mask v o) (λ j k. rw (eq-eqb o o refl)))))

  -- ---- the whole update

  abbrev given : ℕ → ℕ → ℕ → List ℕ
  given o mask v = bytes (λ (i : ℕ). byte_of (updated_bit (held m) o mask v i))

  -- refusals 5 and 7 in this order; else the bits as given
  pub update_by : (t : List ℕ) (h : Mask) → ((i j : ℕ) → i < 256 → j < 8 → under t i j ≡ h i j) → (o mask v : ℕ) → update_bytes t m o mask v ≡ pick (ltb 255 o) (lent (no OFFSET) m) (pick (P.outside h o mask) (lent (no NOT_HOST) m) (lent fine (given o mask v)))
  unfolding update_bytes
  update_by t h has o mask v = go (ltb 255 o) refl
    where
      go : (above : Bool) → ltb 255 o ≡ above → pick above (lent (no OFFSET) m) (pick (not (outside t o mask is 0)) (lent (no NOT_HOST) m) (lent fine (hosted_bytes m o mask v))) ≡ pick above (lent (no OFFSET) m) (pick (P.outside h o mask) (lent (no NOT_HOST) m) (lent fine (given o mask v)))
      go true e = refl
      go false e = rw (outside_is t h o mask (λ j k. has o j (omega (arith, ltb-false 255 o e)) k), hosted_list o mask v)

-- ---- the built-in function: the map's host masks

map_has : (i j : ℕ) → i < 256 → j < 8 → under hosts i j ≡ by_host device (class_of i j)
map_has i j h k = rw (host_bit_lem i j h k) (mark_is (by_host device (class_of i j)))

module _ (s : State) (n : length s.bytes ≡ 256) (b : (i : ℕ) → byte s i < 2 ^ 8) where
  -- the state that lent bytes make, with all else as it was
  abbrev pub whole : Lent → Outcome
  whole r = record { reply = r.reply; state = holding s r.bytes s.flags }

  pub update_is : (o mask v : ℕ) → whole (update_bytes hosts s.bytes o mask v) ≡ host_of s o mask v
  unfolding host_of host_step_of D.not_hosted
  update_is o mask v = rw (update_by s.bytes n b hosts (λ (i j : ℕ). by_host device (class_of i j)) map_has o mask v) (go (ltb 255 o) (not_host o mask))
    where
      go : (x y : Bool) → whole (pick x (lent (no OFFSET) s.bytes) (pick y (lent (no NOT_HOST) s.bytes) (lent fine (given s.bytes n b o mask v)))) ≡ pick x (refused OFFSET s) (pick y (refused NOT_HOST s) (done (host_step_of s o mask v)))
      go true y = refl
      go false true = refl
      go false false = rw (bytes_ext (λ (i : ℕ). byte_of (updated_bit (held s.bytes) o mask v i)) (λ (i : ℕ). byte_of (host_bit s o mask v i)) (λ i h. number_ext 8 (updated_bit (held s.bytes) o mask v i) (host_bit s o mask v i) (λ j k. sym (updated_form s o mask v i j))))
