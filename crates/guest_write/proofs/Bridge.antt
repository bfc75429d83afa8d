-- The guest write a byte at a time comes to the rule, bit by bit: for every state whose bytes are 256 bytes.
use mathlib.Core.Path.{◌≡◌, refl, sym, ap, ◌∙◌}
use mathlib.Core.List.{List}
use mathlib.Core.Bool.{Bool, true, false, not}
use Prim.Native.Nat.{ℕ, ◌+◌, ◌/◌, ◌%◌, ◌^◌, ◌<◌}
use native.Mathlib.Omega.{arith}
use native.Mathlib.Nat.{add-zero, div-one}
use lib.Dec.{eqb}
use lib.ListN.{length}
use Rattle.bits.specs.Bits.{bit, byte_of, blend_k}
use Rattle.bits.specs.Choice.{pick, both}
use Rattle.bits.specs.Places.{bytes}
use Rattle.bits.proofs.Laws.{number_ext, bit_number, bit_zero}
use Rattle.bits.proofs.Places.{get_or_bytes, length_bytes, bytes_ext, changed}
use Rattle.answer.specs.Refusals.{fine, no, OFFSET}
use Rattle.access.specs.Access.{enabled, byte_for, bad_offset}
use Rattle.access.proofs.Access.{admit_is, good_offset, byte_for_at}
use Rattle.plain.specs.Plain as P
use Rattle.plain.specs.Plain.{Mask, made}
use Rattle.plain.proofs.Bridge.{stored_is}
use Rattle.any_map.proofs.Blends.{blend_by}
use Rattle.any_device.specs.Device as D
use Rattle.any_device.proofs.EachBit.{stored<2}
use Rattle.map.specs.Registers.{GMADR, MSAC}
use Rattle.map.specs.Class.{ivy_bridge, Class}
use Rattle.map.specs.Map.{igd, class_of, guests}
use Rattle.rules.specs.declared.State.{State}
use Rattle.rules.specs.Access.{holding, byte, busy, Outcome, done, refused}
use Rattle.rules.specs.Device.{code_in, is_taken, built_in, core}
use Rattle.rules.specs.Guest.{bit_after, flags_after, written_of, step_of, write_of}
use Rattle.rules.proofs.Stored.{stored_bit, held_back, stored_form, swept_is, not_taken, low_elsewhere}
use Rattle.guest_lanes.specs.Lane.{taken_mask}
use Rattle.guest_lanes.proofs.Bridge.{reach_has}
use Rattle.guest_write.specs.Bytes.{reach_at, stored_bytes, cleared_bytes, clear_if, step_bytes, Lent, lent, write_lanes}

-- ---- the store

module _ (s : State) (o l v : ℕ) (within : o + 3 < 256) where
  -- the mask of the bits that take what is written
  abbrev reaches : Mask
  reaches i j = not (held_back s (byte_for o v i) i j)

  -- the masks that the code makes for the four bytes
  abbrev made_mask : ℕ → ℕ
  made_mask t = reach_at guests s.flags s.bytes (o + t) (v / 256 ^ t % 256)

  mask_has : (t j : ℕ) → t < 4 → j < 8 → eqb (bit (made_mask t) j) 1 ≡ reaches (o + t) j
  mask_has t j h k = reach_has s (v / 256 ^ t % 256) (o + t) j (omega arith) k ∙ rw (byte_for_at o v t)

  mask_0 : made_mask 0 ≡ reach_at guests s.flags s.bytes o (v % 256)
  mask_0 = rw (add-zero, div-one)

  pub stored_list : length s.bytes ≡ 256 → ((i : ℕ) → byte s i < 2 ^ 8) → stored_bytes guests s.flags s.bytes o l v ≡ made (stored_bit s o l v)
  unfolding stored_bytes
  stored_list n b =
      rw (sym mask_0) (stored_is s.bytes n b o l v within reaches made_mask mask_has)
      ∙ bytes_ext (λ (i : ℕ). byte_of (P.written_bit reaches (P.held s.bytes) o l v i)) (λ (i : ℕ). byte_of (stored_bit s o l v i)) (λ i h. number_ext 8 (P.written_bit reaches (P.held s.bytes) o l v i) (stored_bit s o l v i) (λ j k. sym (stored_form s o l v i j)))

-- ---- the clearing by MSAC

module _ (f : ℕ → ℕ → ℕ) (b : (i j : ℕ) → f i j < 2) where
  abbrev F : ℕ → ℕ
  F i = byte_of (f i)

  module _ (code : ℕ) where
    abbrev C : ℕ → ℕ
    C i = byte_of (λ (j : ℕ). pick (is_taken code (class_of i j).stored) 0 (f i j))

    clear_at : blend_k 8 (taken_mask code) (F (GMADR + 3)) 0 ≡ C (GMADR + 3)
    unfolding taken_mask
    clear_at =
        blend_by (igd ivy_bridge) (λ (k : Class). is_taken code k.stored) (GMADR + 3) (F (GMADR + 3)) 0
        ∙ number_ext 8 (λ (j : ℕ). pick (is_taken code (class_of (GMADR + 3) j).stored) (bit 0 j) (bit (F (GMADR + 3)) j)) (λ (j : ℕ). pick (is_taken code (class_of (GMADR + 3) j).stored) 0 (f (GMADR + 3) j)) (λ j h. rw (bit_zero j, bit_number 8 (f (GMADR + 3)) (b (GMADR + 3)) j h))

    clear_other : (i : ℕ) → i < 256 → (i ≡ GMADR + 3 → ⊥) → F i ≡ C i
    clear_other i h n = number_ext 8 (f i) (λ (j : ℕ). pick (is_taken code (class_of i j).stored) 0 (f i j)) (λ j k. rw (not_taken code (class_of i j).stored (low_elsewhere i j h n k)))

  clear_list : cleared_bytes (made f) ≡ bytes (C (code_in (made f)))
  unfolding cleared_bytes
  clear_list =
      changed F (C (code_in (made f))) (made f) (GMADR + 3) _ (length_bytes F) (get_or_bytes F)
      (rw (get_or_bytes F (GMADR + 3) (omega arith)) (clear_at (code_in (made f))))
      (clear_other (code_in (made f)))

  pub clear_if_lem : (o l : ℕ) → clear_if (enabled o l MSAC) (made f) ≡ made (λ (i j : ℕ). pick (D.swept built_in (made f) o l (class_of i j).stored) 0 (f i j))
  unfolding clear_if
  clear_if_lem o l = go (enabled o l MSAC) ∙ bytes_ext (λ (i : ℕ). byte_of (λ (j : ℕ). pick (both (enabled o l MSAC) (is_taken (code_in (made f)) (class_of i j).stored)) 0 (f i j))) (λ (i : ℕ). byte_of (λ (j : ℕ). pick (D.swept built_in (made f) o l (class_of i j).stored) 0 (f i j))) (λ i h. number_ext 8 (λ (j : ℕ). pick (both (enabled o l MSAC) (is_taken (code_in (made f)) (class_of i j).stored)) 0 (f i j)) (λ (j : ℕ). pick (D.swept built_in (made f) o l (class_of i j).stored) 0 (f i j)) (λ j k. rw (swept_is (class_of i j).stored (made f) o l)))
    where
      go : (e : Bool) → clear_if e (made f) ≡ bytes (λ (i : ℕ). byte_of (λ (j : ℕ). pick (both e (is_taken (code_in (made f)) (class_of i j).stored)) 0 (f i j)))
      go true = clear_list
      go false = refl

-- ---- the whole write

module _ (s : State) (n : length s.bytes ≡ 256) (b : (i : ℕ) → byte s i < 2 ^ 8) where
  pub step_list : (o l v : ℕ) → o + 3 < 256 → step_bytes guests s.flags s.bytes o l v ≡ made (bit_after s o l v)
  unfolding step_bytes D.written_bit
  step_list o l v h = ap (clear_if (enabled o l MSAC)) (stored_list s o l v h n b) ∙ clear_if_lem (stored_bit s o l v) (stored<2 built_in (core s) o l v) o l

  -- the state that lent bytes and flags make, with all else as it was
  abbrev pub whole : Lent → Outcome
  whole r = record { reply = r.reply; state = holding s r.bytes r.flags }

  pub write_is : (o l v : ℕ) → whole (write_lanes guests s.flags s.bytes o l v) ≡ write_of s o l v
  unfolding write_lanes write_of step_of written_of
  write_is o l v = admit_is whole (bad_offset o) OFFSET l (λ (n : ℕ). lent (no n) s.bytes s.flags) _ (λ (n : ℕ). refused n s) _ (λ r. refl) (go (busy s))
    where
      after : List ℕ
      after = step_bytes guests s.flags s.bytes o l v

      go : (z : Bool) → bad_offset o ≡ false → whole (pick z (lent fine s.bytes s.flags) (lent fine after (flags_after o l v s.flags))) ≡ done (pick z s (written_of s o l v))
      go true e = refl
      go false e = rw (step_list o l v (good_offset o e).0)
