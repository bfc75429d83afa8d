-- The entries a byte at a time come to the plain rule, for any tables and any 256 bytes.
use mathlib.Core.Path.{◌≡◌, refl}
use mathlib.Core.List.{List}
use mathlib.Core.Bool.{Bool, true, false}
use Prim.Native.Nat.{ℕ, ◌+◌, ◌/◌, ◌%◌, ◌^◌, ◌<◌}
use native.Mathlib.Nat.{add-zero}
use lib.ListN.{length, get_or}
use Rattle.bits.specs.Bits.{bit}
use Rattle.bits.specs.Choice.{pick}
use Rattle.answer.specs.Refusals.{no, OFFSET}
use Rattle.access.specs.Access.{bad_offset}
use Rattle.plain.specs.Plain.{held, under, shown_value, written_bit}
use Rattle.access.proofs.Access.{good_offset, admit_is}
use Rattle.plain.specs.Bytes.{driven_of}
use Rattle.plain.proofs.Bridge.{joined_bit, driven_is, reply_is, stored_is, returned_is}
use Rattle.host_updates.specs.Update.{Lent, lent, update_bytes}
use Rattle.host_updates.proofs.Bridge.{update_by}
use Rattle.plain.specs.Bytes.{returned_of}
use Rattle.plain_device.specs.Device.{read_of, write_of, host_of, function_reset_of}
use Rattle.plain.specs.Plain.{made}
use Rattle.plain_device.specs.Bytes.{dword_of, read_bytes, stored_bytes, write_bytes}

module _ (m : List ℕ) (b : (i : ℕ) → get_or m i 0 < 2 ^ 8) where
  dword_bit : (o n : ℕ) → n < 32 → bit (dword_of m o) n ≡ held m (o + n / 8) (n % 8)
  unfolding dword_of
  dword_bit o n k = rw add-zero at (joined_bit (λ (k : ℕ). get_or m (o + k) 0) (λ k. b (o + k)) n k)

  pub read_is : (o l : ℕ) → read_bytes m o l ≡ read_of m o l
  unfolding read_bytes read_of
  read_is o l = reply_is o l (driven_of l (dword_of m o)) (shown_value (held m) o l) (λ h. driven_is (λ (n : ℕ). held m (o + n / 8) (n % 8)) l (dword_of m o) (dword_bit o))

  module _ (n : length m ≡ 256) where
    stored_list : (guests : List ℕ) (o l v : ℕ) → o + 3 < 256 → stored_bytes guests m o l v ≡ made (written_bit (under guests) (held m) o l v)
    unfolding stored_bytes
    stored_list guests o l v h = rw add-zero at (stored_is m n b o l v h (under guests) (λ (t : ℕ). get_or guests (o + t) 0) (λ t j p q. refl))

    pub write_is : (guests : List ℕ) (o l v : ℕ) → write_bytes guests m o l v ≡ write_of guests m o l v
    unfolding write_bytes write_of
    write_is guests o l v = admit_is (λ (x : Lent). x) (bad_offset o) OFFSET l (λ (n : ℕ). lent (no n) m) _ (λ (n : ℕ). lent (no n) m) _ (λ r. refl) (λ e. rw (stored_list guests o l v (good_offset o e).0))

    pub update_is : (hosts : List ℕ) (o k v : ℕ) → update_bytes hosts m o k v ≡ host_of hosts m o k v
    unfolding host_of
    update_is hosts o k v = update_by m n b hosts (under hosts) (λ i j h q. refl) o k v

pub reset_is : (resets defaults m : List ℕ) → length m ≡ 256 → returned_of resets defaults m ≡ function_reset_of resets defaults m
unfolding function_reset_of
reset_is resets defaults m n = returned_is m n resets defaults
