-- The guest read a byte at a time comes to the rule, bit by bit: for every state whose bytes are bytes.
use mathlib.Core.Path.{◌≡◌, refl, sym, ◌∙◌}
use mathlib.Core.List.{List}
use mathlib.Core.Bool.{Bool, true, false}
use Prim.Native.Nat.{ℕ, ◌+◌, ◌/◌, ◌%◌, ◌^◌, ◌<◌}
use native.Mathlib.Omega.{arith}
use native.Mathlib.Nat.{add-zero, div-one}
use lib.Dec.{T, eqb, eqb→eq}
use borrow.Author.Tests.{ne_eqb}
use lib.ListN.{length, get_or}
use Rattle.bits.specs.Bits.{bit, number_of, byte_of}
use Rattle.bits.specs.Choice.{pick, all_below}
use Rattle.bits.specs.Places.{bytes}
use Rattle.bits.proofs.Laws.{number_ext, number_bits}
use Rattle.bits.proofs.Places.{changed}
use Rattle.bits.proofs.Below.{below, same, same_eq, pick_has}
use Rattle.map.specs.Registers.{CAPPOINT, CAPL}
use Rattle.any_device.specs.Device as D
use Rattle.any_map.specs.Map.{row_at, class_at}
use Rattle.map.specs.Map.{rows, class_of}
use Rattle.rules.specs.declared.State.{State}
use Rattle.rules.specs.Access.{byte, busy}
use Rattle.rules.specs.Device.{pointer}
use Rattle.rules.specs.Read.{shown_bit, read_bit, read_value, read_of, image_of}
use Rattle.plain.specs.Bytes.{driven_of}
use Rattle.plain.proofs.Bridge.{joined_bit, driven_is, reply_is}
use Rattle.guest_read.specs.Shown.{shown_byte, shown_dword, shown_bytes, read_dword, read_lanes, image_bytes}

-- ---- CAPPOINT is the computed byte

computed_at : ℕ → Bool
computed_at i = all_below 8 (λ (j : ℕ). same (class_of i j).computed (eqb i CAPPOINT))

all_computed : T (all_below 256 computed_at)
unfolding computed_at rows row_at class_at
all_computed = tt

computed_is : (i j : ℕ) → i < 256 → j < 8 → (class_of i j).computed ≡ eqb i CAPPOINT
unfolding computed_at
computed_is i j h k = same_eq _ _ (below 8 (λ (j : ℕ). same (class_of i j).computed (eqb i CAPPOINT)) (below 256 computed_at all_computed i h) j k)

-- ---- bytes and dwords

chosen_bit : (e : Bool) (p x j : ℕ) → bit (pick e p x) j ≡ pick e (bit p j) (bit x j)
chosen_bit true p x j = refl
chosen_bit false p x j = refl

-- every other byte reads as it is
other_shown : (m : List ℕ) (i : ℕ) → (i ≡ CAPPOINT → ⊥) → shown_byte m i ≡ get_or m i 0
unfolding shown_byte
other_shown m i ne = rw (ne_eqb i CAPPOINT ne)

-- ones
ones_bit : (n : ℕ) → n < 32 → bit 0xFFFFFFFF n ≡ 1
ones_bit n h = eqb→eq _ _ (below 32 (λ (n : ℕ). eqb (bit 0xFFFFFFFF n) 1) tt n h)

module _ (s : State) (b : (i : ℕ) → byte s i < 2 ^ 8) where
  shown_pointer : pick (eqb (get_or s.bytes CAPL 0 % 2) 1) 0xD0 0x90 ≡ pointer s.bytes
  unfolding pointer
  shown_pointer = rw div-one

  shown_bit_lem : (i j : ℕ) → i < 256 → j < 8 → bit (shown_byte s.bytes i) j ≡ shown_bit s i j
  unfolding shown_byte D.shown_bit
  shown_bit_lem i j h k = rw (shown_pointer, computed_is i j h k) (chosen_bit (eqb i CAPPOINT) (pointer s.bytes) (byte s i) j)

  shown< : (i : ℕ) → shown_byte s.bytes i < 2 ^ 8
  unfolding shown_byte
  shown< i = pick_has (λ (x : ℕ). x < 2 ^ 8) (eqb i CAPPOINT) _ (byte s i) (pick_has (λ (x : ℕ). x < 2 ^ 8) (eqb (get_or s.bytes CAPL 0 % 2) 1) 0xD0 0x90 (omega arith) (omega arith)) (b i)

  -- bit n of a dword is bit n % 8 of its byte n / 8, as a guest reads it
  pub dword_bit : (o n : ℕ) → o + 3 < 256 → n < 32 → bit (read_dword (busy s) s.bytes o) n ≡ read_bit s (o + n / 8) (n % 8)
  unfolding read_dword shown_dword read_bit
  dword_bit o n h k = go (busy s)
    where
      go : (e : Bool) → bit (pick e 0xFFFFFFFF (shown_dword s.bytes o)) n ≡ pick e 1 (shown_bit s (o + n / 8) (n % 8))
      go true = ones_bit n k
      go false = rw add-zero at (joined_bit (λ (k : ℕ). shown_byte s.bytes (o + k)) (λ k. shown< (o + k)) n k) ∙ shown_bit_lem (o + n / 8) (n % 8) (omega arith) (omega arith)

  value_is : (o l : ℕ) → o + 3 < 256 → driven_of l (read_dword (busy s) s.bytes o) ≡ read_value s o l
  unfolding read_value
  value_is o l h = driven_is (λ (n : ℕ). read_bit s (o + n / 8) (n % 8)) l (read_dword (busy s) s.bytes o) (λ n j. dword_bit o n h j)

  pub read_is : (o l : ℕ) → read_lanes (busy s) s.bytes o l ≡ read_of s o l
  unfolding read_lanes read_of
  read_is o l = reply_is o l (driven_of l (read_dword (busy s) s.bytes o)) (read_value s o l) (value_is o l)

  -- a byte as it is shown
  shown_byte_lem : (i : ℕ) → i < 256 → shown_byte s.bytes i ≡ byte_of (shown_bit s i)
  shown_byte_lem i h = sym (number_bits 8 (shown_byte s.bytes i) (shown< i)) ∙ number_ext 8 (bit (shown_byte s.bytes i)) (shown_bit s i) (λ j k. shown_bit_lem i j h k)

  shown_image : length s.bytes ≡ 256 → shown_bytes s.bytes ≡ bytes (λ (i : ℕ). byte_of (shown_bit s i))
  unfolding shown_bytes
  shown_image n =
      changed (λ (i : ℕ). byte s i) (λ (i : ℕ). byte_of (shown_bit s i)) s.bytes CAPPOINT _ n (λ i h. refl) (shown_byte_lem CAPPOINT (omega arith))
      (λ i h ne. sym (other_shown s.bytes i ne) ∙ shown_byte_lem i h)

  pub image_is : length s.bytes ≡ 256 → image_bytes (busy s) s.bytes ≡ image_of s
  unfolding image_bytes image_of read_bit number_of
  image_is n = go (busy s)
    where
      go : (e : Bool) → pick e (bytes (λ (i : ℕ). 0xFF)) (shown_bytes s.bytes) ≡ bytes (λ (i : ℕ). byte_of (λ (j : ℕ). pick e 1 (shown_bit s i j)))
      go true = refl
      go false = shown_image n
