-- The plain rule a byte at a time comes to the rule, bit by bit: for any masks, and any 256 bytes.
use mathlib.Core.Path.{◌≡◌, refl, sym, ap, ◌∙◌}
use mathlib.Core.List.{List}
use mathlib.Core.Bool.{Bool, true, false}
use Prim.Native.Nat.{ℕ, ◌+◌, ◌/◌, ◌%◌, ◌^◌, ◌<◌, ◌≤◌}
use native.Mathlib.Omega.{arith}
use native.Mathlib.Nat.{zero-add, add-zero, div-one}
use lib.Dec.{T, eqb, eqb→eq}
use lib.ListN.{length, get_or}
use Rattle.bits.specs.Bits.{bit, number_of, byte_of, joined, blend_k}
use Rattle.bits.specs.Choice.{pick, ◌is◌, all_below}
use Rattle.bits.specs.Places.{bytes}
use Rattle.bits.proofs.Laws.{number_ext, number_bits, bit_low, bit_number, bit_zero, bit<2, blend_each, little_bits, joined_little}
use Rattle.bits.proofs.Below.{below}
use Rattle.bits.proofs.Places.{as_bytes, length_map_n, get_or_map_n, length_put4, put4_at}
use Rattle.answer.specs.Refusals.{Reply, ok, no, OFFSET}
use Rattle.access.specs.Access.{enabled, bad_offset}
use Rattle.plain.specs.Plain.{Mask, held, under, undriven, lane_value, read_reply, stored_over, written_bit, returned_bit}
use Rattle.access.proofs.Access.{admit_is, good_offset, enabled_at, byte_for_at, not_within}
use Rattle.plain.specs.Bytes.{spread_of, driven_of, if_enabled, lane_of, stored_of, returned_byte, returned_of}

-- ---- a read

spread_at : ℕ → Bool
spread_at l = all_below 32 (λ (n : ℕ). eqb (bit (spread_of l) n) (bit l (n / 8)))

all_spread : T (all_below 16 spread_at)
unfolding spread_at spread_of
all_spread = tt

-- only the four lowest bits of l are lanes
spread_low : (l : ℕ) → spread_of l ≡ spread_of (l % 16)
unfolding spread_of
spread_low l = rw (bit_low 4 l 1 (omega arith), bit_low 4 l 2 (omega arith), bit_low 4 l 3 (omega arith), first)
  where
    first : l % 16 % 2 ≡ l % 2
    first = omega arith

spread_bit : (l n : ℕ) → n < 32 → bit (spread_of l) n ≡ bit l (n / 8)
unfolding spread_at
spread_bit l n h =
    ap (λ (x : ℕ). bit x n) (spread_low l)
    ∙ eqb→eq _ _ (below 32 (λ (n : ℕ). eqb (bit (spread_of (l % 16)) n) (bit (l % 16) (n / 8))) (below 16 spread_at all_spread (l % 16) (omega arith)) n h)
    ∙ bit_low 4 l (n / 8) (omega arith)

high_bit : (n : ℕ) → n < 32 → bit 0xFFFFFFFF n ≡ undriven
high_bit n h = eqb→eq _ _ (below 32 (λ (n : ℕ). eqb (bit 0xFFFFFFFF n) undriven) tt n h)

-- the enabled bytes of a dword over a bus that is pulled high
pub blended_is : (l d : ℕ) → blend_k 32 (spread_of l) 0xFFFFFFFF d ≡ driven_of l d
unfolding driven_of
blended_is l d =
    blend_each 32 (spread_of l) 0xFFFFFFFF d
    ∙ number_ext 32 (λ (n : ℕ). pick (eqb (bit (spread_of l) n) 1) (bit d n) (bit 0xFFFFFFFF n)) (λ (n : ℕ). pick (eqb (bit l (n / 8)) 1) (bit d n) undriven)
    (λ n h. rw (spread_bit l n h, high_bit n h))

-- bit n of the dword that four bytes make is bit n % 8 of byte n / 8
pub joined_bit : (f : ℕ → ℕ) → ((k : ℕ) → f k < 2 ^ 8) → (n : ℕ) → n < 32 → bit (joined (f 0) (f 1) (f 2) (f 3)) n ≡ bit (f (n / 8)) (n % 8)
joined_bit f small n h =
    let whole : joined (f 0) (f 1) (f 2) (f 3) ≡ number_of 32 (λ (n : ℕ). bit (f (n / 8)) (n % 8)) = joined_little f ∙ sym (little_bits 4 f small) in
    ap (λ (x : ℕ). bit x n) whole ∙ bit_number 32 (λ (n : ℕ). bit (f (n / 8)) (n % 8)) (λ n. bit<2 (f (n / 8)) (n % 8)) n h

-- the read of a dword whose bits are b's
pub driven_is : (b : ℕ → ℕ) (l d : ℕ) → ((n : ℕ) → n < 32 → bit d n ≡ b n) → driven_of l d ≡ lane_value b l
unfolding driven_of
driven_is b l d e = number_ext 32 (λ (n : ℕ). pick (eqb (bit l (n / 8)) 1) (bit d n) undriven) (λ (n : ℕ). pick (eqb (bit l (n / 8)) 1) (b n) undriven) (λ n h. rw (e n h))

-- two values that agree where the access is accepted make one reply
pub reply_is : (o l x y : ℕ) → (o + 3 < 256 → x ≡ y) → read_reply o l x ≡ read_reply o l y
reply_is o l x y e = admit_is (λ (r : Reply). r) (bad_offset o) OFFSET l no (ok x) no (ok y) (λ r. refl) (λ b. rw (e (good_offset o b).0))

-- ---- a store

-- one bit, where the lane's mask is the mask's or none
lane_bit : (on : Bool) (k j w x : ℕ) → pick (eqb (bit (pick on k 0) j) 1) w x ≡ stored_over on (eqb (bit k j) 1) w x
lane_bit true k j w x = refl
lane_bit false k j w x = rw (bit_zero j)

module _ (m : List ℕ) (n : length m ≡ 256) (b : (i : ℕ) → get_or m i 0 < 2 ^ 8) where
  -- k 0 to k 3 are the masks of the four bytes, g the mask that they are
  module _ (o l v : ℕ) (within : o + 3 < 256) (g : Mask) (k : ℕ → ℕ) (masks : (t j : ℕ) → t < 4 → j < 8 → (bit (k t) j is 1) ≡ g (o + t) j) where
    abbrev after : ℕ → ℕ
    after i = byte_of (written_bit g (held m) o l v i)

    lane_byte : (t : ℕ) → t < 4 → lane_of (bit l t) (k t) (get_or m (o + t) 0) (v / 256 ^ t % 256) ≡ after (o + t)
    unfolding lane_of if_enabled
    lane_byte t h =
        blend_each 8 (pick (eqb (bit l t) 1) (k t) 0) (get_or m (o + t) 0) (v / 256 ^ t % 256)
        ∙ number_ext 8 (λ (j : ℕ). pick (eqb (bit (pick (eqb (bit l t) 1) (k t) 0) j) 1) (bit (v / 256 ^ t % 256) j) (bit (get_or m (o + t) 0) j)) (written_bit g (held m) o l v (o + t))
        (λ j q. lane_bit (eqb (bit l t) 1) (k t) j (bit (v / 256 ^ t % 256) j) (bit (get_or m (o + t) 0) j) ∙ rw (enabled_at o l t h, byte_for_at o v t, masks t j h q))

    lane_0 : lane_of (l % 2) (k 0) (get_or m o 0) (v % 256) ≡ after o
    lane_0 = simp (add-zero, div-one) at (lane_byte 0 (omega arith))

    -- a byte that is not enabled stays
    beside : (i : ℕ) → enabled o l i ≡ false → get_or m i 0 ≡ after i
    beside i e = sym (number_bits 8 (get_or m i 0) (b i)) ∙ number_ext 8 (bit (get_or m i 0)) (written_bit g (held m) o l v i) (λ j q. rw e)

    pub stored_is : stored_of m o l v (k 0) (k 1) (k 2) (k 3) ≡ bytes after
    unfolding stored_of
    stored_is =
        as_bytes _ after (length_put4 m o _ _ _ _ ∙ n)
        (λ i h. put4_at (λ (x : ℕ). x ≡ after i) m o
        (lane_of (l % 2) (k 0) (get_or m o 0) (v % 256)) (lane_of (l / 2 % 2) (k 1) (get_or m (o + 1) 0) (v / 256 % 256)) (lane_of (l / 4 % 2) (k 2) (get_or m (o + 2) 0) (v / 65536 % 256)) (lane_of (l / 8 % 2) (k 3) (get_or m (o + 3) 0) (v / 16777216 % 256))
        i (rw n h)
        (λ n0 n1 n2 n3. beside i (not_within o l i (λ x y. apart i n0 n1 n2 n3 x y)))
        (λ e. lane_0 ∙ ap after (sym e))
        (λ e. lane_byte 1 (omega arith) ∙ ap after (sym e))
        (λ e. lane_byte 2 (omega arith) ∙ ap after (sym e))
        (λ e. lane_byte 3 (omega arith) ∙ ap after (sym e)))
      where
        apart : (i : ℕ) → (i ≡ o → ⊥) → (i ≡ o + 1 → ⊥) → (i ≡ o + 2 → ⊥) → (i ≡ o + 3 → ⊥) → o ≤ i → i < o + 4 → ⊥
        apart i n0 n1 n2 n3 x y = omega arith

-- ---- a return to default

module _ (m : List ℕ) (n : length m ≡ 256) (masks defaults : List ℕ) where
  abbrev pub default : ℕ → ℕ
  default i = get_or defaults i 0

  pub returned_at : (i : ℕ) → i < 256 → get_or (returned_of masks defaults m) i 0 ≡ byte_of (returned_bit (under masks) default (held m) i)
  unfolding returned_of
  returned_at i h =
      get_or_map_n (returned_byte masks defaults) 256 0 m i h (rw n h) ∙ ap (λ (k : ℕ). returned_byte masks defaults k (get_or m i 0)) (zero-add i)
      ∙ blend_each 8 (get_or masks i 0) (get_or m i 0) (get_or defaults i 0)

  pub length_returned : length (returned_of masks defaults m) ≡ 256
  unfolding returned_of
  length_returned = length_map_n 256 (returned_byte masks defaults) 0 m ∙ n

  pub returned_is : returned_of masks defaults m ≡ bytes (λ (i : ℕ). byte_of (returned_bit (under masks) default (held m) i))
  returned_is = as_bytes (returned_of masks defaults m) (λ (i : ℕ). byte_of (returned_bit (under masks) default (held m) i)) length_returned returned_at
