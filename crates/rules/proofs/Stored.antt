-- A store, where the class of the bit is one of this map's: what takes the bit written, what stays, and that only byte 3 of GMADR has bits that a size code takes.
use mathlib.Core.Path.{◌≡◌, refl, sym, ◌∙◌}
use mathlib.Core.List.{List}
use mathlib.Core.Bool.{Bool, true, false, not}
use Prim.Native.Nat.{ℕ, ◌+◌, ◌^◌, ◌<◌}
use lib.Dec.{T, eqb, ltb, ltb→lt}
use borrow.Author.Tests.{ne_eqb, lt-leb}
use Rattle.bits.specs.Bits.{bit, byte_of}
use Rattle.bits.specs.Choice.{pick, both, either, all_below}
use Rattle.bits.proofs.Laws.{number_bits, number_ext}
use Rattle.bits.proofs.Below.{below, both_off, other}
use Rattle.access.specs.Access.{enabled, byte_for}
use Rattle.past.specs.Past.{nothing, given, or_held}
use Rattle.plain.specs.Plain as P
use Rattle.plain.specs.Plain.{stored_over, made}
use Rattle.any_map.specs.Map.{row_at, class_at}
use Rattle.any_device.specs.Class.{Stored, never, always, once, until, special}
use Rattle.any_device.specs.Device as D
use Rattle.map.specs.Registers.{GMADR, MSAC}
use Rattle.map.specs.Class.{Special, size, taken, power}
use Rattle.map.specs.Map.{rows, class_of}
use Rattle.map.proofs.Classes.{unclearing}
use Rattle.rules.specs.declared.State.{State}
use Rattle.rules.specs.Access.{byte}
use Rattle.rules.specs.Device.{least_exponent, taken_by, code_in, sweeps, is_taken, built_in, core}
use Rattle.rules.specs.Guest.{bit_after}

abbrev pub stored_bit : State → ℕ → ℕ → ℕ → ℕ → ℕ → ℕ
stored_bit s o l v i j = D.stored_bit built_in (core s) o l v i j

-- a write of the byte w is held back
abbrev pub held_back : State → ℕ → ℕ → ℕ → Bool
held_back s w i j = D.held_back built_in (core s) w (class_of i j).stored

-- in an enabled lane, a bit that is not held back takes the bit written
pub stored_form : (s : State) (o l v i j : ℕ) → stored_bit s o l v i j ≡ stored_over (enabled o l i) (not (held_back s (byte_for o v i) i j)) (bit (byte_for o v i) j) (bit (byte s i) j)
unfolding D.stored_bit
stored_form s o l v i j = rw (unclearing i j) (go (enabled o l i) (held_back s (byte_for o v i) i j) (bit (byte_for o v i) j) (bit (byte s i) j))
  where
    go : (e b : Bool) (w x : ℕ) → or_held (pick e (pick b nothing (given w)) nothing) x ≡ stored_over e (not b) w x
    go true true w x = refl
    go true false w x = refl
    go false b w x = refl

pub stored_off : (s : State) (o l v i j : ℕ) → held_back s (byte_for o v i) i j ≡ true → stored_bit s o l v i j ≡ bit (byte s i) j
stored_off s o l v i j t = stored_form s o l v i j ∙ rw (t, both_off (enabled o l i))

-- a bit whose byte is not enabled stays
pub beside : (s : State) (o l v i j : ℕ) → enabled o l i ≡ false → stored_bit s o l v i j ≡ bit (byte s i) j
unfolding D.stored_bit
beside s o l v i j e = rw e

pub byte_beside : (s : State) (o l v i : ℕ) → byte s i < 2 ^ 8 → enabled o l i ≡ false → byte_of (stored_bit s o l v i) ≡ byte s i
byte_beside s o l v i b e = number_ext 8 (stored_bit s o l v i) (bit (byte s i)) (λ j k. beside s o l v i j e) ∙ number_bits 8 (byte s i) b

-- ---- what a write to MSAC clears

-- a bit of GMADR, by its number; any other is below the least exponent
abbrev pub aperture_bit : Stored Special → ℕ
aperture_bit never = 0
aperture_bit always = 0
aperture_bit (once f) = 0
aperture_bit (until cs) = 0
aperture_bit (special size) = 0
aperture_bit (special (taken b)) = b
aperture_bit (special power) = 0

-- a write to MSAC clears the bits that the code takes, and no other write clears any
pub swept_is : (st : Stored Special) (m : List ℕ) (o l : ℕ) → D.swept built_in m o l st ≡ both (enabled o l MSAC) (is_taken (code_in m) st)
unfolding D.swept sweeps
swept_is never m o l = sym (both_off (enabled o l MSAC))
swept_is always m o l = sym (both_off (enabled o l MSAC))
swept_is (once f) m o l = sym (both_off (enabled o l MSAC))
swept_is (until cs) m o l = sym (both_off (enabled o l MSAC))
swept_is (special size) m o l = sym (both_off (enabled o l MSAC))
swept_is (special (taken b)) m o l = refl
swept_is (special power) m o l = sym (both_off (enabled o l MSAC))

-- a bit whose number no code takes
pub not_taken : (code : ℕ) (st : Stored Special) → T (ltb (aperture_bit st) least_exponent) → is_taken code st ≡ false
unfolding taken_by
not_taken code never t = refl
not_taken code always t = refl
not_taken code (once f) t = refl
not_taken code (until cs) t = refl
not_taken code (special size) t = refl
not_taken code (special (taken b)) t = rw (lt-leb least_exponent b (ltb→lt b least_exponent t))
not_taken code (special power) t = refl

pub unswept : (st : Stored Special) → T (ltb (aperture_bit st) least_exponent) → (m : List ℕ) (o l : ℕ) → D.swept built_in m o l st ≡ false
unswept st t m o l = swept_is st m o l ∙ rw (not_taken (code_in m) st t, both_off (enabled o l MSAC))

low_at : ℕ → Bool
low_at i = either (eqb i (GMADR + 3)) (all_below 8 (λ (j : ℕ). ltb (aperture_bit (class_of i j).stored) least_exponent))

all_low : T (all_below 256 low_at)
unfolding low_at rows row_at class_at
all_low = tt

-- only byte 3 of GMADR has bits that a size code takes
pub low_elsewhere : (i j : ℕ) → i < 256 → (i ≡ GMADR + 3 → ⊥) → j < 8 → T (ltb (aperture_bit (class_of i j).stored) least_exponent)
unfolding low_at
low_elsewhere i j h n k = below 8 (λ (j : ℕ). ltb (aperture_bit (class_of i j).stored) least_exponent) (other (eqb i (GMADR + 3)) _ (ne_eqb i (GMADR + 3) n) (below 256 low_at all_low i h)) j k

-- not cleared: what is stored
pub only_stored : (s : State) (o l v i j : ℕ) → ((m : List ℕ) → D.swept built_in m o l (class_of i j).stored ≡ false) → bit_after s o l v i j ≡ stored_bit s o l v i j
unfolding D.written_bit
only_stored s o l v i j c = rw (c (made (stored_bit s o l v)))

-- a bit whose byte is not enabled stays, where MSAC is not enabled either
pub left : (s : State) (o l v i j : ℕ) → enabled o l MSAC ≡ false → enabled o l i ≡ false → bit_after s o l v i j ≡ bit (byte s i) j
left s o l v i j m e = only_stored s o l v i j (λ b. swept_is (class_of i j).stored b o l ∙ rw m) ∙ beside s o l v i j e

-- ---- a host update and the end of a function reset, by the plain rule

pub updated_form : (s : State) (o m v i j : ℕ) → D.updated_bit built_in (core s) o m v i j ≡ P.updated_bit (P.held s.bytes) o m v i j
unfolding D.updated_bit
updated_form s o m v i j = rw (unclearing i j) (go (both (eqb i o) (eqb (bit m j) 1)) (bit v j) (bit (byte s i) j))
  where
    go : (b : Bool) (w x : ℕ) → or_held (pick b (given w) nothing) x ≡ pick b w x
    go true w x = refl
    go false w x = refl
