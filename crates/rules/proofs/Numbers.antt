-- What the history says in the paper's numbers is what the machine tests: an accepted access, the bytes and the bits of a write-once field, the sizes of the aperture.
use mathlib.Core.Path.{◌≡◌, refl, sym, subst}
use mathlib.Core.Bool.{Bool, true, false, not}
use Prim.Native.Nat.{ℕ, zero, suc, ◌+◌, ◌*◌, ◌%◌, ◌^◌, ◌<◌, ◌≤◌}
use native.Mathlib.Omega.{arith}
use native.Mathlib.Decide.{dec_lt, ℕ_discrete}
use lib.Dec.{T, eqb, ltb, leb, eqb→eq, leb→le}
use Rattle.bits.specs.Bits.{bit, field}
use Rattle.bits.specs.Choice.{both, either, all_below}
use Rattle.bits.proofs.Tests.{tests}
use Rattle.bits.proofs.Laws.{bit<2}
use Rattle.bits.proofs.Below.{both_left, both_right, below, same, same_eq, other, is_false}
use Rattle.any_device.specs.Class.{is_hosted, is_once, of_once}
use Rattle.any_device.specs.Device.{places_of}
use Rattle.any_device.specs.Kinds.{of_field, Placed}
use Rattle.any_device.specs.First.{Locked}
use Rattle.any_device.proofs.Fields.{agrees, placed}
use Rattle.any_device.proofs.Parts.{once_is, none_is}
use Rattle.map.specs.Class.{Platform, ivy_bridge, Field, svid2, sid2, swsci15, field_number, Class}
use Rattle.any_map.specs.Map.{row_at, class_at}
use Rattle.map.specs.Map.{rows, class_of}
use Rattle.map.proofs.Classes.{past_the_rows}
use Rattle.access.specs.Access.{bad_offset, bad_lanes}
use Rattle.rules.specs.Device.{bits_taken, exponent_of, spans, built_in}
use Rattle.rules.specs.Ports.{bad_width, at_latch, not_ours, other_function, here}
use Rattle.rules.specs.History.{direct, data_access, bit_of}
use Rattle.rules.specs.Demand3.{size_named}

-- ---- a direct access

pub below_is : (m n : ℕ) → ltb n (suc m) ≡ not (ltb m n)
below_is m n = elim (dec_lt m n) [ yes h ↦ search tests | no h ↦ let l : n ≤ m = omega arith in let k : n < suc m = omega arith in search (tests, l, k) ]

pub direct_is : (o l : ℕ) → direct o l ≡ not (either (bad_offset o) (bad_lanes l))
direct_is o l = rw (below_is 255 o, below_is 15 l) (go (ltb 255 o) (eqb (o % 4) 0) (ltb 15 l))
  where
    go : (a b c : Bool) → both (not a) (both b (not c)) ≡ not (either (either a (not b)) c)
    go true b c = refl
    go false true c = refl
    go false false c = refl

-- ---- a data access

bit_is : (x n : ℕ) → eqb (bit x n) 1 ≡ not (eqb (bit x n) 0)
bit_is x n = elim (ℕ_discrete (bit x n) 0) [ yes e ↦ rw e | no e ↦ let one : bit x n ≡ 1 = omega (arith, bit<2 x n) in rw one ]

-- bus, device and function, one behind the other
function_is : (x : ℕ) → eqb (field x 23 8) 0x10 ≡ not (other_function here x)
unfolding other_function
function_is x = elim (ℕ_discrete (field x 23 8) 0x10) [ yes e ↦ yes_is e | no n ↦ no_is n ]
  where
    parts : field x 23 8 ≡ field x 23 16 * 256 + field x 15 11 * 8 + field x 10 8
    parts = omega arith

    low : (field x 10 8 < 8) × (field x 15 11 < 32)
    low = (omega arith, omega arith)

    yes_is : field x 23 8 ≡ 0x10 → eqb (field x 23 8) 0x10 ≡ not (not (both (eqb (field x 23 16) 0) (both (eqb (field x 15 11) 2) (eqb (field x 10 8) 0))))
    yes_is e =
        let bus : field x 23 16 ≡ 0 = omega (arith, parts, low, e) in
        let device : field x 15 11 ≡ 2 = omega (arith, parts, low, e) in
        let function : field x 10 8 ≡ 0 = omega (arith, parts, low, e) in
        rw (e, bus, device, function)

    no_is : (field x 23 8 ≡ 0x10 → ⊥) → eqb (field x 23 8) 0x10 ≡ not (not (both (eqb (field x 23 16) 0) (both (eqb (field x 15 11) 2) (eqb (field x 10 8) 0))))
    no_is n =
        elim (ℕ_discrete (field x 23 16) 0) [
          | no bus ↦ search (tests, n, bus)
          | yes bus ↦ elim (ℕ_discrete (field x 15 11) 2) [
            | no device ↦ rw bus (search (tests, n, device))
            | yes device ↦ elim (ℕ_discrete (field x 10 8) 0) [ no function ↦ rw (bus, device) (search (tests, n, function)) | yes function ↦ absurd (n (omega (arith, parts, bus, device, function))) ]
          ]
        ]

pub data_is : (x p w : ℕ) → data_access x p w ≡ not (either (bad_width w) (either (not_ours x p w) (either (at_latch p w) (other_function here x))))
unfolding not_ours
data_is x p w = rw (bit_is x 31, function_is x) (go (leb 0xCFC p) (at_latch p w) (either (eqb w 1) (either (eqb w 2) (eqb w 4))) (leb (p + w) 0xD00) (eqb (bit x 31) 0) (other_function here x) refl refl)
  where
    go : (b d a c e f : Bool) → leb 0xCFC p ≡ b → at_latch p w ≡ d → both a (both b (both c (both (not e) (not f)))) ≡ not (either (not a) (either (both (not d) (either (not (both b c)) e)) (either d f)))
    go true true a c e f h k = absurd (omega (arith, leb→le 0xCFC p (subst T (sym h) tt), eqb→eq p 0xCF8 (both_left (eqb p 0xCF8) (eqb w 4) (subst T (sym k) tt))))
    go true false true true true f h k = refl
    go true false true true false f h k = refl
    go true false true false e f h k = refl
    go true false false c e f h k = refl
    go false true true c e f h k = refl
    go false true false c e f h k = refl
    go false false true c e f h k = refl
    go false false false c e f h k = refl

-- ---- the write-once fields

-- a bit of a field: no host has it, and no function reset returns it
abbrev locked : ℕ → Class → Bool
locked n c = both (is_once n c.stored) (both (not c.clears) (both (not (is_hosted c.host)) (not c.returned)))

locked_is : (n : ℕ) (c : Class) → T (locked n c) → Locked built_in n c
locked_is n c t =
    let u = both_right (is_once n c.stored) _ t in
    let v = both_right (not c.clears) _ u in
    (once_is n c.stored (both_left (is_once n c.stored) _ t), is_false _ (both_left (not c.clears) _ u), none_is c.host (both_left (not (is_hosted c.host)) _ v), is_false _ (both_right (not (is_hosted c.host)) _ v))

-- the rows name the bits that the paper's numbers do, and no others
bit_tests : Field → ℕ → ℕ → Bool
bit_tests f i j = both (same (bit_of f i j) (of_once (field_number f) (class_of i j))) (either (not (bit_of f i j)) (locked (field_number f) (class_of i j)))

all_bits : (f : Field) → T (all_below 256 (λ (i : ℕ). all_below 8 (bit_tests f i)))
unfolding bit_tests rows row_at class_at
all_bits svid2 = tt
all_bits sid2 = tt
all_bits swsci15 = tt

bit_test : (f : Field) (i j : ℕ) → i < 256 → j < 8 → T (bit_tests f i j)
bit_test f i j h k = below 8 (bit_tests f i) (below 256 (λ (i : ℕ). all_below 8 (bit_tests f i)) (all_bits f) i h) j k

pub field_bit : (f : Field) (i j : ℕ) → i < 256 → j < 8 → bit_of f i j ≡ true → Locked built_in (field_number f) (class_of i j)
unfolding bit_tests
field_bit f i j h k e = locked_is (field_number f) (class_of i j) (other (not (bit_of f i j)) _ (rw e) (both_right (same (bit_of f i j) (of_once (field_number f) (class_of i j))) _ (bit_test f i j h k)))

pub field_only : (f : Field) (i j : ℕ) → i < 256 → j < 8 → bit_of f i j ≡ of_once (field_number f) (class_of i j)
unfolding bit_tests
field_only f i j h k = same_eq _ _ (both_left (same (bit_of f i j) (of_once (field_number f) (class_of i j))) _ (bit_test f i j h k))

-- ---- the table of places, by which the machine goes, says what the rows say

all_agree : (p : Platform) → T (all_below 256 (agrees built_in p))
unfolding rows row_at class_at spans places_of of_field
all_agree ivy_bridge = tt

past_all : (p : Platform) (f i j : ℕ) → 256 ≤ i → of_once f (built_in.class p i j) ≡ false
past_all ivy_bridge f i j h = rw (past_the_rows i j h)

pub fields_placed : Placed built_in
fields_placed = placed built_in spans refl all_agree past_all

pub in_range : (f : Field) → field_number f < 3
in_range svid2 = omega arith
in_range sid2 = omega arith
in_range swsci15 = omega arith

-- ---- the sizes

pub size_named_lem : (code : ℕ) → code < 4 → (code ≡ 2 → ⊥) → 2 ^ exponent_of code ≡ size_named code
unfolding bits_taken
size_named_lem zero h n = refl
size_named_lem (suc zero) h n = refl
size_named_lem (suc (suc zero)) h n = absurd (n refl)
size_named_lem (suc (suc (suc zero))) h n = refl
size_named_lem (suc (suc (suc (suc c)))) h n = absurd (omega arith)
