-- Laws of an access: whether it is admitted, and what it enables.
use mathlib.Core.Path.{◌≡◌, refl, sym, ap}
use mathlib.Core.Bool.{Bool, true, false}
use Prim.Native.Nat.{ℕ, ◌+◌, ◌-◌, ◌/◌, ◌%◌, ◌^◌, ◌<◌, ◌≤◌}
use native.Mathlib.Omega.{arith}
use lib.Dec.{T, eqb, leb, ltb, leb→le, ltb→lt}
use borrow.Author.Tests.{le-leb, lt-ltb, ltb-false, eqb-true, not-false}
use Rattle.bits.specs.Bits.{bit}
use Rattle.bits.specs.Choice.{pick}
use Rattle.bits.proofs.Below.{both_left, both_right, false_unless, either_left, either_right}
use Rattle.answer.specs.Refusals.{Reply, fine, ok, no, number, OFFSET, LANES}
use Rattle.access.specs.Access.{enabled, byte_for, bad_offset, bad_lanes, admit}

-- ---- a refusal is no acceptance

abbrev is_fine : Reply → ℕ
is_fine fine = 1
is_fine (ok v) = 0
is_fine (no n) = 0

refused_not_fine : (n : ℕ) → no n ≡ fine → ⊥
refused_not_fine n e = omega (arith, ap is_fine e)

-- ---- an offset that is not refused

pub good_offset : (o : ℕ) → bad_offset o ≡ false → (o + 3 < 256) × (o % 4 ≡ 0)
good_offset o e =
    let small : o ≤ 255 = ltb-false 255 o (either_left (ltb 255 o) _ e) in
    let even : o % 4 ≡ 0 = eqb-true (o % 4) 0 (not-false _ (either_right (ltb 255 o) _ e)) in
    (omega arith, even)

-- ---- an access, where it is known whether it is admitted

module _ {A : Type 0} (bad : Bool) (n l : ℕ) (refuse : ℕ → A) (made : A) where
  -- refused with r
  pub not_admitted : (r : ℕ) → no r ≡ admit bad n l no fine → refuse r ≡ admit bad n l refuse made
  not_admitted r = go bad (bad_lanes l)
    where
      go : (a b : Bool) → no r ≡ pick a (no n) (pick b (no LANES) fine) → refuse r ≡ pick a (refuse n) (pick b (refuse LANES) made)
      go true b e = ap refuse (ap number e)
      go false true e = ap refuse (ap number e)
      go false false e = absurd (refused_not_fine r e)

  pub admitted : fine ≡ admit bad n l no fine → made ≡ admit bad n l refuse made
  admitted = go bad (bad_lanes l)
    where
      go : (a b : Bool) → fine ≡ pick a (no n) (pick b (no LANES) fine) → made ≡ pick a (refuse n) (pick b (refuse LANES) made)
      go true b e = absurd (refused_not_fine n (sym e))
      go false true e = absurd (refused_not_fine LANES (sym e))
      go false false e = refl

-- what holds of every refusal, and of the access where its offset is not bad
pub admit_has : {A : Type 0} (P : A → Type 0) (bad : Bool) (n l : ℕ) (refuse : ℕ → A) (made : A) → ((r : ℕ) → P (refuse r)) → (bad ≡ false → P made) → P (admit bad n l refuse made)
admit_has P bad n l refuse made p q = go bad (bad_lanes l) refl
  where
    go : (a b : Bool) → bad ≡ a → P (pick a (refuse n) (pick b (refuse LANES) made))
    go true b e = p n
    go false true e = p LANES
    go false false e = q e

-- two accesses that are asked the same
pub admit_is : {A B : Type 0} (f : A → B) (bad : Bool) (n l : ℕ) (refuse : ℕ → A) (made : A) (refuse' : ℕ → B) (made' : B) → ((r : ℕ) → f (refuse r) ≡ refuse' r) → (bad ≡ false → f made ≡ made') → f (admit bad n l refuse made) ≡ admit bad n l refuse' made'
admit_is f bad n l refuse made refuse' made' p q = go bad (bad_lanes l) refl
  where
    go : (a b : Bool) → bad ≡ a → f (pick a (refuse n) (pick b (refuse LANES) made)) ≡ pick a (refuse' n) (pick b (refuse' LANES) made')
    go true b e = p n
    go false true e = p LANES
    go false false e = q e

-- its offset is not bad, and its lanes are below 16
pub admitted_is : (bad : Bool) (n l : ℕ) → fine ≡ admit bad n l no fine → (bad ≡ false) × (l < 16)
admitted_is bad n l = go bad (bad_lanes l) refl
  where
    go : (a b : Bool) → bad_lanes l ≡ b → fine ≡ pick a (no n) (pick b (no LANES) fine) → (a ≡ false) × (l < 16)
    go true b q e = absurd (refused_not_fine n (sym e))
    go false true q e = absurd (refused_not_fine LANES (sym e))
    go false false q e = (refl, omega (arith, ltb-false 15 l q))

-- a direct access that is admitted
pub direct_is : (o l : ℕ) → fine ≡ admit (bad_offset o) OFFSET l no fine → (o + 3 < 256) × (o % 4 ≡ 0) × (l < 16)
direct_is o l e =
    let a = admitted_is (bad_offset o) OFFSET l e in
    let g = good_offset o a.0 in
    (g.0, g.1, a.1)

-- ---- what is enabled

-- an enabled byte is one of the four
pub enabled_within : (o l i : ℕ) → T (enabled o l i) → (o ≤ i) × (i < o + 4)
unfolding enabled
enabled_within o l i t = (leb→le o i (both_left (leb o i) _ t), ltb→lt i (o + 4) (both_left (ltb i (o + 4)) _ (both_right (leb o i) _ t)))

pub not_within : (o l i : ℕ) → ((o ≤ i) → (i < o + 4) → ⊥) → enabled o l i ≡ false
not_within o l i n = false_unless (enabled o l i) (λ t. n (enabled_within o l i t).0 (enabled_within o l i t).1)

-- byte k of the dword is enabled by bit k of the lanes
pub enabled_at : (o l k : ℕ) → k < 4 → enabled o l (o + k) ≡ eqb (bit l k) 1
unfolding enabled
enabled_at o l k h =
    let e : o + k - o ≡ k = omega arith in
    rw (le-leb o (o + k) (omega arith), lt-ltb (o + k) (o + 4) (omega arith), e)

pub byte_for_at : (o v k : ℕ) → byte_for o v (o + k) ≡ v / 256 ^ k % 256
unfolding byte_for
byte_for_at o v k =
    let e : o + k - o ≡ k = omega arith in
    rw e
