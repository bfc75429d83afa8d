-- What the code tests: which writes clear the aperture, close a field, and start a function reset.
use mathlib.Core.Path.{◌≡◌, refl, sym, subst, ◌∙◌}
use mathlib.Core.List.{List}
use mathlib.Core.Bool.{Bool, true, false, not}
use Prim.Native.Nat.{ℕ, suc, ◌+◌, ◌*◌, ◌/◌, ◌%◌, ◌<◌}
use native.Mathlib.Omega.{arith}
use native.Mathlib.Nat.{div-one}
use lib.Dec.{T, eqb, ltb, ltb→lt}
use lib.ListN.{get_or}
use borrow.Author.Tests.{ne_eqb, eqb-true, eqb-false}
use Rattle.bits.specs.Bits.{bit}
use Rattle.bits.specs.Choice.{pick, both, either, all_below, any_below}
use Rattle.bits.proofs.Below.{below, same, same_eq, any_ext}
use Rattle.map.specs.Registers.{SVID2, SID2, SWSCI, MSAC, AFCTL}
use Rattle.map.specs.Class.{Field, svid2, sid2, swsci15, field_number}
use Rattle.rules.specs.declared.Flags.{Flags}
use Rattle.access.specs.Access.{enabled, byte_for}
use Rattle.any_device.specs.Device as D
use Rattle.any_device.specs.Device.{raised, places_of}
use Rattle.rules.specs.Device.{spans, built_in}
use Rattle.rules.specs.Guest.{starts, touches}
use Rattle.access.proofs.Access.{not_within}
use Rattle.guest_write.specs.Bytes.{stored_bytes, cleared_bytes, clear_if, step_bytes, raised_of}

-- ---- MSAC

abbrev pub msac_dword : ℕ
msac_dword = MSAC / 4 * 4

msac_at : (o l : ℕ) → o ≡ msac_dword → enabled o l MSAC ≡ eqb (l / 4 % 2) 1
unfolding enabled
msac_at o l e = rw e

msac_not : (o l : ℕ) → o % 4 ≡ 0 → (o ≡ msac_dword → ⊥) → enabled o l MSAC ≡ false
msac_not o l a n = not_within o l MSAC (λ x y. n (omega arith))

module _ (g : List ℕ) (c : Flags) (m : List ℕ) (o l v : ℕ) (a : o % 4 ≡ 0) where
  pub clears : o ≡ msac_dword → l / 4 % 2 ≡ 1 → step_bytes g c m o l v ≡ cleared_bytes (stored_bytes g c m o l v)
  unfolding step_bytes clear_if
  clears e h = rw (msac_at o l e, h)

  pub clears_not : o ≡ msac_dword → (l / 4 % 2 ≡ 1 → ⊥) → step_bytes g c m o l v ≡ stored_bytes g c m o l v
  unfolding step_bytes clear_if
  clears_not e h = rw (msac_at o l e, ne_eqb (l / 4 % 2) 1 h)

  pub only_stores : (o ≡ msac_dword → ⊥) → step_bytes g c m o l v ≡ stored_bytes g c m o l v
  unfolding step_bytes clear_if
  only_stores n = rw (msac_not o l a n)

-- ---- the write-once fields

-- the bytes of a field, its dword, and its lanes
abbrev within : Field → ℕ → Bool
within svid2 i = either (eqb i SVID2) (eqb i (SVID2 + 1))
within sid2 i = either (eqb i SID2) (eqb i (SID2 + 1))
within swsci15 i = eqb i (SWSCI + 1)

abbrev pub dword : Field → ℕ
dword svid2 = SVID2
dword sid2 = SVID2
dword swsci15 = SWSCI

abbrev pub hit : Field → ℕ → ℕ
hit svid2 l = l % 4
hit sid2 l = l / 4
hit swsci15 l = l / 2 % 2

-- a byte of the field, by the table of places
abbrev placed : Field → ℕ → Bool
placed f i = eqb (get_or built_in.places i 0) (suc (field_number f))

within_at : Field → ℕ → Bool
within_at f i = same (placed f i) (within f i)

all_within : (f : Field) → T (all_below 256 (within_at f))
unfolding within_at spans places_of
all_within svid2 = tt
all_within sid2 = tt
all_within swsci15 = tt

is_within : (f : Field) (i : ℕ) → i < 256 → placed f i ≡ within f i
unfolding within_at
is_within f i h = same_eq (placed f i) (within f i) (below 256 (within_at f) (all_within f) i h)

touch_at : Field → ℕ → ℕ → Bool
touch_at f d l = same (any_below 4 (λ (k : ℕ). both (eqb (bit l k) 1) (within f (d * 4 + k)))) (both (eqb (d * 4) (dword f)) (not (eqb (hit f l) 0)))

all_touch : (f : Field) → T (all_below 64 (λ (d : ℕ). all_below 16 (touch_at f d)))
unfolding touch_at
all_touch svid2 = tt
all_touch sid2 = tt
all_touch swsci15 = tt

touch_law : (f : Field) (d l : ℕ) → d < 64 → l < 16 → any_below 4 (λ (k : ℕ). both (eqb (bit l k) 1) (within f (d * 4 + k))) ≡ both (eqb (d * 4) (dword f)) (not (eqb (hit f l) 0))
unfolding touch_at
touch_law f d l h b = same_eq _ _ (below 16 (touch_at f d) (below 64 (λ (d : ℕ). all_below 16 (touch_at f d)) (all_touch f) d h) l b)

pub touches_is : (f : Field) (o l : ℕ) → o + 3 < 256 → o % 4 ≡ 0 → l < 16 → touches o l f ≡ both (eqb o (dword f)) (not (eqb (hit f l) 0))
unfolding D.touches
touches_is f o l h a b =
    let e : o / 4 * 4 ≡ o = omega arith in
    any_ext 4 (λ (k : ℕ). both (eqb (bit l k) 1) (placed f (o + k))) (λ (k : ℕ). both (eqb (bit l k) 1) (within f (o + k))) (λ k j. rw (is_within f (o + k) (omega arith)))
    ∙ subst (λ (x : ℕ). any_below 4 (λ (k : ℕ). both (eqb (bit l k) 1) (within f (x + k))) ≡ both (eqb x (dword f)) (not (eqb (hit f l) 0))) e (touch_law f (o / 4) l (omega arith) b)

-- ---- AFCTL

-- of two bits
both_ones : (a b : ℕ) → a < 2 → b < 2 → both (eqb a 1) (eqb b 1) ≡ not (eqb (a * b) 0)
both_ones a b h k = same_eq _ _ (below 2 (λ (b : ℕ). same (both (eqb a 1) (eqb b 1)) (not (eqb (a * b) 0))) (below 2 (λ (a : ℕ). all_below 2 (λ (b : ℕ). same (both (eqb a 1) (eqb b 1)) (not (eqb (a * b) 0)))) tt a h) b k)

pub product<2 : (a b : ℕ) → a < 2 → b < 2 → a * b < 2
product<2 a b h k = ltb→lt _ _ (below 2 (λ (b : ℕ). ltb (a * b) 2) (below 2 (λ (a : ℕ). all_below 2 (λ (b : ℕ). ltb (a * b) 2)) tt a h) b k)

starts_is : (o l v : ℕ) → o % 4 ≡ 0 → starts o l v ≡ both (eqb o AFCTL) (not (eqb (l % 2 * (v % 2)) 0))
unfolding starts enabled byte_for
starts_is o l v a = go (eqb o AFCTL) refl
  where
    at : o ≡ AFCTL → starts o l v ≡ both (eqb (l % 2) 1) (eqb (v % 2) 1)
    at e =
        let m : v / 1 % 256 / 1 % 2 ≡ v % 2 = rw div-one (omega (arith, div-one v)) in
        rw (e, m, div-one)

    go : (b : Bool) → eqb o AFCTL ≡ b → starts o l v ≡ both b (not (eqb (l % 2 * (v % 2)) 0))
    go true e = at (eqb-true o AFCTL e) ∙ both_ones (l % 2) (v % 2) (omega arith) (omega arith)
    go false e = rw (not_within o l AFCTL (λ x y. eqb-false o AFCTL e (omega arith)))

-- ---- a flag

raise_pick : (a b : Bool) (was : ℕ) → pick a (pick b was (pick (eqb was 0) 1 was)) was ≡ raised (both a (not b)) was
raise_pick true true was = refl
raise_pick true false was = refl
raise_pick false b was = refl

raised_by : (t : Bool) (was o at hit : ℕ) → t ≡ both (eqb o at) (not (eqb hit 0)) → raised_of was o at hit ≡ raised t was
unfolding raised_of
raised_by t was o at hit e = raise_pick (eqb o at) (eqb hit 0) was ∙ rw (sym e)

pub closed_is : (f : Field) (was o l : ℕ) → o + 3 < 256 → o % 4 ≡ 0 → l < 16 → raised_of was o (dword f) (hit f l) ≡ raised (touches o l f) was
closed_is f was o l h a b = raised_by (touches o l f) was o (dword f) (hit f l) (touches_is f o l h a b)

pub busy_is : (was o l v : ℕ) → o % 4 ≡ 0 → raised_of was o AFCTL (l % 2 * (v % 2)) ≡ raised (starts o l v) was
busy_is was o l v a = raised_by (starts o l v) was o AFCTL (l % 2 * (v % 2)) (starts_is o l v a)
