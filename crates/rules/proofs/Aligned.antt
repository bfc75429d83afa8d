-- Over every run, GMADR's base is a multiple of the size that the code names: once over the number of bits that the code takes.
use mathlib.Core.Path.{◌≡◌, refl, ◌∙◌}
use mathlib.Core.List.{List}
use mathlib.Core.Bool.{Bool, true, false, not}
use Prim.Native.Nat.{ℕ, ◌+◌, ◌*◌, ◌/◌, ◌%◌, ◌^◌, ◌<◌, ◌≤◌}
use native.Mathlib.Omega.{arith}
use native.Mathlib.Decide.{ℕ_discrete}
use lib.Dec.{T, eqb, ltb, eqb→eq}
use borrow.Author.Tests.{le-leb, lt-ltb, ltb-true, ltb-false}
use Rattle.bits.specs.Bits.{bit}
use Rattle.bits.specs.Choice.{pick, both, either, all_below}
use Rattle.bits.proofs.Laws.{low_zero}
use Rattle.bits.proofs.Below.{below, both_left, both_right, is_false}
use Rattle.map.specs.Registers.{GMADR, MSAC}
use Rattle.any_device.specs.Class.{special, device, stores, by_host, has_f, is_hosted}
use Rattle.map.specs.Class.{taken}
use Rattle.any_map.specs.Map.{row_at, class_at, defaults}
use Rattle.map.specs.Map.{rows, class_of, default_at}
use Rattle.rules.specs.declared.State.{State}
use Rattle.rules.specs.Access.{byte}
use Rattle.rules.specs.Device.{size_of, least_exponent, bits_taken, exponent_of, taken_by}
use Rattle.rules.specs.Claims.{base_bit, base, aperture_base}
use Rattle.rules.specs.declared.Event.{Event}
use Rattle.rules.specs.Events.{run}
use Rattle.rules.proofs.Histories.{default_holds}
use Rattle.rules.proofs.Size.{taken_zero}

-- bit b of GMADR
abbrev at : ℕ → ℕ
at b = GMADR + b / 8

-- ---- bits 26:4 are read-only, 0

abbrev fixed_at : ℕ → Bool
fixed_at b = both (not (stores (class_of (at b) (b % 8)))) (both (not (is_hosted (class_of (at b) (b % 8)).host)) (eqb (bit (default_at (at b)) (b % 8)) 0))

low_at : ℕ → Bool
low_at b = either (ltb b 4) (fixed_at b)

all_low : T (all_below 27 low_at)
unfolding low_at rows row_at class_at defaults
all_low = tt

-- ---- how many bits a code takes

taken≤2 : (code : ℕ) → bits_taken code ≤ 2
unfolding bits_taken
taken≤2 code = go (eqb code 3) (eqb code 1)
  where
    go : (a b : Bool) → pick a 2 (pick b 1 0) ≤ 2
    go true b = omega arith
    go false true = omega arith
    go false false = omega arith

-- bits 27 and 28: a size code takes them, a function reset returns them, the host has no say, and their default is 0
abbrev Taken : ℕ → Type 0
Taken b = ((class_of (at b) (b % 8)).stored ≡ special (taken b)) × (has_f (class_of (at b) (b % 8)) ≡ true) × (by_host device (class_of (at b) (b % 8)) ≡ false) × (bit (default_at (at b)) (b % 8) ≡ 0)

aperture_27 : Taken 27
unfolding rows row_at class_at defaults
aperture_27 = (refl, refl, refl, refl)

aperture_28 : Taken 28
unfolding rows row_at class_at defaults
aperture_28 = (refl, refl, refl, refl)

module _ (es : List Event) where
  abbrev s : State
  s = run es

  abbrev code : ℕ
  code = size_of (byte s MSAC)

  low_bit : (b : ℕ) → b < 27 → base_bit s GMADR 4 b ≡ 0
  unfolding low_at
  low_bit b h = go (ltb b 4) (below 27 low_at all_low b h)
    where
      go : (e : Bool) → T (either e (fixed_at b)) → pick e 0 (bit (byte s (at b)) (b % 8)) ≡ 0
      go true t = refl
      go false t =
          let u = both_right (not (stores (class_of (at b) (b % 8)))) _ t in
          default_holds (at b) (b % 8) (omega arith) (omega arith) (is_false _ (both_left (not (stores (class_of (at b) (b % 8)))) _ t)) es (both_left (not (is_hosted (class_of (at b) (b % 8)).host)) _ u)
          ∙ eqb→eq _ _ (both_right (not (is_hosted (class_of (at b) (b % 8)).host)) _ u)

  -- the bits that the code takes
  is_taken_lem : (b : ℕ) → 27 ≤ b → b < exponent_of code → taken_by code b ≡ true
  unfolding taken_by
  is_taken_lem b l u = rw (le-leb least_exponent b l, lt-ltb b (exponent_of code) u)

  taken_bit : (b : ℕ) → 27 ≤ b → b < exponent_of code → base_bit s GMADR 4 b ≡ 0
  taken_bit b l u =
      elim (ℕ_discrete b 27) [
        | yes e ↦ rw e (taken_zero (at 27) 3 27 (omega arith) (omega arith) aperture_27.0 aperture_27.1 aperture_27.2 aperture_27.3 es (is_taken_lem 27 (omega arith) (omega arith)))
        | no n ↦ (let e : b ≡ 28 = omega (arith, taken≤2 code) in rw e (taken_zero (at 28) 4 28 (omega arith) (omega arith) aperture_28.0 aperture_28.1 aperture_28.2 aperture_28.3 es (is_taken_lem 28 (omega arith) (omega arith))))
      ]

  below_size : (b : ℕ) → b < exponent_of code → base_bit s GMADR 4 b ≡ 0
  below_size b u = go (ltb b 27) refl
    where
      go : (e : Bool) → ltb b 27 ≡ e → base_bit s GMADR 4 b ≡ 0
      go true e = low_bit b (ltb-true b 27 e)
      go false e = taken_bit b (ltb-false b 27 e) u

  pub aligned : (q : ℕ) × (aperture_base s ≡ q * 2 ^ exponent_of code)
  unfolding base
  aligned = low_zero (exponent_of code) 64 (base_bit s GMADR 4) (omega (arith, taken≤2 code)) below_size
