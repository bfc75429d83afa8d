-- The plain rule by example: what a row of the papers says of lanes and masks, computed.
use mathlib.Core.Path.{◌≡◌, refl}
use mathlib.Core.Bool.{true, false}
use Prim.Native.Nat.{ℕ}
use Rattle.bits.specs.Bits.{number_of}
use Rattle.bits.specs.Choice.{◌is◌}
use Rattle.plain.specs.Plain.{lane_value, stored_over, outside, returned_bit}

-- of a dword of ones and of one of zeros: lanes that are not enabled read as ones
split : (lane_value (λ (n : ℕ). 0) 5 ≡ 0xFF00FF00) × (lane_value (λ (n : ℕ). 0) 0 ≡ 0xFFFFFFFF) × (lane_value (λ (n : ℕ). 0) 15 ≡ 0)
unfolding number_of
split = (refl, refl, refl)

-- a bit is stored in an enabled lane under the mask alone
stored : (stored_over true true 1 0 ≡ 1) × (stored_over false true 1 0 ≡ 0) × (stored_over true false 1 0 ≡ 0)
stored = (refl, refl, refl)

-- a mask byte with a bit outside the host mask, in its highest place too; mask 0 is inside
masked : (outside (λ (i j : ℕ). j is 3) 0 0x88 ≡ true) × (outside (λ (i j : ℕ). j is 3) 0 0x08 ≡ false) × (outside (λ (i j : ℕ). j is 3) 0 0 ≡ false)
masked = (refl, refl, refl)

-- a return to default
returned : (returned_bit (λ (i j : ℕ). true) (λ (i : ℕ). 1) (λ (i j : ℕ). 0) 0 0 ≡ 1) × (returned_bit (λ (i j : ℕ). false) (λ (i : ℕ). 1) (λ (i j : ℕ). 0) 0 0 ≡ 0)
returned = (refl, refl)
