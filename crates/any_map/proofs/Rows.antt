-- A small map by example: which class each bit has, and what its tables hold, computed.
use mathlib.Core.Path.{◌≡◌, refl}
use mathlib.Core.List.{[], ◌∷◌}
use mathlib.Core.Bool.{Bool, true, false}
use Prim.Native.Nat.{ℕ}
use lib.ListN.{take}
use Rattle.bits.specs.Bits.{number_of}
use Rattle.bits.specs.Choice.{◌is◌}
use Rattle.any_map.specs.Map.{Map, row, ◌on◌, ◌&◌, bits, row_at, class_at, table_of, defaults, in_order}

-- two registers, classes 1 and 2, and 0 for every bit that is not listed
abbrev two : Map ℕ
two = record { rows = row 1 2 0x1234 (1 on 0x00F0 & 2 on bits 15 12) ∷ row 4 1 0x80 (2 on 0x01) ∷ []; unlisted = 0 }

classes : (class_at two 1 4 ≡ 1) × (class_at two 1 3 ≡ 0) × (class_at two 2 4 ≡ 2) × (class_at two 2 3 ≡ 0) × (class_at two 3 0 ≡ 0) × (class_at two 4 0 ≡ 2)
unfolding row_at class_at
classes = (refl, refl, refl, refl, refl, refl)

tables : (take 6 (table_of two (λ (c : ℕ). c is 1)) ≡ 0 ∷ 0xF0 ∷ 0 ∷ 0 ∷ 0 ∷ 0 ∷ []) × (take 6 (table_of two (λ (c : ℕ). c is 2)) ≡ 0 ∷ 0 ∷ 0xF0 ∷ 0 ∷ 1 ∷ 0 ∷ [])
unfolding number_of row_at class_at table_of
tables = (refl, refl)

at_start_lem : take 6 (defaults two) ≡ 0 ∷ 0x34 ∷ 0x12 ∷ 0 ∷ 0x80 ∷ 0 ∷ []
unfolding row_at defaults
at_start_lem = refl

-- in order; and not: registers that overlap, a mask past its register, a bit in two parts, a register past byte FF
abbrev ordered : Map ℕ → Bool
ordered m = in_order 0 m.rows

orders : (ordered two ≡ true) × (in_order {C = ℕ} 0 (row 1 2 0 (1 on 1) ∷ row 2 1 0 (1 on 1) ∷ []) ≡ false) × (in_order {C = ℕ} 0 (row 1 1 0 (1 on 0x100) ∷ []) ≡ false) × (in_order {C = ℕ} 0 (row 1 1 0 (1 on 3 & 2 on 2) ∷ []) ≡ false) × (in_order {C = ℕ} 0 (row 255 2 0 (1 on 3) ∷ []) ≡ false)
orders = (refl, refl, refl, refl, refl)
