-- Any map: rows of registers over any type of class, the class of each bit, and the tables.
use Rattle.std.specs.Prelude.{List, [], ◌∷◌, ◌++◌, Bool, true, ℕ, ◌+◌, ◌-◌, ◌*◌, ◌/◌, ◌%◌, ◌^◌, get_or}
use Rattle.bits.specs.Bits.{bit, byte_of}
use Rattle.bits.specs.Choice.{when◌then◌else◌, ◌and◌, ◌is◌, ◌≤?◌, ◌<?◌, mark, all_below}
use Rattle.bits.specs.Places.{bytes}

-- the bits under a mask have a class
pub record Part (C : Type 0) : Type 0 where
  pub mask : ℕ
  pub class : C

abbrev pub Rule : Type 0 → Type 0
Rule C = List (Part C)

pub record Row (C : Type 0) : Type 0 where
  pub at : ℕ
  pub size : ℕ
  pub default : ℕ
  pub rule : Rule C

-- the rows, and the class of every bit that no part has
pub record Map (C : Type 0) : Type 0 where
  pub rows : List (Row C)
  pub unlisted : C

-- the mask of bits hi:lo
abbrev pub bits : ℕ → ℕ → ℕ
bits hi lo = 2 ^ (hi + 1) - 2 ^ lo

module _ {C : Type 0} where
  infixr 20 ◌&◌
  infix 30 ◌on◌
  abbrev pub ◌on◌ : C → ℕ → Rule C
  c on m = record { mask = m; class = c } ∷ []

  abbrev pub ◌&◌ : Rule C → Rule C → Rule C
  a & b = a ++ b

  abbrev pub row : ℕ → ℕ → ℕ → Rule C → Row C
  row a s d r = record { at = a; size = s; default = d; rule = r }

  -- ---- the class of each bit

  -- the row has byte i
  abbrev pub has : Row C → ℕ → Bool
  has r i = r.at ≤? i and i <? r.at + r.size

  -- a byte that no row has is a register of its own, 0
  abbrev pub row_in : List (Row C) → ℕ → Row C
  row_in [] i = row i 1 0 []
  row_in (r ∷ rs) i = when has r i then r else row_in rs i

  abbrev pub class_in : C → Rule C → ℕ → C
  class_in c [] b = c
  class_in c (p ∷ ps) b = when bit p.mask b is 1 then p.class else class_in c ps b

  unfoldable pub row_at : Map C → ℕ → Row C
  row_at m i = row_in m.rows i

  -- bit j of byte i
  unfoldable pub class_at : Map C → ℕ → ℕ → C
  class_at m i j = class_in m.unlisted (row_at m i).rule (8 * (i - (row_at m i).at) + j)

  -- ---- the tables, a byte a place

  -- the bits of byte i whose class passes
  abbrev pub mask_at : Map C → (C → Bool) → ℕ → ℕ
  mask_at m f i = byte_of (λ (j : ℕ). mark (f (class_at m i j)))

  unfoldable pub table_of : Map C → (C → Bool) → List ℕ
  table_of m f = bytes (mask_at m f)

  -- values are little-endian
  abbrev pub default_in : Row C → ℕ → ℕ
  default_in r i = r.default / 256 ^ (i - r.at) % 256

  unfoldable pub defaults : Map C → List ℕ
  defaults m = bytes (λ (i : ℕ). default_in (row_at m i) i)

  abbrev pub default_bit : Map C → ℕ → ℕ → ℕ
  default_bit m i j = bit (get_or (defaults m) i 0) j

  -- ---- a map that is in order: rows ascend and end by byte 256, defaults and masks lie within their registers, no bit stands in two parts

  abbrev pub parts_of : Rule C → ℕ → ℕ
  parts_of [] b = 0
  parts_of (p ∷ ps) b = bit p.mask b + parts_of ps b

  abbrev pub within : ℕ → Rule C → Bool
  within n [] = true
  within n (p ∷ ps) = p.mask <? 256 ^ n and within n ps

  abbrev pub in_order : ℕ → List (Row C) → Bool
  in_order at [] = at ≤? 256
  in_order at (r ∷ rs) = at ≤? r.at and r.default <? 256 ^ r.size and within r.size r.rule and all_below (8 * r.size) (λ (b : ℕ). parts_of r.rule b ≤? 1) and in_order (r.at + r.size) rs

  -- in how many rows byte i stands, and in how many parts of them its bit j
  abbrev pub rows_at : List (Row C) → ℕ → ℕ
  rows_at [] i = 0
  rows_at (r ∷ rs) i = mark (has r i) + rows_at rs i

  abbrev pub parts_at : List (Row C) → ℕ → ℕ → ℕ
  parts_at [] i j = 0
  parts_at (r ∷ rs) i j = (when has r i then parts_of r.rule (8 * (i - r.at) + j) else 0) + parts_at rs i j

  -- every class that the map names passes
  abbrev pub each_part : (C → Bool) → Rule C → Bool
  each_part f [] = true
  each_part f (p ∷ ps) = f p.class and each_part f ps

  abbrev pub each_row : (C → Bool) → List (Row C) → Bool
  each_row f [] = true
  each_row f (r ∷ rs) = each_part f r.rule and each_row f rs

  abbrev pub every_class : Map C → (C → Bool) → Bool
  every_class m f = f m.unlisted and each_row f m.rows
