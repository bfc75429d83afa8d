-- For every map: a table's bit is set exactly where the class passes, a byte past the map is unlisted, and what holds of each row's classes holds of each bit's.
use mathlib.Core.Path.{◌≡◌, refl}
use mathlib.Core.List.{List, [], ◌∷◌}
use mathlib.Core.Bool.{Bool}
use Prim.Native.Nat.{ℕ, ◌+◌, ◌*◌, ◌<◌, ◌≤◌, ◌^◌}
use native.Mathlib.Omega.{arith}
use lib.Dec.{T, leb, ltb, eqb, leb→le}
use lib.ListN.{get_or}
use borrow.Author.Tests.{le-ltb}
use Rattle.bits.specs.Bits.{bit}
use Rattle.bits.specs.Choice.{both, mark, all_below}
use Rattle.bits.proofs.Laws.{bit_number}
use Rattle.bits.proofs.Below.{below, both_left, both_right, both_off, mark<2, mark_is, pick_has}
use Rattle.bits.proofs.Places.{get_or_bytes}
use Rattle.any_map.specs.Map.{Rule, Row, Map, row, has, row_in, class_in, row_at, class_at, mask_at, table_of, default_in, defaults, parts_of, rows_at, parts_at, within, in_order, each_part, each_row, every_class}

module _ {C : Type 0} (m : Map C) where
  -- a mask's bit is set exactly if the class of the bit passes
  pub mask_bit : (f : C → Bool) (i j : ℕ) → j < 8 → bit (mask_at m f i) j ≡ mark (f (class_at m i j))
  mask_bit f i j k = bit_number 8 (λ (j : ℕ). mark (f (class_at m i j))) (λ j. mark<2 (f (class_at m i j))) j k

  pub table_at : (f : C → Bool) (i : ℕ) → i < 256 → get_or (table_of m f) i 0 ≡ mask_at m f i
  unfolding table_of
  table_at f i h = get_or_bytes (mask_at m f) i h

  pub table_bit : (f : C → Bool) (i j : ℕ) → i < 256 → j < 8 → bit (get_or (table_of m f) i 0) j ≡ mark (f (class_at m i j))
  table_bit f i j h k = rw (table_at f i h) (mask_bit f i j k)

  -- as a test
  pub table_has : (f : C → Bool) (i j : ℕ) → i < 256 → j < 8 → eqb (bit (get_or (table_of m f) i 0) j) 1 ≡ f (class_at m i j)
  table_has f i j h k = rw (table_bit f i j h k) (mark_is (f (class_at m i j)))

  pub default_at_lem : (i : ℕ) → i < 256 → get_or (defaults m) i 0 ≡ default_in (row_at m i) i
  unfolding defaults
  default_at_lem i h = get_or_bytes (λ (i : ℕ). default_in (row_at m i) i) i h

-- ---- each bit has one class, by one test that antt computes: at most one part of one row has it

module _ {C : Type 0} (rs : List (Row C)) where
  abbrev pub one_at : ℕ → Bool
  one_at i = both (leb (rows_at rs i) 1) (all_below 8 (λ (j : ℕ). leb (parts_at rs i j) 1))

  module _ (all_one : T (all_below 256 one_at)) where
    pub one_row : (i : ℕ) → i < 256 → rows_at rs i ≤ 1
    one_row i h = leb→le (rows_at rs i) 1 (both_left (leb (rows_at rs i) 1) _ (below 256 one_at all_one i h))

    pub one_class : (i j : ℕ) → i < 256 → j < 8 → parts_at rs i j ≤ 1
    one_class i j h l = leb→le (parts_at rs i j) 1 (below 8 (λ (j : ℕ). leb (parts_at rs i j) 1) (both_right (leb (rows_at rs i) 1) _ (below 256 one_at all_one i h)) j l)

-- ---- a byte past the map

module _ {C : Type 0} where
  rest : (at : ℕ) (r : Row C) (rs : List (Row C)) → T (in_order at (r ∷ rs)) → T (in_order (r.at + r.size) rs)
  rest at r rs t = both_right (all_below (8 * r.size) (λ (b : ℕ). leb (parts_of r.rule b) 1)) _ (both_right (within r.size r.rule) _ (both_right (ltb r.default (256 ^ r.size)) _ (both_right (leb at r.at) _ t)))

  ends : (at : ℕ) (rs : List (Row C)) → T (in_order at rs) → at ≤ 256
  ends at [] t = leb→le at 256 t
  ends at (r ∷ rs) t = omega (arith, leb→le at r.at (both_left (leb at r.at) _ t), ends (r.at + r.size) rs (rest at r rs t))

  no_row : (at : ℕ) (rs : List (Row C)) → T (in_order at rs) → (i : ℕ) → 256 ≤ i → row_in rs i ≡ row i 1 0 []
  no_row at [] t i h = refl
  no_row at (r ∷ rs) t i h = rw (le-ltb i (r.at + r.size) (omega (arith, ends (r.at + r.size) rs (rest at r rs t))), both_off (leb r.at i)) (no_row (r.at + r.size) rs (rest at r rs t) i h)

  pub past_the_map : (m : Map C) → T (in_order 0 m.rows) → (i j : ℕ) → 256 ≤ i → class_at m i j ≡ m.unlisted
  unfolding class_at row_at
  past_the_map m t i j h = rw (no_row 0 m.rows t i h)

-- ---- a rule of classes, tested once for each part of each row, holds of every bit

module _ {C : Type 0} (f : C → Bool) where
  in_parts : (c : C) → T (f c) → (ps : Rule C) → T (each_part f ps) → (b : ℕ) → T (f (class_in c ps b))
  in_parts c u [] t b = u
  in_parts c u (p ∷ ps) t b = pick_has (λ (x : C). T (f x)) (eqb (bit p.mask b) 1) p.class (class_in c ps b) (both_left (f p.class) _ t) (in_parts c u ps (both_right (f p.class) _ t) b)

  in_rows : (rs : List (Row C)) → T (each_row f rs) → (i : ℕ) → T (each_part f (row_in rs i).rule)
  in_rows [] t i = tt
  in_rows (r ∷ rs) t i = pick_has (λ (x : Row C). T (each_part f x.rule)) (has r i) r (row_in rs i) (both_left (each_part f r.rule) _ t) (in_rows rs (both_right (each_part f r.rule) _ t) i)

  pub every_bit : (m : Map C) → T (every_class m f) → (i j : ℕ) → T (f (class_at m i j))
  unfolding class_at row_at
  every_bit m t i j = in_parts m.unlisted (both_left (f m.unlisted) _ t) (row_at m i).rule (in_rows m.rows (both_right (f m.unlisted) _ t) i) _
