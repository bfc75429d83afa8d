-- Demand 3's read-only clause for the device of a sheet, and that unlisted bytes hold 0 and read 0.
use mathlib.Core.Path.{◌≡◌, refl, sym, ap, ◌∙◌}
use mathlib.Core.List.{List}
use mathlib.Core.Bool.{Bool, true, false, not}
use Prim.Native.Nat.{ℕ, ◌+◌, ◌<◌}
use native.Mathlib.Omega.{arith}
use lib.Dec.{eqb}
use Rattle.std.specs.Prelude.{is_ok}
use lib.ListN.{get_or}
use Rattle.bits.specs.Bits.{bit, byte_of}
use Rattle.bits.specs.Choice.{pick, both}
use Rattle.bits.specs.Places.{bytes}
use Rattle.bits.proofs.Laws.{bit<2, bit_zero, number_ext, number_none}
use Rattle.bits.proofs.Below.{any_none, unmasked}
use Rattle.bits.proofs.Places.{get_or_bytes}
use Rattle.answer.specs.Refusals.{Reply, ok, no, OFFSET, LANES, number, value}
use Rattle.access.specs.Access.{bad_offset, bad_lanes, byte_for}
use Rattle.plain.specs.Plain.{held, under, shown_value}
use Rattle.access.proofs.Access.{good_offset}
use Rattle.rules.proofs.Lanes.{in_lanes}
use Rattle.plain_device.specs.Device.{read_of}
use Rattle.plain_device.specs.ReadOnly.{Inside, run}
use Rattle.plain_device.proofs.ReadOnly as D
use Rattle.sheet.specs.Sheet.{entries, DEFAULT, GUEST, HOST, RESET, good_sheet}
use Rattle.sheet_rules.specs.Check.{check_of}
use Rattle.sheet_rules.specs.Tables.{cell_in, table_of, tables, tables_of}
use Rattle.sheet_rules.specs.Demand3.{ReadOnly, Unlisted, UnlistedRead}
use Rattle.sheet_rules.proofs.Checked.{check_good}
use Rattle.sheet_rules.proofs.Cells.{cells_inside, unlisted_cell}

-- ---- a table's byte

cell_at : (s : List ℕ) (p i : ℕ) → i < 256 → get_or (table_of s p) i 0 ≡ cell_in s p i (entries s)
cell_at s p i h = get_or_bytes (λ (i : ℕ). cell_in s p i (entries s)) i h

zero_at : (i j : ℕ) → i < 256 → under (bytes (λ (i : ℕ). 0)) i j ≡ false
zero_at i j h = rw (get_or_bytes (λ (i : ℕ). 0) i h, bit_zero j)

good_inside : (s : List ℕ) → good_sheet s ≡ true → Inside (tables (table_of s))
good_inside s g i j h k n =
    let guest : eqb (bit (cell_in s GUEST i (entries s)) j) 1 ≡ false = rw (cell_at s GUEST i h) at n in
    let apart = any_none 8 (λ (j : ℕ). both (eqb (bit (cell_in s RESET i (entries s)) j) 1) (not (eqb (bit (cell_in s GUEST i (entries s)) j) 1))) (cells_inside s g i (entries s) (omega arith)) j k in
    rw (cell_at s RESET i h) (unmasked (eqb (bit (cell_in s RESET i (entries s)) j) 1) (eqb (bit (cell_in s GUEST i (entries s)) j) 1) apart guest)

-- a sheet that is refused gives zeros, which lie inside one another
pub inside : (s : List ℕ) → Inside (tables_of s)
unfolding tables_of
inside s i j h k n = go (is_ok (check_of s)) refl n
  where
    go : (b : Bool) → is_ok (check_of s) ≡ b → under (pick b (tables (table_of s)) (tables (λ (p : ℕ). bytes (λ (i : ℕ). 0)))).guests i j ≡ false → under (pick b (tables (table_of s)) (tables (λ (p : ℕ). bytes (λ (i : ℕ). 0)))).resets i j ≡ false
    go true e n = good_inside s (sym (check_good s) ∙ e) i j h k n
    go false e n = zero_at i j h

pub read_only_lem : ReadOnly
read_only_lem s = D.read_only_lem (tables_of s) (inside s)

good_tables : (s : List ℕ) → is_ok (check_of s) ≡ true → tables_of s ≡ tables (table_of s)
unfolding tables_of
good_tables s e = rw e

pub unlisted : Unlisted
unlisted s g es i j h k none =
    let t : tables_of s ≡ tables (table_of s) = good_tables s (check_good s ∙ g) in
    let zero : (p : ℕ) → get_or (table_of s p) i 0 ≡ 0 = λ p. cell_at s p i h ∙ unlisted_cell s p i (entries s) none in
    D.default_holds (tables_of s) (inside s) es i j h k (rw (t, zero GUEST, bit_zero j)) (rw (t, zero HOST, bit_zero j)) ∙ rw (t, zero DEFAULT, bit_zero j)

pub unlisted_read : UnlistedRead
unfolding read_of
unlisted_read s g es o l v k e h on none = go (bad_offset o) (bad_lanes l) refl e
  where
    zero : bad_offset o ≡ false → byte_of (held (run (tables_of s) es) (o + k)) ≡ 0
    zero p = number_ext 8 (held (run (tables_of s) es) (o + k)) (λ (j : ℕ). 0) (λ j q. unlisted s g es (o + k) j (omega (arith, (good_offset o p).0)) q none) ∙ number_none 8

    go : (a b : Bool) → bad_offset o ≡ a → pick a (no OFFSET) (pick b (no LANES) (ok (shown_value (held (run (tables_of s) es)) o l))) ≡ ok v → byte_for o v (o + k) ≡ 0
    go true b p r = absurd (omega (arith, ap number r))
    go false true p r = absurd (omega (arith, ap number r))
    go false false p r = ap (λ (x : Reply). byte_for o (value x) (o + k)) (sym r) ∙ in_lanes (held (run (tables_of s) es)) o l k (λ i j. bit<2 _ j) h ∙ rw on (zero p)
