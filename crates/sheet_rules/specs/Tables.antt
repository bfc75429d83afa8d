-- The device that a sheet describes: its four tables, byte by byte. A byte that no entry lists has 0 in each.
use Rattle.std.specs.Prelude.{List, Bool, ℕ, zero, suc, ◌+◌, ◌-◌, ◌*◌, is_ok}
use Rattle.bits.specs.Choice.{when◌then◌else◌}
use Rattle.bits.specs.Places.{bytes}
use Rattle.plain_device.specs.declared.Tables.{Tables}
use Rattle.sheet.specs.Sheet.{at, entries, offset_of, length_of, start_of, body_of, part_of, DEFAULT, GUEST, HOST, RESET}
use Rattle.sheet.specs.Reads.{covers}
use Rattle.sheet_rules.specs.Check.{check_of}

-- entry k has byte i of the device
abbrev pub has : List ℕ → ℕ → ℕ → Bool
has s k i = covers (offset_of s k) (length_of s k) i

-- byte i of part p, from the body of the entry that has it; of the first n entries
unfoldable pub cell_in : List ℕ → ℕ → ℕ → ℕ → ℕ
cell_in s p i zero = 0
cell_in s p i (suc k) = when has s k i then part_of (body_of s k) p (i - offset_of s k) else cell_in s p i k

abbrev pub table_of : List ℕ → ℕ → List ℕ
table_of s p = bytes (λ (i : ℕ). cell_in s p i (entries s))

abbrev pub tables : (ℕ → List ℕ) → Tables
tables f = record { defaults = f DEFAULT; guests = f GUEST; hosts = f HOST; resets = f RESET }

-- a sheet that is refused gives zeros
unfoldable pub tables_of : List ℕ → Tables
tables_of s = when is_ok (check_of s) then tables (table_of s) else tables (λ (p : ℕ). bytes (λ (i : ℕ). 0))

-- ---- as the code finds it: at its place in the sheet

unfoldable pub raw_in : List ℕ → ℕ → ℕ → ℕ → ℕ
raw_in s p i zero = 0
raw_in s p i (suc k) = when has s k i then at s (start_of s k + p * length_of s k + (i - offset_of s k)) else raw_in s p i k
