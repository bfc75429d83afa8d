-- Demand 3's read-only clause of every session on a sheet's device, `Z` among its lines: of every slice of bytes, good sheet or not.
use Rattle.std.specs.Prelude.{List, ℕ}
use Rattle.sheet_rules.specs.Tables.{tables_of}
use Rattle.sheet_step.specs.Events as E

abbrev pub ReadOnly : Type 0
ReadOnly = (s : List ℕ) → E.ReadOnly (tables_of s)
