-- Every row of W-201's table holds of the check, and a good sheet's tables have its bytes: antt computes them.
use mathlib.Core.Path.{refl}
use Rattle.bits.specs.Choice.{first}
use Rattle.sheet.specs.Sheet.{end_before, belongs}
use Rattle.sheet.specs.Reads.{byte_is, body_is}
use Rattle.sheet_rules.specs.Check.{placed, total_of, check_of}
use Rattle.sheet_rules.specs.Tables.{cell_in, tables_of}
use Rattle.sheet_rules.specs.Rows.{rows, Rows}

pub rows_hold : Rows
unfolding first end_before belongs byte_is body_is placed total_of check_of cell_in tables_of rows
rows_hold = record { answers = refl; numbers = refl; defaults = refl; guests = refl; hosts = refl; resets = refl; refused = refl }
