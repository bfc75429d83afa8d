-- A byte of a part, from the last entry down to the first.
use Rattle.std.proofs.Common.{◌≡◌}
use Rattle.sheet.specs.Sheet.{entries}
use Rattle.sheet.specs.Reads.{part_no}
use Rattle.sheet_rules.specs.Tables.{raw_in}
use Rattle.sheet_load.proofs.cell.Given as goal

abbrev pub invariant-loop-k : goal.invariant-loop-k
invariant-loop-k l = raw_in l.s (part_no l.fn.part) l.i (entries l.s) ≡ raw_in l.s (part_no l.fn.part) l.i l.k
