-- The entries in order: the first that is not good decides; behind the last, where the bodies end.
use Rattle.std.proofs.Common.{◌≡◌, ◌+◌, ◌-◌, ◌*◌, ◌≤◌, Ok, is_ok}
use Rattle.bits.specs.Choice.{first}
use Rattle.sheet.specs.Sheet.{end_before, belongs}
use Rattle.sheet_rules.specs.Check.{entry_of, first_of}
use Rattle.sheet_check.proofs.walk_entries.Given as goal

abbrev pub invariant-loop-k : goal.invariant-loop-k
invariant-loop-k l = record {
  before : l.end ≡ end_before l.s l.k;
  behind : l.place ≡ belongs l.s l.k;
  small : l.place ≤ 4 * l.n + 1 + 1020 * l.k;
  first : first_of (entry_of l.s) l.n ≡ first is_ok (Ok tt) (entry_of l.s) (l.n - l.k) l.k;
}
