-- A line, by the rows of any table.
use mathlib.Core.Path.{sym, ◌∙◌}
use native.Mathlib.Omega.{arith}
use borrow.Author.Tests.{ltb-false}
use lib.ListN.{length}
use Rattle.std.specs.Prelude.{None}
use Rattle.line_forms.proofs.Exactly.{read_empty}
use Rattle.line_parse.proofs.Found.{no_row, row_bounded, no_numbers, numbers_ask, numbers_in_range}
use Rattle.line_parse.proofs.read.Goals as goal

pub returns-in_err-letter : goal.returns-in_err-letter
returns-in_err-letter g c = rw c.from_residual.ensures (read_empty None g.T.Table.rows c.args.l.now g.T.Table.lettered (omega (arith, ltb-false 0 (length c.args.l.now) (sym c.in_err-letter.ensures.item.0))))

pub returns-in_err-row : goal.returns-in_err-row
returns-in_err-row g c = rw c.from_residual-in_err-row.ensures (no_row None g.T.Table.rows c.args.l.now _ (c.in_ok-letter.ensures.item.3.1 0) c.in_err-row.ensures)

pub fields-requires : goal.fields-requires
fields-requires g c = (row_bounded None g.T.Table.rows c.args.l.now _ (c.in_ok-letter.ensures.item.3.1 0) _ c.in_ok-row.ensures g.T.Table.held, c.in_ok-letter.ensures.item.3.0)

pub returns-in_err-x : goal.returns-in_err-x
returns-in_err-x g c = rw c.from_residual-in_err-x.ensures (no_numbers None g.T.Table.rows c.args.l.now _ (c.in_ok-letter.ensures.item.3.1 0) _ c.in_ok-row.ensures c.in_err-x.ensures)

pub asks-requires : goal.asks-requires
asks-requires g c = numbers_in_range None g.T.Table.rows c.args.l.now _ (c.in_ok-letter.ensures.item.3.1 0) _ c.in_ok-row.ensures _ _ _ c.in_ok-x.ensures

pub returns : goal.returns
returns g c = c.asks.ensures ∙ numbers_ask None g.T.Table.rows c.args.l.now _ (c.in_ok-letter.ensures.item.3.1 0) _ c.in_ok-row.ensures _ _ _ c.in_ok-x.ensures
