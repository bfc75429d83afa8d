-- The numbers of a line, one after the other.
use mathlib.Core.Path.{sym}
use borrow.Author.Tests.{eq-eqb}
use Rattle.bits.proofs.Tests.{tests}
use Rattle.line_forms.specs.Read.{numbers_of}
use Rattle.line_forms.proofs.Forms.{field_fits}
use Rattle.line_parse.proofs.fields.Goals as goal

pub returns-then-l-r : goal.returns-then-l-r
unfolding numbers_of
returns-then-l-r c = search tests

pub returns-in_err-x : goal.returns-in_err-x
unfolding numbers_of
returns-in_err-x c = rw (c.from_residual.ensures, eq-eqb _ _ c.if-l-r.false, sym c.in_err-x.ensures)

pub returns-in_err-y : goal.returns-in_err-y
unfolding numbers_of
returns-in_err-y c =
    rw (c.from_residual-in_err-y.ensures, eq-eqb _ _ c.if-l-r.false, sym c.in_ok-x.ensures, rw c.width-i.ensures at (sym c.in_err-y.ensures))

pub returns-in_err-z : goal.returns-in_err-z
unfolding numbers_of
returns-in_err-z c =
    rw (c.from_residual-in_err-z.ensures, eq-eqb _ _ c.if-l-r.false, sym c.in_ok-x.ensures, rw c.width-i.ensures at (sym c.in_ok-y.ensures), rw (c.width-i.ensures, c.width.ensures) at (sym c.in_err-z.ensures))

pub overflow_cast-result : goal.overflow_cast-result
overflow_cast-result c = record { fits = field_fits _ _ _ _ c.requires.0.second (sym c.in_ok-y.ensures) }

pub overflow_cast-result-2 : goal.overflow_cast-result-2
overflow_cast-result-2 c = record { fits = field_fits _ _ _ _ c.requires.0.third (sym c.in_ok-z.ensures) }

pub returns : goal.returns
unfolding numbers_of
returns c =
    rw (eq-eqb _ _ c.if-l-r.false, sym c.in_ok-x.ensures, rw c.width-i.ensures at (sym c.in_ok-y.ensures), rw (c.width-i.ensures, c.width.ensures) at (sym c.in_ok-z.ensures))
