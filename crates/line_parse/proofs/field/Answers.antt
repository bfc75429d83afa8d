-- A space and the number behind it.
use mathlib.Core.Path.{sym}
use Rattle.bits.proofs.Tests.{tests}
use Rattle.line_forms.proofs.Forms.{field_none, field_some}
use Rattle.line_parse.proofs.field.Goals as goal

pub returns-then-s-i-ne32 : goal.returns-then-s-i-ne32
returns-then-s-i-ne32 c = let h = c.if-k-eq0.false in rw (field_some _ _ _ h) (search tests)

pub returns : goal.returns
returns c = let h = c.if-k-eq0.false in rw (field_some _ _ _ h) (search (tests, c.number.ensures))

pub returns-then-k-eq0 : goal.returns-then-k-eq0
returns-then-k-eq0 c = sym (field_none _ _ _ c.if-k-eq0.true)
