-- The host gives a fault word.
use Rattle.std.proofs.Common.{sym, ◌∙◌}
use Rattle.rules.specs.Window.{fault_of}
use Rattle.mmio_host.proofs.fault.Goals as goal

pub returns-then-outside : goal.returns-then-outside
unfolding fault_of
returns-then-outside c = rw (sym c.outside.ensures ∙ c.if-outside.true)

pub returns : goal.returns
unfolding fault_of
returns c = rw (sym c.outside.ensures ∙ c.if-outside.false, c.kept-x.ensures)
