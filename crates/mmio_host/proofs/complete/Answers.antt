-- The host completes requests.
use Rattle.std.proofs.Common.{sym, ◌∙◌}
use Rattle.rules.specs.Window.{complete_of}
use Rattle.mmio_host.proofs.complete.Goals as goal

pub returns-then-outside : goal.returns-then-outside
unfolding complete_of
returns-then-outside c = rw (sym c.outside.ensures ∙ c.if-outside.true)

pub returns : goal.returns
unfolding complete_of
returns c = rw (sym c.outside.ensures ∙ c.if-outside.false, c.masked-x.ensures)
