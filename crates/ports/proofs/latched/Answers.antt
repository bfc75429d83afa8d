-- The latch that a write leaves.
use mathlib.Core.Path.{◌∙◌}
use Rattle.ports.proofs.Data.{latch_is}
use Rattle.ports.proofs.latched.Goals as goal

pub returns : goal.returns
returns c = c.blend32.ensures ∙ latch_is c.args.value
