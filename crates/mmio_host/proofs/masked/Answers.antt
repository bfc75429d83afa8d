-- Bits under a mask.
use Rattle.std.proofs.Common.{◌∙◌}
use Rattle.bits.proofs.Laws.{blend_each}
use Rattle.rules.specs.Window.{masked}
use Rattle.mmio_host.proofs.masked.Goals as goal

pub returns : goal.returns
unfolding masked
returns c = let a = c.args in c.blend32.ensures ∙ blend_each 32 a.m a.x a.value
