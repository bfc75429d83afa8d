-- A bit outside a mask.
use Rattle.bits.proofs.Laws.{some_outside}
use Rattle.rules.specs.Window.{beyond}
use Rattle.mmio_host.proofs.outside.Goals as goal

pub returns : goal.returns
unfolding beyond
returns c = let a = c.args in rw c.blend32.ensures (some_outside 32 a.mask a.m)
