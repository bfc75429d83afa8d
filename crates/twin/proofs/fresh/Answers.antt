-- The fresh state: defaults, latch 0, fields open, not busy, the window clear.
use Rattle.rules.specs.Fresh.{fresh_of}
use Rattle.twin.proofs.fresh.Goals as goal

pub returns : goal.returns
unfolding fresh_of
returns c = cc
