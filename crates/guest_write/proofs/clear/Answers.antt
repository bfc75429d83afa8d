-- The aperture bits that the size code takes are cleared.
use Rattle.guest_write.specs.Bytes.{cleared_bytes}
use Rattle.guest_write.proofs.clear.Goals as goal

pub returns : goal.returns
unfolding cleared_bytes
returns c = cc
