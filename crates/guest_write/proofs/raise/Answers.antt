-- A flag after a write.
use Rattle.bits.proofs.Tests.{tests}
use Rattle.guest_write.specs.Bytes.{raised_of}
use Rattle.guest_write.proofs.raise.Goals as goal

pub returns-then-hit-eq0 : goal.returns-then-hit-eq0
unfolding raised_of
returns-then-hit-eq0 c = search tests

pub returns-then-was-eq0 : goal.returns-then-was-eq0
unfolding raised_of
returns-then-was-eq0 c = search tests

pub returns-else-was-eq0 : goal.returns-else-was-eq0
unfolding raised_of
returns-else-was-eq0 c = search tests

pub returns-else-o-at : goal.returns-else-o-at
unfolding raised_of
returns-else-o-at c = search tests
