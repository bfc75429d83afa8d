-- Another bus, device or function.
use Rattle.bits.proofs.Tests.{tests}
use Rattle.rules.specs.Ports.{other_function}
use Rattle.ports.proofs.other_function.Goals as goal

pub returns-then-latch-eq0-2 : goal.returns-then-latch-eq0-2
unfolding other_function
returns-then-latch-eq0-2 c = search tests

pub returns-else-latch-eq0-2 : goal.returns-else-latch-eq0-2
unfolding other_function
returns-else-latch-eq0-2 c = search tests

pub returns-else-latch-eq2 : goal.returns-else-latch-eq2
unfolding other_function
returns-else-latch-eq2 c = search tests

pub returns-else-latch-eq0 : goal.returns-else-latch-eq0
unfolding other_function
returns-else-latch-eq0 c = search tests
