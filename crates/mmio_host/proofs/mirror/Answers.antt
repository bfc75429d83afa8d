-- An update by its offset.
use Rattle.bits.proofs.Tests.{tests}
use Rattle.rules.specs.Window.{mirrored}
use Rattle.mmio_host.proofs.mirror.Goals as goal

pub returns-then-o-eq-MTOUUD : goal.returns-then-o-eq-MTOUUD
unfolding mirrored
returns-then-o-eq-MTOUUD c = search (tests, c.masked.ensures)

pub returns-then-o-eq-MTOUUD_HIGH : goal.returns-then-o-eq-MTOUUD_HIGH
unfolding mirrored
returns-then-o-eq-MTOUUD_HIGH c = search (tests, c.masked-then-o-eq-MTOUUD_HIGH.ensures)

pub returns-then-o-eq-MBDSM : goal.returns-then-o-eq-MBDSM
unfolding mirrored
returns-then-o-eq-MBDSM c = search (tests, c.masked-then-o-eq-MBDSM.ensures)

pub returns : goal.returns
unfolding mirrored
returns c = search tests
