-- A mirror's mask.
use Rattle.bits.proofs.Tests.{tests}
use Rattle.rules.specs.Window.{mirror_mask}
use Rattle.mmio_host.proofs.mask_at.Goals as goal

pub returns-then-o-eq-MTOUUD : goal.returns-then-o-eq-MTOUUD
unfolding mirror_mask
returns-then-o-eq-MTOUUD c = search tests

pub returns-then-o-eq-MTOUUD_HIGH : goal.returns-then-o-eq-MTOUUD_HIGH
unfolding mirror_mask
returns-then-o-eq-MTOUUD_HIGH c = search tests

pub returns-then-o-eq-MBDSM : goal.returns-then-o-eq-MBDSM
unfolding mirror_mask
returns-then-o-eq-MBDSM c = search tests

pub returns : goal.returns
unfolding mirror_mask
returns c = search tests
