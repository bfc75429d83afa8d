-- Neither the latch nor data, or data with latch bit 31 clear.
use mathlib.Core.Path.{sym, ◌∙◌}
use Rattle.bits.proofs.Tests.{tests}
use Rattle.rules.specs.Ports.{not_ours}
use Rattle.ports.proofs.not_ours.Goals as goal

pub returns-then-at_latch : goal.returns-then-at_latch
unfolding not_ours
returns-then-at_latch c =
    let e = sym c.at_latch.ensures ∙ c.if-at_latch.true in
    rw e

pub returns-then-latch-eq0 : goal.returns-then-latch-eq0
unfolding not_ours
returns-then-latch-eq0 c =
    let e = sym c.at_latch.ensures ∙ c.if-at_latch.false in
    let d = sym c.at_data.ensures ∙ c.if-at_data.true in
    rw (e, d) (search tests)

pub returns-then-at_data : goal.returns-then-at_data
unfolding not_ours
returns-then-at_data c =
    let e = sym c.at_latch.ensures ∙ c.if-at_latch.false in
    let d = sym c.at_data.ensures ∙ c.if-at_data.true in
    rw (e, d) (search tests)

pub returns : goal.returns
unfolding not_ours
returns c =
    let e = sym c.at_latch.ensures ∙ c.if-at_latch.false in
    let d = sym c.at_data.ensures ∙ c.if-at_data.false in
    rw (e, d)
