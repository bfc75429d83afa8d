-- The host updates a mirror.
use Rattle.std.proofs.Common.{ℕ, sym, ap, ◌∙◌}
use Rattle.rules.specs.Window.{beyond, mirror_update_of}
use Rattle.mmio_host.proofs.mirror_update.Goals as goal

pub returns-then-bad_offset : goal.returns-then-bad_offset
unfolding mirror_update_of
returns-then-bad_offset c = rw (sym c.bad_offset.ensures ∙ c.if-bad_offset.true)

pub returns-then-outside : goal.returns-then-outside
unfolding mirror_update_of
returns-then-outside c =
    let a = c.args in
    let far = ap (λ (k : ℕ). beyond k a.mask) (sym c.mask_at.ensures) ∙ sym c.outside.ensures ∙ c.if-outside.true in
    rw (sym c.bad_offset.ensures ∙ c.if-bad_offset.false, far)

pub returns : goal.returns
unfolding mirror_update_of
returns c =
    let a = c.args in
    let near = ap (λ (k : ℕ). beyond k a.mask) (sym c.mask_at.ensures) ∙ sym c.outside.ensures ∙ c.if-outside.false in
    rw (sym c.bad_offset.ensures ∙ c.if-bad_offset.false, near, c.mirror-t.ensures)
