-- A fault word where none is held.
use Rattle.std.proofs.Common.{◌≡◌, sym, ◌∙◌, ne_eqb}
use Rattle.bits.specs.Bits.{bit}
use Rattle.rules.specs.Window.{faulted}
use Rattle.mmio.proofs.Bridge.{bit_first}
use Rattle.mmio_host.proofs.Recorded.{recorded_is}
use Rattle.mmio_host.proofs.kept.Goals as goal

pub returns-then-x-eq0 : goal.returns-then-x-eq0
unfolding faulted
returns-then-x-eq0 c =
    let a = c.args in
    let free : bit a.x 0 ≡ 0 = bit_first a.x ∙ c.if-x-eq0.true in
    rw free (c.blend32.ensures ∙ recorded_is a.word)

pub returns : goal.returns
unfolding faulted
returns c =
    let x = c.args.x in
    rw (ne_eqb (bit x 0) 0 (λ e. c.if-x-eq0.false (sym (bit_first x) ∙ e)))
