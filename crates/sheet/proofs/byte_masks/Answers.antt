-- One byte of a body: the masks' shared and stray bits.
use mathlib.Core.Path.{sym}
use native.Mathlib.Omega.{arith}
use borrow.Author.Tests.{eq-eqb, ne_eqb}
use Rattle.bits.specs.Bits.{blend_k}
use Rattle.sheet.specs.Reads.{byte_is}
use Rattle.sheet.proofs.Masks.{shared_is, stray_is}
use Rattle.sheet.proofs.byte_masks.Goals as goal

pub returns-then-blend-ne0 : goal.returns-then-blend-ne0
unfolding byte_is
returns-then-blend-ne0 c =
    let a = c.args in
    rw (sym (shared_is a.guest a.host), ne_eqb (blend_k 8 a.guest 0 a.host) 0 (λ e. omega arith))

pub returns-then-blend-ne0-2 : goal.returns-then-blend-ne0-2
unfolding byte_is
returns-then-blend-ne0-2 c =
    let a = c.args in
    rw (sym (shared_is a.guest a.host), eq-eqb (blend_k 8 a.guest 0 a.host) 0 (omega arith), sym (stray_is a.reset a.guest), ne_eqb (blend_k 8 a.guest a.reset 0) 0 (λ e. omega arith))

pub returns : goal.returns
unfolding byte_is
returns c =
    let a = c.args in
    rw (sym (shared_is a.guest a.host), eq-eqb (blend_k 8 a.guest 0 a.host) 0 (omega arith), sym (stray_is a.reset a.guest), eq-eqb (blend_k 8 a.guest a.reset 0) 0 (omega arith))
