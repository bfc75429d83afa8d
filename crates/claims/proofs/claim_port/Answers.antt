-- Which window claims a port: none where I/O is not enabled or the power is off, else the window that holds it.
use Prim.Native.Nat.{ℕ}
use native.Mathlib.Nat.{div-one}
use lib.ListN.{get_or}
use mir.Syntax.{w8}
use mir.Val.{Fits}
use Rattle.bits.proofs.Tests.{tests}
use Rattle.rules.specs.Claims.{io_claim_of}
use Rattle.claims.proofs.Bases.{io_is}
use borrow.Author.Rules.{rules}
use Rattle.claims.proofs.claim_port.Goals as goal

pub returns-then-t-eq0 : goal.returns-then-t-eq0
unfolding io_claim_of
returns-then-t-eq0 c = search (tests, div-one)

pub returns-then-off : goal.returns-then-off
unfolding io_claim_of
returns-then-off c = search (tests, div-one, ← c.off.ensures, c.if-off.true)

pub returns : goal.returns
returns c =
    let s = c.args.s in
    let fits : (i : ℕ) → Fits w8 (get_or s.bytes i 0) = λ i. search rules in
    search (tests, div-one, io_is s (λ i. (fits i).fits), ← c.off.ensures, c.if-off.false, c.io.ensures)
