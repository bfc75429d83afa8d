-- A read by value: the read over its bytes comes to the rule.
use mathlib.Core.Path.{◌∙◌}
use Prim.Native.Nat.{ℕ}
use lib.ListN.{get_or}
use mir.Syntax.{w8}
use mir.Val.{Fits}
use Rattle.guest_read.proofs.Bridge.{read_is}
use borrow.Author.Rules.{rules}
use Rattle.twin.proofs.read.Goals as goal

pub returns : goal.returns
returns c =
    let a = c.args in
    let s = a.s in
    let fits : (i : ℕ) → Fits w8 (get_or s.bytes i 0) = λ i. search rules in
    c.read.ensures ∙ read_is s (λ i. (fits i).fits) a.offset a.lanes
