-- A read by value: the read over its bytes comes to the rule.
use mathlib.Core.Path.{◌≡◌, ◌∙◌}
use Prim.Native.Nat.{ℕ}
use lib.ListN.{length, get_or}
use mir.Syntax.{w8}
use mir.Val.{Fits}
use Rattle.plain_device.proofs.Bridge.{read_is}
use borrow.Author.Rules.{rules}
use Rattle.plain_device.proofs.read.Goals as goal

pub returns : goal.returns
returns c =
    let a = c.before.args in
    let n : length a.s.bytes ≡ 256 = search rules in
    let fits : (i : ℕ) → Fits w8 (get_or a.s.bytes i 0) = λ i. search rules in
    c.read_in.ensures ∙ read_is a.s.bytes (λ i. (fits i).fits) a.offset a.lanes
