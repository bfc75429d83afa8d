-- A guest write by value: the write over its bytes comes to the rule.
use mathlib.Core.Path.{◌≡◌, ◌∙◌}
use Prim.Native.Nat.{ℕ}
use lib.ListN.{length, get_or}
use mir.Syntax.{w8}
use mir.Val.{Fits}
use Rattle.plain_device.proofs.Bridge.{write_is}
use borrow.Author.Rules.{rules}
use Rattle.plain_device.proofs.write.Goals as goal

pub returns : goal.returns
returns c =
    let a = c.args in
    let n : length a.s.bytes ≡ 256 = search rules in
    let fits : (i : ℕ) → Fits w8 (get_or a.s.bytes i 0) = λ i. search rules in
    c.write_in-answer.ensures ∙ write_is a.s.bytes (λ i. (fits i).fits) n a.guests.now a.offset a.lanes a.value
