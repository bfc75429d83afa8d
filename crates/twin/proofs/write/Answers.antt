-- A guest write by value: the write over its bytes comes to the rule.
use mathlib.Core.Path.{◌≡◌, ap, ◌∙◌}
use Prim.Native.Nat.{ℕ}
use lib.ListN.{length, get_or}
use mir.Syntax.{w8}
use mir.Val.{Fits}
use Rattle.guest_write.proofs.Bridge.{whole, write_is}
use borrow.Author.Rules.{rules}
use Rattle.twin.proofs.write.Goals as goal

pub returns : goal.returns
returns c =
    let a = c.args in
    let s = a.s in
    let n : length s.bytes ≡ 256 = search rules in
    let fits : (i : ℕ) → Fits w8 (get_or s.bytes i 0) = λ i. search rules in
    ap (whole s n (λ i. (fits i).fits)) c.write-answer.ensures ∙ rw c.all_guests-guest.ensures (write_is s n (λ i. (fits i).fits) a.offset a.lanes a.value)
