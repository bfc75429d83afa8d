-- A host update by value: the update over its bytes comes to the rule.
use mathlib.Core.Path.{◌≡◌, ap, ◌∙◌}
use Prim.Native.Nat.{ℕ}
use lib.ListN.{length, get_or}
use mir.Syntax.{w8}
use mir.Val.{Fits}
use Rattle.host_updates.proofs.Bridge.{whole, update_is}
use borrow.Author.Rules.{rules}
use Rattle.twin.proofs.host_update.Goals as goal

pub returns : goal.returns
returns c =
    let a = c.args in
    let s = a.s in
    let n : length s.bytes ≡ 256 = search rules in
    let fits : (i : ℕ) → Fits w8 (get_or s.bytes i 0) = λ i. search rules in
    ap (whole s n (λ i. (fits i).fits)) c.host_update-answer.ensures ∙ rw c.all_hosts-host.ensures (update_is s n (λ i. (fits i).fits) a.offset a.mask a.value)
