-- A host update by value: the update over its bytes comes to the rule.
use mathlib.Core.Path.{◌≡◌, ◌∙◌}
use Prim.Native.Nat.{ℕ}
use lib.ListN.{length, get_or}
use mir.Syntax.{w8}
use mir.Val.{Fits}
use Rattle.plain_device.proofs.Bridge.{update_is}
use borrow.Author.Rules.{rules}
use Rattle.plain_device.proofs.host_update.Goals as goal

pub returns : goal.returns
returns c =
    let a = c.args in
    let n : length a.s.bytes ≡ 256 = search rules in
    let fits : (i : ℕ) → Fits w8 (get_or a.s.bytes i 0) = λ i. search rules in
    c.host_update-answer.ensures ∙ update_is a.s.bytes (λ i. (fits i).fits) n a.hosts.now a.offset a.mask a.value
