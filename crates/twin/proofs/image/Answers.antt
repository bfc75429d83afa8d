-- The bytes as a guest reads them: the image over the state's bytes comes to the rule.
use mathlib.Core.Path.{◌≡◌, ◌∙◌}
use Prim.Native.Nat.{ℕ}
use lib.ListN.{length, get_or}
use mir.Syntax.{w8}
use mir.Val.{Fits}
use Rattle.guest_read.proofs.Bridge.{image_is}
use borrow.Author.Rules.{rules}
use Rattle.twin.proofs.image.Goals as goal

pub returns : goal.returns
returns c =
    let s = c.args.s in
    let n : length s.bytes ≡ 256 = search rules in
    let fits : (i : ℕ) → Fits w8 (get_or s.bytes i 0) = λ i. search rules in
    c.image.ensures ∙ image_is s (λ i. (fits i).fits) n
