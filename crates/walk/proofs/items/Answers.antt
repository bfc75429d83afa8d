-- `items` gives what the rule says: from each pointer on, with the items left, it is the rule from the first.
use mathlib.Core.Path.{◌≡◌, sym, ◌∙◌}
use Prim.Native.Nat.{suc, ◌-◌, ◌+◌}
use native.Mathlib.Omega.{arith}
use Rattle.walk.specs.Walk.{most}
use Rattle.walk.proofs.Stops.{at_zero, at_pointer, at_endless, at_wanted, goes_on}
use Rattle.walk.proofs.items.Goals as goal

pub loop-at-preserved : goal.loop-at-preserved
loop-at-preserved c =
    let d = c.loop-at in
    let left : most - d.n ≡ suc (most - (d.n + 1)) = omega arith in
    (omega arith, (c.shared_slice_known-in-loop-at-1.given _).fits, sym (goes_on _ _ _ _ (λ z. omega arith) (omega arith) _ c.if-s-i.false) ∙ rw left at d.invariant.2)

pub returns-then-at-eq0 : goal.returns-then-at-eq0
returns-then-at-eq0 c = sym (at_zero _ _ _ _ _ (omega arith)) ∙ c.loop-at.invariant.2

pub returns-then-at-lt64 : goal.returns-then-at-lt64
returns-then-at-lt64 c = sym (at_pointer _ _ _ _ (λ z. omega arith) _ (omega arith)) ∙ c.loop-at.invariant.2

pub returns-then-n-eq-MOST : goal.returns-then-n-eq-MOST
returns-then-n-eq-MOST c =
    let d = c.loop-at in
    let left : most - d.n ≡ 0 = omega arith in
    sym (at_endless _ _ _ _ (λ z. omega arith) (omega arith)) ∙ rw left at d.invariant.2

pub returns-then-s-i : goal.returns-then-s-i
returns-then-s-i c =
    let d = c.loop-at in
    let left : most - d.n ≡ suc (most - (d.n + 1)) = omega arith in
    sym (at_wanted _ _ _ _ (λ z. omega arith) (omega arith) _ c.if-s-i.true) ∙ rw left at d.invariant.2
