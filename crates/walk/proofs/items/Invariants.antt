-- `items` gives what the rule says: from each pointer on, with the items left, it is the rule from the first.
use mathlib.Core.Path.{◌≡◌}
use Prim.Native.Nat.{◌≤◌, ◌<◌, ◌-◌}
use Rattle.walk.specs.Walk.{walk_from, most}
use Rattle.walk.proofs.items.Given as goal

abbrev pub invariant-loop-at : goal.invariant-loop-at
invariant-loop-at l = (l.n ≤ most) × (l.p < 256) × (walk_from (most - l.n) l.s l.want l.p l.n ≡ walk_from most l.s l.want l.first 0)

abbrev pub decreases-loop-at : goal.decreases-loop-at
decreases-loop-at l = most - l.n
