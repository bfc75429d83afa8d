-- The walk's rule, at each of its four stops and on to the next item.
use mathlib.Core.Path.{◌≡◌}
use mathlib.Core.List.{List}
use Prim.Native.Nat.{ℕ, zero, suc, ◌+◌, ◌<◌, ◌≤◌}
use lib.ListN.{get_or}
use Rattle.bits.proofs.Tests.{tests}
use Rattle.answer.specs.Refusals.{POINTER, ENDLESS}
use Rattle.walk.specs.Walk.{absent, refused, found_at, dropped, walk_from}

module _ (s : List ℕ) (want p n : ℕ) where
  pub at_zero : (more : ℕ) → dropped p ≡ 0 → walk_from more s want p n ≡ absent n
  unfolding walk_from
  at_zero zero z = search tests
  at_zero (suc more) z = search tests

  module _ (nz : dropped p ≡ 0 → ⊥) where
    pub at_pointer : (more : ℕ) → dropped p < 0x40 → walk_from more s want p n ≡ refused POINTER n
    unfolding walk_from
    at_pointer zero low = search tests
    at_pointer (suc more) low = search tests

    module _ (high : 0x40 ≤ dropped p) where
      pub at_endless : walk_from 0 s want p n ≡ refused ENDLESS n
      unfolding walk_from
      at_endless = search tests

      pub at_wanted : (more : ℕ) → get_or s (dropped p) 0 ≡ want → walk_from (suc more) s want p n ≡ found_at (dropped p) (n + 1)
      unfolding walk_from
      at_wanted more is = search tests

      pub goes_on : (more : ℕ) → (get_or s (dropped p) 0 ≡ want → ⊥) → walk_from (suc more) s want p n ≡ walk_from more s want (get_or s (dropped p + 1) 0) (n + 1)
      unfolding walk_from
      goes_on more other = search tests
