-- The bodies in order: the first that is not good decides.
use Rattle.std.proofs.Common.{◌≡◌, ◌-◌, Ok, is_ok}
use Rattle.bits.specs.Choice.{first}
use Rattle.sheet.specs.Reads.{body_at}
use Rattle.sheet_rules.specs.Check.{named, first_of}
use Rattle.sheet_check.proofs.walk_bodies.Given as goal

abbrev pub invariant-loop-k : goal.invariant-loop-k
invariant-loop-k l = first_of (λ j. named j (body_at l.s j)) l.n ≡ first is_ok (Ok tt) (λ j. named j (body_at l.s j)) (l.n - l.k) l.k
