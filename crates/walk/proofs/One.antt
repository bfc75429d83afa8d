-- The walk's promise fixes its answer: what is said of one can be heard again.
use mathlib.Core.Path.{◌≡◌, refl}
use mathlib.Core.List.{List}
use Prim.Native.Nat.{ℕ}
use Rattle.bits.specs.Choice.{when◌then◌else◌, ◌is◌}
use Rattle.answer.specs.Refusals.{LENGTH, POINTER}
use Rattle.answer.proofs.Agree.{one_answer}
use Rattle.walk.specs.declared.Found.{Found}
use Rattle.walk.specs.declared.Found.TheVariants as F
use Rattle.walk.specs.declared.Walked.{Walked}
use Rattle.walk.specs.Walk.{Reply, walk_of, says_of, walk_says}

-- the end of which a reply is said
abbrev ends : Reply → Found
ends r =
    when r.found then F.At r.offset
    else when r.number is 0 then F.Absent
    else when r.number is LENGTH then F.Length
    else when r.number is POINTER then F.Pointer
    else F.Endless

abbrev pub walk_hears : Reply → Walked
walk_hears r = record { found = ends r; count = r.count }

pub heard_by_end : (f : Found) (n : ℕ) → walk_hears (says_of f n) ≡ record { found = f; count = n }
heard_by_end F.Length n = refl
heard_by_end F.Absent n = refl
heard_by_end F.Pointer n = refl
heard_by_end F.Endless n = refl
heard_by_end (F.At o) n = refl

heard : (w : Walked) → walk_hears (walk_says w) ≡ w
heard w = heard_by_end w.found w.count

-- any two answers that meet the promise agree
pub one_walk : (s : List ℕ) (want : ℕ) (p q : Walked) → walk_says p ≡ walk_of s want → walk_says q ≡ walk_of s want → p ≡ q
one_walk s want = one_answer walk_says walk_hears heard
