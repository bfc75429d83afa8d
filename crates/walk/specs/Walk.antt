-- The capability walk ('Claims, probe, walk').
use Rattle.std.specs.Prelude.{List, Bool, true, false, not, ℕ, zero, suc, ◌+◌, ◌*◌, ◌/◌, length, get_or}
use Rattle.bits.specs.Bits.{bit}
use Rattle.bits.specs.Choice.{when◌then◌else◌, ◌is◌, ◌<?◌}
use Rattle.answer.specs.Refusals.{LENGTH, POINTER, ENDLESS}
use Rattle.map.specs.Registers.{PCISTS2, CAPPOINT}
use Rattle.walk.specs.declared.Found.{Found}
use Rattle.walk.specs.declared.Found.TheVariants as F
use Rattle.walk.specs.declared.Walked.{Walked}

-- ---- what a walk gives

pub record Reply : Type 0 where
  pub number : ℕ
  pub found : Bool
  pub offset : ℕ
  pub count : ℕ

abbrev pub found_at : ℕ → ℕ → Reply
found_at o n = record { number = 0; found = true; offset = o; count = n }

abbrev pub absent : ℕ → Reply
absent n = record { number = 0; found = false; offset = 0; count = n }

-- offset 0, and the true count
abbrev pub refused : ℕ → ℕ → Reply
refused r n = record { number = r; found = false; offset = 0; count = n }

-- the paper's number and values of each answer
abbrev pub says_of : Found → ℕ → Reply
says_of F.Length n = refused LENGTH n
says_of F.Absent n = absent n
says_of F.Pointer n = refused POINTER n
says_of F.Endless n = refused ENDLESS n
says_of (F.At o) n = found_at o n

abbrev pub walk_says : Walked → Reply
walk_says w = says_of w.found w.count

-- ---- the rule

-- the two low bits of a pointer are dropped before any test
abbrev pub dropped : ℕ → ℕ
dropped p = p / 4 * 4

-- the first two stops, of a pointer at after n items: pointer 0, pointer 04h to 3Ch; else what comes further
abbrev pub stops : ℕ → ℕ → Reply → Reply
stops at n further =
    when at is 0 then absent n
    else when at <? 0x40 then refused POINTER n
    else further

-- from the pointer p, with n items visited and so many more allowed: the third stop is none allowed, the fourth the wanted ID at the item
unfoldable pub walk_from : ℕ → List ℕ → ℕ → ℕ → ℕ → Reply
walk_from zero s want p n = stops (dropped p) n (refused ENDLESS n)
walk_from (suc more) s want p n =
    stops (dropped p) n
    (when get_or s (dropped p) 0 is want then found_at (dropped p) (n + 1) else walk_from more s want (get_or s (dropped p + 1) 0) (n + 1))

-- items that may be visited
abbrev pub most : ℕ
most = 48

unfoldable pub walk_of : List ℕ → ℕ → Reply
walk_of s want =
    when not (length s is 256) then refused LENGTH 0
    else when bit (get_or s PCISTS2 0) 4 is 0 then absent 0
    else walk_from most s want (get_or s CAPPOINT 0) 0
