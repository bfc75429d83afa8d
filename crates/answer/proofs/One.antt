-- What is said fixes the answer: no two answers say the same, and no two refusals have one number.
use mathlib.Core.Path.{◌≡◌, refl, ap}
use Prim.Native.Nat.{ℕ}
use Rattle.std.specs.Prelude.{None, Some, Ok, Err}
use Rattle.bits.specs.Choice.{when◌then◌else◌, ◌is◌}
use Rattle.answer.specs.Refusals.{Reply, fine, ok, no, LENGTH, WIDTH, NOT_OURS, OTHER_FUNCTION, OFFSET, LANES, NOT_HOST, NO_RANGE, LINE, POINTER, ENDLESS, SHEET_LENGTH, SHEET_CONTENTS, SHEET_BODY}
use Rattle.answer.specs.Said.{Answer, number_of, says}
use Rattle.answer.specs.declared.Refusal.{Refusal}
use Rattle.answer.specs.declared.Refusal.TheVariants as R
use Rattle.answer.proofs.Agree.{one_answer}

-- ---- what is said is heard again

abbrev refusal_of : ℕ → Refusal
refusal_of n =
    when n is LENGTH then R.Length
    else when n is WIDTH then R.Width
    else when n is NOT_OURS then R.NotOurs
    else when n is OTHER_FUNCTION then R.OtherFunction
    else when n is OFFSET then R.Offset
    else when n is LANES then R.Lanes
    else when n is NOT_HOST then R.NotHost
    else when n is NO_RANGE then R.NoRange
    else when n is LINE then R.Line
    else when n is POINTER then R.Pointer
    else when n is ENDLESS then R.Endless
    else when n is SHEET_LENGTH then R.SheetLength
    else when n is SHEET_CONTENTS then R.SheetContents
    else when n is SHEET_BODY then R.SheetBody
    else R.WindowOffset

refusal_heard : (r : Refusal) → refusal_of (number_of r) ≡ r
refusal_heard R.Length = refl
refusal_heard R.Width = refl
refusal_heard R.NotOurs = refl
refusal_heard R.OtherFunction = refl
refusal_heard R.Offset = refl
refusal_heard R.Lanes = refl
refusal_heard R.NotHost = refl
refusal_heard R.NoRange = refl
refusal_heard R.Line = refl
refusal_heard R.Pointer = refl
refusal_heard R.Endless = refl
refusal_heard R.SheetLength = refl
refusal_heard R.SheetContents = refl
refusal_heard R.SheetBody = refl
refusal_heard R.WindowOffset = refl

abbrev pub hears : Reply → Answer
hears fine = Ok None
hears (ok v) = Ok (Some v)
hears (no n) = Err (refusal_of n)

pub heard : (a : Answer) → hears (says a) ≡ a
heard (Ok None) = refl
heard (Ok (Some v)) = refl
heard (Err r) = ap Err (refusal_heard r)

-- ---- so a promise of the form `says r ≡ x` fixes the answer r

pub one : {x : Reply} (p q : Answer) → says p ≡ x → says q ≡ x → p ≡ q
one p q e f = one_answer says hears heard p q e f
