-- The paper's number of each refusal ('Refusal numbers'), and what an answer says.
use Rattle.std.specs.Prelude.{ℕ, Option, None, Some, Result, Ok, Err}
use Rattle.answer.specs.Refusals.{Reply, fine, ok, no, LENGTH, WIDTH, NOT_OURS, OTHER_FUNCTION, OFFSET, LANES, NOT_HOST, NO_RANGE, LINE, POINTER, ENDLESS, SHEET_LENGTH, SHEET_CONTENTS, SHEET_BODY, WINDOW_OFFSET}
use Rattle.answer.specs.declared.Refusal.{Refusal}
use Rattle.answer.specs.declared.Refusal.TheVariants as R

abbrev pub number_of : Refusal → ℕ
number_of R.Length = LENGTH
number_of R.Width = WIDTH
number_of R.NotOurs = NOT_OURS
number_of R.OtherFunction = OTHER_FUNCTION
number_of R.Offset = OFFSET
number_of R.Lanes = LANES
number_of R.NotHost = NOT_HOST
number_of R.NoRange = NO_RANGE
number_of R.Line = LINE
number_of R.Pointer = POINTER
number_of R.Endless = ENDLESS
number_of R.SheetLength = SHEET_LENGTH
number_of R.SheetContents = SHEET_CONTENTS
number_of R.SheetBody = SHEET_BODY
number_of R.WindowOffset = WINDOW_OFFSET

-- accepted, accepted with a value, or refused
abbrev pub Answer : Type 0
Answer = Result (Option ℕ) Refusal

abbrev pub says : Answer → Reply
says (Ok None) = fine
says (Ok (Some v)) = ok v
says (Err r) = no (number_of r)
