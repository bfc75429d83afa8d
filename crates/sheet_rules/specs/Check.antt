-- The check of a sheet, in the order in which it is refused: empty 12, n 13, contents cut short 12, entries in order 13, total length 12, masks 14.
use Rattle.std.specs.Prelude.{List, not, ℕ, ◌+◌, length, Result, Ok, Err, is_ok, ⊤}
use Rattle.bits.specs.Choice.{when◌then◌else◌, ◌is◌, ◌<?◌, first}
use Rattle.answer.specs.Refusals.{SHEET_LENGTH, SHEET_CONTENTS, SHEET_BODY}
use Rattle.sheet.specs.Sheet.{entries, contents, offset_of, length_of, start_of, end_before, belongs, body_of, good_count, good_length}
use Rattle.sheet.specs.Reads.{Body, body_is}
use Rattle.sheet.specs.declared.BodyFault.TheVariants as B
use Rattle.sheet_rules.specs.declared.SheetFault.{SheetFault}
use Rattle.sheet_rules.specs.declared.SheetFault.TheVariants.{Empty, Count, Cut, Length, Order, Past, Start, Total, Shared, Outside}

-- good, or what is wrong first
abbrev pub SheetAnswer : Type 0
SheetAnswer = Result ⊤ SheetFault

-- the number of each fault
abbrev pub fault_no : SheetFault → ℕ
fault_no Empty = SHEET_LENGTH
fault_no Count = SHEET_CONTENTS
fault_no Cut = SHEET_LENGTH
fault_no (Length k) = SHEET_CONTENTS
fault_no (Order k) = SHEET_CONTENTS
fault_no (Past k) = SHEET_CONTENTS
fault_no (Start k) = SHEET_CONTENTS
fault_no Total = SHEET_LENGTH
fault_no (Shared k) = SHEET_BODY
fault_no (Outside k) = SHEET_BODY

-- the number of each answer
abbrev pub sheet_no : SheetAnswer → ℕ
sheet_no (Ok _) = 0
sheet_no (Err fault) = fault_no fault

-- the next check, where this one accepts
infixr 15 ◌and_then◌
abbrev pub ◌and_then◌ : {T : Type 0} → SheetAnswer → Result T SheetFault → Result T SheetFault
Ok _ and_then b = b
Err fault and_then b = Err fault

-- ---- an entry: what stands before it ends at `end`, and its body belongs at `place`

unfoldable pub placed : ℕ → ℕ → ℕ → ℕ → ℕ → ℕ → SheetAnswer
placed k end place offset long start =
    when not (good_length long) then Err (Length k)
    else when offset <? end then Err (Order k)
    else when 256 <? offset + long then Err (Past k)
    else when not (start is place) then Err (Start k)
    else Ok tt

abbrev pub entry_of : List ℕ → ℕ → SheetAnswer
entry_of s k = placed k (end_before s k) (belongs s k) (offset_of s k) (length_of s k) (start_of s k)

-- ---- a body

abbrev pub named : ℕ → Body → SheetAnswer
named k (Ok _) = Ok tt
named k (Err B.Shared) = Err (Shared k)
named k (Err B.Outside) = Err (Outside k)
named k (Err B.Missing) = Err Total

abbrev pub body_answer : List ℕ → ℕ → SheetAnswer
body_answer s k = named k (body_is (body_of s k))

-- ---- the sheet

-- the first of n entries, or bodies, that is not accepted
abbrev pub first_of : (ℕ → SheetAnswer) → ℕ → SheetAnswer
first_of f n = first is_ok (Ok tt) f n 0

unfoldable pub total_of : List ℕ → SheetAnswer
total_of s = when length s is belongs s (entries s) then Ok tt else Err Total

unfoldable pub check_of : List ℕ → SheetAnswer
check_of s =
    when length s is 0 then Err Empty
    else when not (good_count (entries s)) then Err Count
    else when length s <? contents s then Err Cut
    else first_of (entry_of s) (entries s) and_then total_of s and_then first_of (body_answer s) (entries s)
