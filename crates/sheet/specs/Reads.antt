-- What a reader of a sheet sees at an entry, in a list of bytes of any length: the entry, and what its body's masks are.
use Rattle.std.specs.Prelude.{List, Bool, ℕ, ◌+◌, ◌*◌, ◌/◌, length, take, drop, Option, None, Some, Result, Ok, Err, is_ok, ⊤}
use Rattle.bits.specs.Choice.{when◌then◌else◌, ◌and◌, ◌≤?◌, ◌<?◌, first}
use Rattle.sheet.specs.declared.Entry.{Entry}
use Rattle.sheet.specs.declared.BodyFault.{BodyFault}
use Rattle.sheet.specs.declared.BodyFault.TheVariants.{Shared, Outside, Missing}
use Rattle.sheet.specs.declared.Part.{Part}
use Rattle.sheet.specs.declared.Part.TheVariants as P
use Rattle.sheet.specs.Sheet.{entries, offset_of, length_of, start_of, part_of, DEFAULT, GUEST, HOST, RESET, shares, strays}

-- the entry lies within the contents and the bytes
abbrev pub listed : List ℕ → ℕ → Bool
listed s k = k <? entries s and 4 * k + 4 <? length s

-- entry k, as its four bytes say it
abbrev pub entry_of : List ℕ → ℕ → Entry
entry_of s k = record { offset = offset_of s k; length = length_of s k; start = start_of s k }

unfoldable pub entry_at : List ℕ → ℕ → Option Entry
entry_at s k = when listed s k then Some (entry_of s k) else None

-- a register of that offset and length has byte i of the device
abbrev pub covers : ℕ → ℕ → ℕ → Bool
covers offset long i = offset ≤? i and i <? offset + long

-- ---- a body

-- the number of each part
abbrev pub part_no : Part → ℕ
part_no P.Default = DEFAULT
part_no P.Guest = GUEST
part_no P.Host = HOST
part_no P.Reset = RESET

-- good, or what is wrong with its masks
abbrev pub Body : Type 0
Body = Result ⊤ BodyFault

unfoldable pub byte_is : ℕ → ℕ → ℕ → Body
byte_is guest host reset = when shares guest host then Err Shared else when strays reset guest then Err Outside else Ok tt

-- byte t of a body
abbrev pub masks_at : List ℕ → ℕ → Body
masks_at b t = byte_is (part_of b GUEST t) (part_of b HOST t) (part_of b RESET t)

-- the first byte whose masks are not good decides
unfoldable pub body_is : List ℕ → Body
body_is b = first is_ok (Ok tt) (masks_at b) (length b / 4) 0

-- the body that an entry names, where it lies within the bytes
abbrev pub body_in : List ℕ → Entry → Body
body_in s e = when e.start + 4 * e.length ≤? length s then body_is (take (4 * e.length) (drop e.start s)) else Err Missing

-- the body of the entry, if there is one
abbrev pub body_at_entry : List ℕ → Option Entry → Body
body_at_entry s None = Err Missing
body_at_entry s (Some e) = body_in s e

unfoldable pub body_at : List ℕ → ℕ → Body
body_at s k = body_at_entry s (entry_at s k)
