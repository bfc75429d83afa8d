-- W-201 by examples: sheets, what the request says of each, and its number; one table. And the bytes of a good sheet's tables.
use Rattle.std.specs.Prelude.{◌≡◌, List, [], ◌∷◌, ◌++◌, ℕ, zero, suc, ◌+◌, ◌*◌, ◌/◌, ◌%◌, get_or, take, Ok, Err}
use Rattle.bits.specs.Places.{from}
use Rattle.sheet_rules.specs.declared.SheetFault.TheVariants.{Empty, Count, Cut, Length, Order, Past, Start, Total, Shared, Outside}
use Rattle.sheet_rules.specs.Check.{SheetAnswer, sheet_no, check_of}
use Rattle.sheet_rules.specs.Tables.{tables_of}

-- ---- how a row is written

pub record Row : Type 0 where
  pub sheet : List ℕ
  pub answer : SheetAnswer
  -- the refusal's, or 0
  pub number : ℕ

infix 70 ◌is◌numbered◌
abbrev pub ◌is◌numbered◌ : List ℕ → SheetAnswer → ℕ → Row
s is a numbered n = record { sheet = s; answer = a; number = n }

-- config offset, length, body start low, high
abbrev pub entry : ℕ → ℕ → ℕ → ℕ → List ℕ
entry o l low high = o ∷ l ∷ low ∷ high ∷ []

-- bodies of two and of four bytes: defaults, guest masks, host masks, reset masks
abbrev pub body2 : List ℕ
body2 = 0x34 ∷ 0x12 ∷ 0xFF ∷ 0x0F ∷ 0x00 ∷ 0xF0 ∷ 0x0F ∷ 0x00 ∷ []

abbrev pub body4 : List ℕ
body4 = 0x01 ∷ 0x02 ∷ 0x03 ∷ 0x04 ∷ 0xF0 ∷ 0x00 ∷ 0x0F ∷ 0xFF ∷ 0x0F ∷ 0x00 ∷ 0xF0 ∷ 0x00 ∷ 0x10 ∷ 0x00 ∷ 0x08 ∷ 0xFF ∷ []

-- two entries, of these bodies; the contents are 9 bytes
abbrev pub two : List ℕ → List ℕ → List ℕ
two e f = 2 ∷ (e ++ (f ++ (body2 ++ body4)))

-- one entry of length 1, of this body; the contents are 5 bytes
abbrev pub one : List ℕ → List ℕ
one b = 1 ∷ (entry 0x10 1 5 0 ++ b)

-- n entries of length 1, three bytes apart, whose bodies are zeros
abbrev pub apart : ℕ → ℕ → ℕ → List ℕ
apart zero o start = []
apart (suc k) o start = entry o 1 (start % 256) (start / 256) ++ apart k (o + 3) (start + 4)

abbrev pub many : ℕ → List ℕ
many n = n ∷ (apart n 0 (4 * n + 1) ++ from (4 * n) (λ (i : ℕ). 0) 0)

-- its second register reaches byte FF: offset and length come to 256
abbrev pub good : List ℕ
good = two (entry 0x10 2 9 0) (entry 0xFC 4 17 0)

-- ---- the table

unfoldable pub rows : List Row
rows =
    good is Ok tt numbered 0 ∷
    -- one register right behind the other
    two (entry 0x10 2 9 0) (entry 0x12 4 17 0) is Ok tt numbered 0 ∷
    many 64 is Ok tt numbered 0 ∷
    -- empty
    [] is Err Empty numbered 12 ∷
    -- n
    (0 ∷ []) is Err Count numbered 13 ∷
    many 65 is Err Count numbered 13 ∷
    -- contents cut short
    (1 ∷ 0x10 ∷ 1 ∷ 5 ∷ []) is Err Cut numbered 12 ∷
    -- entries: a length of 0 and of 9, an overlap by one byte, out of order, past byte FF, a body with a gap before it, in the one before, and with the high byte first
    two (entry 0x10 0 9 0) (entry 0xFC 4 17 0) is Err (Length 0) numbered 13 ∷
    two (entry 0x10 2 9 0) (entry 0x20 9 17 0) is Err (Length 1) numbered 13 ∷
    two (entry 0x10 2 9 0) (entry 0x11 4 17 0) is Err (Order 1) numbered 13 ∷
    two (entry 0x10 2 9 0) (entry 0x04 4 17 0) is Err (Order 1) numbered 13 ∷
    two (entry 0x10 2 9 0) (entry 0xFD 4 17 0) is Err (Past 1) numbered 13 ∷
    two (entry 0x10 2 9 0) (entry 0xFC 4 18 0) is Err (Start 1) numbered 13 ∷
    two (entry 0x10 2 9 0) (entry 0xFC 4 9 0) is Err (Start 1) numbered 13 ∷
    two (entry 0x10 2 0 9) (entry 0xFC 4 17 0) is Err (Start 0) numbered 13 ∷
    -- total length: a byte more, a byte less
    (good ++ (0 ∷ [])) is Err Total numbered 12 ∷
    take 32 good is Err Total numbered 12 ∷
    -- masks: guest and host share a bit, a reset mask outside the guest mask; a shared bit in a second body's last byte
    one (0x00 ∷ 0x0F ∷ 0x18 ∷ 0x00 ∷ []) is Err (Shared 0) numbered 14 ∷
    one (0x00 ∷ 0x0F ∷ 0x10 ∷ 0x18 ∷ []) is Err (Outside 0) numbered 14 ∷
    (take 28 good ++ (0x80 ∷ 0x10 ∷ 0x00 ∷ 0x08 ∷ 0xFF ∷ [])) is Err (Shared 1) numbered 14 ∷
    -- two faults: n before cut short, cut short before entries, entries before total length, total length before masks
    (65 ∷ []) is Err Count numbered 13 ∷
    (2 ∷ entry 0x10 9 9 0) is Err Cut numbered 12 ∷
    (two (entry 0x10 2 9 0) (entry 0xFD 4 17 0) ++ (0 ∷ [])) is Err (Past 1) numbered 13 ∷
    one (0x00 ∷ 0x0F ∷ 0x18 ∷ 0x00 ∷ 0x00 ∷ []) is Err Total numbered 12 ∷
    -- in an entry: its length, its place behind the one before, byte FF, its body's start; the first entry that is wrong
    two (entry 0x10 2 9 0) (entry 0x04 9 17 0) is Err (Length 1) numbered 13 ∷
    two (entry 0xFC 2 9 0) (entry 0xFD 4 17 0) is Err (Order 1) numbered 13 ∷
    two (entry 0x10 2 9 0) (entry 0xFD 4 18 0) is Err (Past 1) numbered 13 ∷
    two (entry 0x10 2 8 0) (entry 0xFC 9 17 0) is Err (Start 0) numbered 13 ∷
    -- in a byte: the bits that are shared
    one (0x00 ∷ 0x0F ∷ 0x01 ∷ 0x10 ∷ []) is Err (Shared 0) numbered 14 ∷
    []

-- ---- what the table claims

abbrev pub each : {A : Type 0} → (Row → A) → List Row → List A
each f [] = []
each f (r ∷ rs) = f r ∷ each f rs

-- bytes of a table, at places in and beside the registers
abbrev pub places : List ℕ → List ℕ
places t = get_or t 0x0F 0 ∷ get_or t 0x10 0 ∷ get_or t 0x11 0 ∷ get_or t 0x12 0 ∷ get_or t 0xFB 0 ∷ get_or t 0xFC 0 ∷ get_or t 0xFF 0 ∷ []

pub record Rows : Type 0 where
  pub answers : each (λ (r : Row). check_of r.sheet) rows ≡ each (λ (r : Row). r.answer) rows
  pub numbers : each (λ (r : Row). sheet_no r.answer) rows ≡ each (λ (r : Row). r.number) rows
  pub defaults : places (tables_of good).defaults ≡ (0 ∷ 0x34 ∷ 0x12 ∷ 0 ∷ 0 ∷ 0x01 ∷ 0x04 ∷ [])
  pub guests : places (tables_of good).guests ≡ (0 ∷ 0xFF ∷ 0x0F ∷ 0 ∷ 0 ∷ 0xF0 ∷ 0xFF ∷ [])
  pub hosts : places (tables_of good).hosts ≡ (0 ∷ 0x00 ∷ 0xF0 ∷ 0 ∷ 0 ∷ 0x0F ∷ 0x00 ∷ [])
  pub resets : places (tables_of good).resets ≡ (0 ∷ 0x0F ∷ 0x00 ∷ 0 ∷ 0 ∷ 0x10 ∷ 0xFF ∷ [])
  -- a sheet that is refused makes a device of zeros
  pub refused : places (tables_of (good ++ (0 ∷ []))).defaults ≡ (0 ∷ 0 ∷ 0 ∷ 0 ∷ 0 ∷ 0 ∷ 0 ∷ [])
