-- A sheet as a table that a person can read: a heading, and a line for each register with offset, length, default and masks.
use Rattle.std.specs.Prelude.{List, [], ◌++◌, ℕ, zero, suc, ◌+◌, ◌-◌, ◌*◌, ◌/◌, ◌%◌}
use Rattle.bits.specs.Choice.{when◌then◌else◌, ◌is◌, ◌<?◌}
use Rattle.bits.specs.Places.{from}
use Rattle.line_forms.specs.Ascii.{ascii, letter}
use Rattle.line_forms.specs.Hex.{up_of}
use Rattle.sheet.specs.Sheet.{at, entries, offset_of, length_of, start_of}

-- two columns for the offset, five for the length, and sixteen for each number behind two spaces
unfoldable pub heading : List ℕ
heading = ascii "At  Bytes           Default             Guest              Host             Reset\n"

-- ---- a number of L bytes, right-aligned in sixteen columns

-- digit d of part p, from the right: two digits to a byte, and values are little-endian
unfoldable pub digit_of : List ℕ → ℕ → ℕ → ℕ → ℕ
digit_of s k p d =
    when d <? 2 * length_of s k then up_of (when d % 2 is 0 then at s (start_of s k + p * length_of s k + d / 2) % 16 else at s (start_of s k + p * length_of s k + d / 2) / 16)
    else letter " "

-- column c of eighteen: two spaces, then the digits
unfoldable pub column_of : List ℕ → ℕ → ℕ → ℕ → ℕ
column_of s k p c = when c <? 2 then letter " " else digit_of s k p (17 - c)

-- ---- a line

-- column c of entry k
unfoldable pub char_of : List ℕ → ℕ → ℕ → ℕ
char_of s k c =
    when c is 0 then up_of (offset_of s k / 16)
    else when c is 1 then up_of (offset_of s k % 16)
    else when c is 8 then up_of (length_of s k % 16)
    else when c <? 9 then letter " "
    else column_of s k ((c - 9) / 18) ((c - 9) % 18)

-- entry k
unfoldable pub row_text : List ℕ → ℕ → List ℕ
row_text s k = from 81 (char_of s k) 0 ++ ascii "\n"

-- n entries from entry k on
unfoldable pub rows_text : List ℕ → ℕ → ℕ → List ℕ
rows_text s k zero = []
rows_text s k (suc n) = row_text s k ++ rows_text s (suc k) n

-- the whole table
unfoldable pub table_text : List ℕ → List ℕ
table_text s = heading ++ rows_text s 0 (entries s)
