-- The head line of a dump, as `lspci -n -xxx` prints that of the function 00:02.0, and the digits of a byte.
use Rattle.std.specs.Prelude.{List, [], ◌∷◌, ◌++◌, ℕ, ◌+◌, ◌/◌, ◌%◌, get_or}
use Rattle.bits.specs.Choice.{when◌then◌else◌, ◌is◌, ◌<?◌}
use Rattle.line_forms.specs.Ascii.{ascii}

-- a digit in lower-case hex: 0 is 48, a is 97
unfoldable pub low_of : ℕ → ℕ
low_of n = when n <? 10 then 48 + n else 87 + n

-- the two digits of a byte
unfoldable pub low_pair : ℕ → List ℕ
low_pair x = low_of (x / 16 % 16) ∷ low_of (x % 16) ∷ []

-- the four digits of the two bytes at o, which are little-endian
unfoldable pub word_text : List ℕ → ℕ → List ℕ
word_text b o = low_pair (get_or b (o + 1) 0) ++ low_pair (get_or b o 0)

-- ` (rev RR)`, and nothing for revision 0
unfoldable pub rev_text : ℕ → List ℕ
rev_text r = when r is 0 then [] else ascii " (rev " ++ (low_pair r ++ ascii ")")

-- `VVVV:DDDD`: vendor at 00, device at 02
unfoldable pub ids_text : List ℕ → List ℕ
ids_text b = word_text b 0x00 ++ (ascii ":" ++ word_text b 0x02)

-- `00:02.0 CCSS: VVVV:DDDD`, class at 0A; then the revision, at 08
unfoldable pub head_text : List ℕ → List ℕ
head_text b = ascii "00:02.0 " ++ (word_text b 0x0A ++ (ascii ": " ++ (ids_text b ++ rev_text (get_or b 0x08 0))))
