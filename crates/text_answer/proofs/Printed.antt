-- A text of each kind, as it is printed.
use mathlib.Core.Path.{◌≡◌, refl}
use Rattle.line_forms.specs.Ascii.{ascii}
use Rattle.line_forms.specs.Hex.{up_of, hex_of}
use Rattle.text_answer.specs.Text.{ok_text, no_text, value_text}

pub as_printed : (ok_text ≡ ascii "OK\n") × (no_text 9 ≡ ascii "NO 9\n") × (no_text 16 ≡ ascii "NO 16\n") × (value_text 0x1234ABCD ≡ ascii "OK 1234ABCD\n")
unfolding ok_text no_text value_text hex_of up_of
as_printed = (refl, refl, refl, refl)
