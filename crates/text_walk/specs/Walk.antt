-- The text of a walk's answer.
use Rattle.std.specs.Prelude.{List, ◌++◌, ℕ}
use Rattle.bits.specs.Choice.{when◌then◌else◌, ◌is◌}
use Rattle.walk.specs.Walk as W
use Rattle.text_answer.specs.Text.{no_text}
use Rattle.line_forms.specs.Ascii.{ascii}
use Rattle.line_forms.specs.Hex.{hex_of}
use Rattle.text_pieces.specs.Pieces.{end}

-- `OK FOUND `, `OK ABSENT `, `NO 10 `, `NO 11 `
abbrev pub found_text : List ℕ
found_text = ascii "OK FOUND "

abbrev pub absent_text : List ℕ
absent_text = ascii "OK ABSENT "

abbrev pub pointer_text : List ℕ
pointer_text = ascii "NO 10 "

abbrev pub endless_text : List ℕ
endless_text = ascii "NO 11 "

-- a walk: the offset where it is found, and the count, the one exception to a refusal's zero
abbrev pub walk_text : W.Reply → List ℕ
walk_text r =
    when r.number is 0 then (when r.found then found_text ++ (hex_of 2 r.offset ++ (ascii " " ++ (hex_of 2 r.count ++ end))) else absent_text ++ (hex_of 2 r.count ++ end))
    else when r.number is 10 then pointer_text ++ (hex_of 2 r.count ++ end)
    else when r.number is 11 then endless_text ++ (hex_of 2 r.count ++ end)
    else no_text r.number
