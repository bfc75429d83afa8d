-- The text of an answer ('The session player'): `OK`, `OK vvvvvvvv`, `NO n`, each with its LF.
use Rattle.std.specs.Prelude.{List, [], ◌∷◌, ◌++◌, ℕ, ◌/◌, ◌%◌}
use Rattle.bits.specs.Choice.{when◌then◌else◌, ◌<?◌}
use Rattle.line_forms.specs.Ascii.{ascii}
use Rattle.line_forms.specs.Hex.{up_of, hex_of}
use Rattle.answer.specs.Refusals.{Reply, fine, ok, no}

-- OK
unfoldable pub ok_text : List ℕ
ok_text = ascii "OK\n"

-- a refusal's number in decimal: one digit, or two (of a larger one its last two)
abbrev pub decimal_of : ℕ → List ℕ
decimal_of n = when n <? 10 then up_of n ∷ [] else up_of (n / 10 % 10) ∷ up_of (n % 10) ∷ []

-- NO n
unfoldable pub no_text : ℕ → List ℕ
no_text n = ascii "NO " ++ (decimal_of n ++ ascii "\n")

-- OK vvvvvvvv
unfoldable pub value_text : ℕ → List ℕ
value_text v = ascii "OK " ++ (hex_of 8 v ++ ascii "\n")

unfoldable pub reply_text : Reply → List ℕ
reply_text fine = ok_text
reply_text (ok v) = value_text v
reply_text (no n) = no_text n
