-- What every line of text ends with.
use Rattle.std.specs.Prelude.{List, ℕ}
use Rattle.line_forms.specs.Ascii.{ascii}

abbrev pub end : List ℕ
end = ascii "\n"
