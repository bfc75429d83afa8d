-- The console: what a line says and does, by the rules. Its rows are those of the player and one for each other entry.
use Rattle.std.specs.Prelude.{List, Option, None, ℕ}
use Rattle.rules.specs.declared.State.{State}
use Rattle.rules.specs.Fresh.{fresh_of}
use Rattle.asked.specs.declared.Asked.{Asked}
use Rattle.asked.specs.Asked.{response_of}
use Rattle.line_forms.specs.Read.{read_by}
use Rattle.line_table.specs.Table.{rows}
use Rattle.text_shown.specs.Answers.{said_text}
use Rattle.session.specs.Session.{all_lines, answers}

-- what a line asks
abbrev pub asks : List ℕ → Option Asked
asks l = read_by None rows l

abbrev pub line_next : State → List ℕ → State
line_next s l = (response_of (asks l) s).state

abbrev pub line_say : State → List ℕ → List ℕ
line_say s l = said_text (response_of (asks l) s).said

-- the console: the answers to the lines of its input, from the fresh state
abbrev pub console_of : List ℕ → List ℕ
console_of xs = answers line_next line_say fresh_of (all_lines xs)
