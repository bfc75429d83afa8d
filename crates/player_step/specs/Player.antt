-- The session player ('The session player'): what a line says and does, by the rules.
use Rattle.std.specs.Prelude.{Option, None, Some, List, ℕ}
use Rattle.answer.specs.Refusals.{LINE}
use Rattle.rules.specs.declared.State.{State}
use Rattle.rules.specs.Access.{Outcome, refused}
use Rattle.rules.specs.Fresh.{fresh_of}
use Rattle.rules.specs.Events.{happens}
use Rattle.asked.specs.declared.Asked.{Asked}
use Rattle.asked.specs.declared.Asked.TheVariants as Q
use Rattle.line_forms.specs.Read.{read_by}
use Rattle.line_table.specs.Table.{player_rows}
use Rattle.text_answer.specs.Text.{reply_text}
use Rattle.session.specs.Session.{all_lines, answers}

-- an event happens; a line of no form does nothing, and is refused, 9; a look is none of the player's
abbrev pub asked_in : Option Asked → State → Outcome
asked_in (Some (Q.Event e)) s = happens e s
asked_in (Some (Q.Look k)) s = refused LINE s
asked_in None s = refused LINE s

-- what a line asks
abbrev pub asks : List ℕ → Option Asked
asks l = read_by None player_rows l

abbrev pub line_next : State → List ℕ → State
line_next s l = (asked_in (asks l) s).state

abbrev pub line_say : State → List ℕ → List ℕ
line_say s l = reply_text (asked_in (asks l) s).reply

-- the player: the answers to the lines of its input, from the fresh state
abbrev pub player_of : List ℕ → List ℕ
player_of xs = answers line_next line_say fresh_of (all_lines xs)
