-- A session on a sheet's device: the rows that its lines have are sheet_lines'. What a line does is what the device's event does.
use Rattle.std.specs.Prelude.{Option, None, Some, List, [], ◌∷◌, ℕ}
use Rattle.answer.specs.Refusals.{no, LINE}
use Rattle.host_updates.specs.Update.{Lent, lent}
use Rattle.plain_device.specs.declared.Tables.{Tables}
use Rattle.plain_device.specs.declared.Event.{Event}
use Rattle.plain_device.specs.Device.{happens}
use Rattle.line_forms.specs.Read.{read_by}
use Rattle.sheet_lines.specs.Table.{sheet_rows}
use Rattle.text_answer.specs.Text.{reply_text}
use Rattle.session.specs.Session.{all_lines, answers}

-- what a line means
abbrev pub means : List ℕ → Option Event
means l = read_by None sheet_rows l

-- ---- the events of lines, in turn

infixr 15 ◌before◌
abbrev pub ◌before◌ : Option Event → List Event → List Event
None before es = es
(Some e) before es = e ∷ es

unfoldable pub events_of : List (List ℕ) → List Event
events_of [] = []
events_of (l ∷ ls) = means l before events_of ls

-- ---- t are the device's tables, m the bytes that it holds

module _ (t : Tables) where
  -- a line of no form does nothing, and is refused, 9
  abbrev pub meant_in : Option Event → List ℕ → Lent
  meant_in (Some e) m = happens t e m
  meant_in None m = lent (no LINE) m

  abbrev pub line_next : List ℕ → List ℕ → List ℕ
  line_next m l = (meant_in (means l) m).bytes

  abbrev pub line_say : List ℕ → List ℕ → List ℕ
  line_say m l = reply_text (meant_in (means l) m).reply

  -- the answers to the lines of an input, from the defaults
  abbrev pub sheet_player_of : List ℕ → List ℕ
  sheet_player_of xs = answers line_next line_say t.defaults (all_lines xs)
