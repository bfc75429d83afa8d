-- The bytes after a session are what the run of its lines' events leaves; so the read-only clause of the device holds of every session.
use Rattle.std.specs.Prelude.{Option, None, Some}
use mathlib.Core.Path.{◌≡◌, refl, ◌∙◌}
use mathlib.Core.List.{List, [], ◌∷◌}
use Prim.Native.Nat.{ℕ}
use Rattle.past.specs.Past.{ran}
use Rattle.session.specs.Session.{after}
use Rattle.plain_device.specs.declared.Tables.{Tables}
use Rattle.plain_device.specs.declared.Event.{Event}
use Rattle.plain_device.specs.ReadOnly.{next, Inside}
use Rattle.plain_device.proofs.ReadOnly as D
use Rattle.sheet_step.specs.Player.{means, ◌before◌, events_of, meant_in, line_next, line_say}
use Rattle.sheet_step.specs.Events.{Runs, ReadOnly}

module _ (t : Tables) where
  -- one line, and then what follows
  one_line : (x : Option Event) (m : List ℕ) (es : List Event) → ran (next t) (meant_in t x m).bytes es ≡ ran (next t) m (x before es)
  unfolding ran
  one_line None m es = refl
  one_line (Some e) m es = refl

  runs_from : (ls : List (List ℕ)) (m : List ℕ) → after (line_next t) (line_say t) m ls ≡ ran (next t) m (events_of ls)
  unfolding after ran events_of
  runs_from [] m = refl
  runs_from (l ∷ ls) m = runs_from ls (line_next t m l) ∙ one_line (means l) m (events_of ls)

  pub session_runs : Runs t
  session_runs ls = runs_from ls t.defaults

  pub session_read_only : Inside t → ReadOnly t
  session_read_only inside ls i j h k fixed = rw (session_runs ls) (D.read_only_lem t inside (events_of ls) i j h k fixed)
