-- The machine with a sheet's lines, from the defaults: its answers are those that the rules give, line by line, in whatever blocks the input comes, and its bytes are what the run of the lines' events leaves.
use mathlib.Core.Path.{◌≡◌, refl, ap, ◌∙◌}
use mathlib.Core.List.{List, [], ◌∷◌}
use Prim.Native.Nat.{ℕ}
use native.Mathlib.Omega.{arith}
use Rattle.rules.specs.declared.Flags.{Flags}
use Rattle.host_updates.specs.Update as U
use Rattle.plain_device.specs.declared.Tables.{Tables}
use Rattle.plain_device.specs.ReadOnly.{run}
use Rattle.text_answer.specs.Text.{reply_text}
use Rattle.session.specs.Session.{answers, after, all_lines, joins, blocks_text, blocks_state}
use Rattle.session.proofs.Blocks.{in_blocks, after_blocks}
use Rattle.sheet_step.specs.Player.{means, events_of, line_next, line_say, sheet_player_of}
use Rattle.sheet_step.proofs.Bridge.{Good, meant_is, meant_good}
use Rattle.sheet_step.proofs.Events.{session_runs}
use Rattle.player_line.specs.Box.{Box, line_box, line_text}
use Rattle.player_line.specs.Boxed.{boxed_with}
use Rattle.player_line.specs.Alike.{next_alike, say_alike}

module _ (t : Tables) (c : Flags) (d : Good t.defaults) where
  say_is : (m : List ℕ) → Good m → (l : List ℕ) → line_text (boxed_with t c m) l ≡ line_say t m l
  say_is m g l = ap (λ (r : U.Lent). reply_text r.reply) (meant_is t m g (means l))

  next_is : (m : List ℕ) → Good m → (l : List ℕ) → line_box (boxed_with t c m) l ≡ boxed_with t c (line_next t m l)
  next_is m g l = ap (λ (r : U.Lent). boxed_with t c r.bytes) (meant_is t m g (means l))

  answers_are : (ls : List (List ℕ)) (m : List ℕ) → Good m → answers line_box line_text (boxed_with t c m) ls ≡ answers (line_next t) (line_say t) m ls
  unfolding answers
  answers_are [] m g = refl
  answers_are (l ∷ ls) m g = rw (say_is m g l, next_is m g l, answers_are ls (line_next t m l) (meant_good t m g d (means l)))

  bytes_are : (ls : List (List ℕ)) (m : List ℕ) → Good m → (after line_box line_text (boxed_with t c m) ls).bytes ≡ after (line_next t) (line_say t) m ls
  unfolding after
  bytes_are [] m g = refl
  bytes_are (l ∷ ls) m g = ap (λ (b : Box). (after line_box line_text b ls).bytes) (next_is m g l) ∙ bytes_are ls (line_next t m l) (meant_good t m g d (means l))

  -- it starts from the defaults
  abbrev pub boxed : Box
  boxed = boxed_with t c t.defaults

  pub sheet_player_is : (xs : List (List ℕ)) → blocks_text line_box line_text 16 boxed [] xs ≡ sheet_player_of t (joins xs)
  sheet_player_is xs =
      in_blocks line_box line_text 16 (omega arith) next_alike say_alike xs boxed
      ∙ answers_are (all_lines (joins xs)) t.defaults d

  pub sheet_player_leaves : (xs : List (List ℕ)) → (blocks_state line_box line_text 16 boxed [] xs).bytes ≡ run t (events_of (all_lines (joins xs)))
  sheet_player_leaves xs =
      ap (λ (b : Box). b.bytes) (after_blocks line_box line_text 16 (omega arith) next_alike say_alike xs boxed)
      ∙ bytes_are (all_lines (joins xs)) t.defaults d
      ∙ session_runs t (all_lines (joins xs))
