-- The machine with the session player's lines, from the fresh state: its answers are those that the rules give, line by line, in whatever blocks the input comes.
use mathlib.Core.Path.{◌≡◌, refl, ap, ◌∙◌}
use mathlib.Core.List.{List, [], ◌∷◌}
use Prim.Native.Nat.{ℕ}
use native.Mathlib.Omega.{arith}
use Rattle.rules.specs.declared.State.{State}
use Rattle.rules.specs.Fresh.{fresh_of}
use Rattle.rules.proofs.Good.{Good, fresh_good}
use Rattle.guest_write.specs.Bytes.{Lent}
use Rattle.text_answer.specs.Text.{reply_text}
use Rattle.session.specs.Session.{answers, all_lines, joins, blocks_text}
use Rattle.session.proofs.Blocks.{in_blocks}
use Rattle.player_step.specs.Player.{asks, line_next, line_say, player_of}
use Rattle.player_step.proofs.Bridge.{line_is, asked_good}
use Rattle.player_line.specs.Box.{with, line_box, line_text}
use Rattle.player_line.specs.Boxed.{boxed}
use Rattle.player_line.specs.Alike.{next_alike, say_alike}

say_is : (s : State) → Good s → (l : List ℕ) → line_text (boxed s) l ≡ line_say s l
say_is s g l = ap (λ (r : Lent). reply_text r.reply) (line_is s g l)

next_is : (s : State) → Good s → (l : List ℕ) → line_box (boxed s) l ≡ boxed (line_next s l)
next_is s g l = ap (λ (r : Lent). with (boxed s) r.bytes r.flags) (line_is s g l)

answers_are : (ls : List (List ℕ)) (s : State) → Good s → answers line_box line_text (boxed s) ls ≡ answers line_next line_say s ls
unfolding answers
answers_are [] s g = refl
answers_are (l ∷ ls) s g = rw (say_is s g l, next_is s g l, answers_are ls (line_next s l) (asked_good (asks l) s g))

pub player_is : (xs : List (List ℕ)) → blocks_text line_box line_text 16 (boxed fresh_of) [] xs ≡ player_of (joins xs)
player_is xs =
    in_blocks line_box line_text 16 (omega arith) next_alike say_alike xs (boxed fresh_of)
    ∙ answers_are (all_lines (joins xs)) fresh_of fresh_good
