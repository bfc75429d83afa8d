-- The first 16 bytes of a line say all, whoever's lines they are.
use mathlib.Core.Path.{◌≡◌, ap}
use mathlib.Core.List.{List}
use Prim.Native.Nat.{ℕ, ◌<◌}
use native.Mathlib.Omega.{arith}
use lib.ListN.{take}
use Rattle.guest_write.specs.Bytes.{Lent}
use Rattle.line_table.proofs.Rows.{player_alike}
use Rattle.sheet_lines.proofs.Rows.{sheet_alike}
use Rattle.player_line.specs.Box.{Box, with, answer_in, line_box, line_text}
use Rattle.text_answer.specs.Text.{reply_text}

-- a line has a first byte to be kept
pub some : 0 < 16
some = omega arith

answer_alike : (b : Box) (l k : List ℕ) → take 16 l ≡ take 16 k → answer_in b l ≡ answer_in b k
answer_alike b l k e = rw (player_alike l k e, sheet_alike l k e)

pub next_alike : (b : Box) (l k : List ℕ) → take 16 l ≡ take 16 k → line_box b l ≡ line_box b k
next_alike b l k e = ap (λ (r : Lent). with b r.bytes r.flags) (answer_alike b l k e)

pub say_alike : (b : Box) (l k : List ℕ) → take 16 l ≡ take 16 k → line_text b l ≡ line_text b k
say_alike b l k e = ap (λ (r : Lent). reply_text r.reply) (answer_alike b l k e)
