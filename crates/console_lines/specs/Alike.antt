-- The first 27 bytes of a console line say all.
use Rattle.std.specs.Prelude.{Option}
use mathlib.Core.Path.{◌≡◌, ap}
use mathlib.Core.List.{List}
use Prim.Native.Nat.{ℕ, ◌<◌}
use native.Mathlib.Omega.{arith}
use lib.ListN.{take}
use Rattle.rules.specs.declared.State.{State}
use Rattle.std.specs.Prelude.{Option}
use Rattle.asked.specs.declared.Asked.{Asked}
use Rattle.asked.specs.Asked.{response_of}
use Rattle.line_table.proofs.Rows.{console_alike}
use Rattle.text_shown.specs.Answers.{said_text}
use Rattle.console_lines.specs.Console.{line_next, line_say}

-- a line has a first byte to be kept
pub some : 0 < 27
some = omega arith

pub next_alike : (s : State) (l k : List ℕ) → take 27 l ≡ take 27 k → line_next s l ≡ line_next s k
next_alike s l k e = ap (λ (q : Option Asked). (response_of q s).state) (console_alike l k e)

pub say_alike : (s : State) (l k : List ℕ) → take 27 l ≡ take 27 k → line_say s l ≡ line_say s k
say_alike s l k e = ap (λ (q : Option Asked). said_text (response_of q s).said) (console_alike l k e)
