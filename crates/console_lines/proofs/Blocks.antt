-- Whatever the blocks that an input comes in, the console's answers are those that the rules give to its lines, and the state is the one after them.
use mathlib.Core.Path.{◌≡◌}
use mathlib.Core.List.{List, []}
use Prim.Native.Nat.{ℕ}
use Rattle.rules.specs.Fresh.{fresh_of}
use Rattle.session.specs.Session.{joins, all_lines, blocks_text, after, blocks_state}
use Rattle.session.proofs.Blocks.{in_blocks, after_blocks}
use Rattle.console_lines.specs.Console.{line_next, line_say, console_of}
use Rattle.console_lines.specs.Alike.{some, next_alike, say_alike}

pub console_is : (xs : List (List ℕ)) → blocks_text line_next line_say 27 fresh_of [] xs ≡ console_of (joins xs)
console_is xs = in_blocks line_next line_say 27 some next_alike say_alike xs fresh_of

pub console_after : (xs : List (List ℕ)) → blocks_state line_next line_say 27 fresh_of [] xs ≡ after line_next line_say fresh_of (all_lines (joins xs))
console_after xs = after_blocks line_next line_say 27 some next_alike say_alike xs fresh_of
