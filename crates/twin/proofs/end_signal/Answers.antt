-- The end signal by value: the end over its bytes comes to the rule.
use mathlib.Core.Path.{◌≡◌}
use lib.ListN.{length}
use Rattle.function_reset.proofs.Bridge.{end_is}
use borrow.Author.Rules.{rules}
use Rattle.twin.proofs.end_signal.Goals as goal

pub returns : goal.returns
returns c =
    let s = c.args.s in
    let n : length s.bytes ≡ 256 = search rules in
    rw (c.end.ensures.m_after, c.end.ensures.c_after) (end_is s n)
