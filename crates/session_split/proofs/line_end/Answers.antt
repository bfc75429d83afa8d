-- Where a line ends: at once, at the first LF, or at the end of the text.
use Rattle.std.proofs.Common.{◌≡◌, ℕ, ◌-◌, List, drop, take, length, arith}
use lib.ListN.{length-drop}
use lib.Seq.{take_all}
use Rattle.session.proofs.Text.{run_here}
use Rattle.session_split.proofs.Ends.{at_the_first, at_the_end}
use Rattle.session_split.proofs.line_end.Goals as goal

-- the text from a on
whole : (s : List ℕ) (a : ℕ) → take (length s - a) (drop a s) ≡ drop a s
whole s a = take_all _ _ (omega (arith, length-drop a s))

pub returns-then-s-a-eq10 : goal.returns-then-s-a-eq10
returns-then-s-a-eq10 c = (omega (arith, run_here c.args.s.now c.args.a c.if-a-s.true c.if-s-a-eq10.true), omega arith)

pub returns-in-Some : goal.returns-in-Some
returns-in-Some c =
    let s = c.args.s.now in
    let first = rw (whole s c.args.a) at c.in-Some.ensures in (
      omega (arith, at_the_first (drop c.args.a s) c.in-Some.i first.0.high first.1 first.0.before),
      omega (arith, first.0.high, length-drop c.args.a s, c.requires),
    )

pub returns-in-None : goal.returns-in-None
returns-in-None c =
    let s = c.args.s.now in
    let none = rw (whole s c.args.a) at c.in-None.ensures in
    (omega (arith, at_the_end (drop c.args.a s) none, length-drop c.args.a s, c.requires), omega arith)
