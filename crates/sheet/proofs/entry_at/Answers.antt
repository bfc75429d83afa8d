-- An entry, where it lies within the contents and the bytes.
use Prim.Native.Nat.{◌+◌, ◌*◌}
use native.Mathlib.Omega.{arith}
use lib.ListN.{length}
use borrow.Author.Tests.{lt-ltb, le-ltb}
use Rattle.sheet.specs.Sheet.{entries}
use Rattle.sheet.specs.Reads.{entry_at}
use Rattle.sheet.proofs.entry_at.Goals as goal

pub returns-then-count-k : goal.returns-then-count-k
unfolding entry_at
returns-then-count-k c =
    let a = c.args in
    rw (le-ltb a.k (entries a.s.now) (omega (arith, c.if-count-k.true, c.count.ensures.0)))

pub returns-then-s-i : goal.returns-then-s-i
unfolding entry_at
returns-then-s-i c =
    let a = c.args in
    rw (lt-ltb a.k (entries a.s.now) (omega (arith, c.if-count-k.false, c.count.ensures.0)), le-ltb (4 * a.k + 4) (length a.s.now) (omega (arith, c.if-s-i.true)))

pub returns : goal.returns
unfolding entry_at
returns c =
    let a = c.args in
    rw (lt-ltb a.k (entries a.s.now) (omega (arith, c.if-count-k.false, c.count.ensures.0)), lt-ltb (4 * a.k + 4) (length a.s.now) (omega (arith, c.if-s-i.false)), c.from_le_bytes.ensures)
