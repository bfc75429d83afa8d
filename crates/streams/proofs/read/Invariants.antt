-- Each try leaves the bytes before it.
use Rattle.std.proofs.Common.{◌≡◌, ◌≤◌, length, take}
use Rattle.streams.proofs.read.Given as goal

abbrev pub invariant-loop : goal.invariant-loop
invariant-loop g l = (length l.buf ≡ length l.initial.buf) × (take l.k l.buf ≡ take l.k l.initial.buf) × (l.k ≤ length l.buf)
