-- The loop keeps what the turns have led to, and the size of the buffer.
use Rattle.std.proofs.Common.{◌≡◌, ◌≤◌, length, take}
use Rattle.session_loop.proofs.Turns.{SoFar}
use Rattle.session_loop.proofs.session.Given as goal

abbrev pub invariant-loop : goal.invariant-loop
invariant-loop g l =
    record {
      within : l.kept ≤ g.M.Machine.most;
      long : length l.buf ≡ length l.fn.buf;
      so_far : SoFar g.M.Machine.next g.M.Machine.say g.M.Machine.most l.fn.machine l.machine (take l.kept l.buf);
    }
