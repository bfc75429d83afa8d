-- The lines of a text, one after another: what is played so far, and what is left.
use Rattle.std.proofs.Common.{◌≡◌, [], ◌≤◌, ◌-◌, ◌+◌, ◌*◌, length, drop}
use Rattle.session.specs.Session.{play_text, follow}
use Rattle.session_loop.proofs.play.Given as goal

abbrev pub invariant-loop-at : goal.invariant-loop-at
invariant-loop-at g l =
    record {
      within : l.at ≤ length l.text;
      room : length l.out + g.M.Machine.widest * (length l.text - l.at) ≤ g.row.N;
      played : follow l.fn.out (play_text g.M.Machine.next g.M.Machine.say l.fn.machine [] l.text) ≡ follow l.out (play_text g.M.Machine.next g.M.Machine.say l.machine [] (drop l.at l.text));
    }

abbrev pub decreases-loop-at : goal.decreases-loop-at
decreases-loop-at g l = length l.text - l.at
