-- The lines of a text, one after another: what is played so far, and what is left.
use Rattle.std.proofs.Common.{◌+◌, ◌-◌, ◌≤◌, length, arith}
use Rattle.std.proofs.Math.Nat.{mul-le-mul_left}
use Rattle.session.proofs.Text.{steps, ends}
use Rattle.session_loop.proofs.play.Goals as goal

pub returns-then-text-end-clause-played : goal.returns-then-text-end-clause-played
returns-then-text-end-clause-played g c = ends g.M.Machine.next g.M.Machine.say c.args.text.now c.loop-at.machine c.loop-at.at _ c.loop-at.out (omega (arith, c.line_end-end.ensures.0, c.if-text-end.true)) c.loop-at.invariant.played

-- what is left shrinks by the line, which has a byte at least, its LF
pub loop-at-preserved : goal.loop-at-preserved
loop-at-preserved g c =
    let d = c.loop-at in
    let e = c.line_end-end.result in
    let shorter : length c.args.text.now - (e + 1) + 1 ≤ length c.args.text.now - d.at = omega (arith, c.line_end-end.ensures.0, c.if-text-end.false) in
    record {
      within = omega arith;
      room = omega (arith, d.invariant.room, c.answer.ensures.upper_bound, mul-le-mul_left g.M.Machine.widest shorter);
      played = steps g.M.Machine.next g.M.Machine.say c.args.text.now d.machine _ d.at e _ d.out _ c.line_end-end.ensures.0 c.if-text-end.false d.invariant.played c.answer.ensures.next c.answer.ensures.said;
    }

pub returns-clause-played : goal.returns-clause-played
returns-clause-played g c = ends g.M.Machine.next g.M.Machine.say c.args.text.now c.loop-at.machine c.loop-at.at _ c.loop-at.out (omega arith) c.loop-at.invariant.played
