-- One read and its lines: a turn.
use Rattle.session_loop.proofs.Turns.{one_turn}
use Rattle.session_loop.proofs.turn.Goals as goal

pub returns-clause-turned : goal.returns-clause-turned
returns-clause-turned g c = one_turn g.M.Machine.next g.M.Machine.say g.M.Machine.most c.args.machine.now _ _ c.fill.new.buf _ _ _ c.args.kept _ _ c.fill.ensures.kept.1 c.clear.ensures c.block.ensures.played
