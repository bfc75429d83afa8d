-- The state after all of the input, by its lines and by its blocks.
use mathlib.Core.Path.{sym, ◌∙◌}
use Rattle.snapshot_session.proofs.Blocks.{played, played_in_blocks}
use Rattle.snapshot_session.proofs.played.Goals as goal

pub returns-clause-lines : goal.returns-clause-lines
returns-clause-lines g c =
    let l = c.in_ok-session.ensures.lines in
    played c.fresh.result _ c.fresh.ensures (l.0, l.1 ∙ sym (c.console.view_is ∙ c.silent.view_is))

pub returns-clause-blocks : goal.returns-clause-blocks
returns-clause-blocks g c =
    rw (c.console.view_is, c.silent.view_is) (played_in_blocks c.fresh.result _ c.fresh.ensures c.in_ok-session.ensures.led)
