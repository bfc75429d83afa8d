-- A guest write at the door: what is told of its answer.
use mathlib.Core.Path.{ap, ◌∙◌}
use Rattle.rules.specs.Access.{Outcome}
use Rattle.rules.specs.Events.{happens}
use Rattle.asked.specs.Asked.{event_response}
use Rattle.door_told.specs.Heard.{Heard}
use Rattle.door_write.specs.Outside.{outside, outside_of}
use Rattle.door_write.proofs.write_told.Goals as goal

pub returns : goal.returns
unfolding happens
returns c =
    ap (λ (h : Heard). outside h c.put-a.new.s) c.answered.ensures
    ∙ ap (λ (x : Outcome). outside_of (event_response x)) c.put-a.ensures
