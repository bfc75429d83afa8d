-- What is heard outside, and the state afterwards.
use Rattle.answer.specs.Refusals.{Reply}
use Rattle.rules.specs.declared.State.{State}
use Rattle.rules.specs.Access.{Outcome}
use Rattle.asked.specs.Asked.{Response}
use Rattle.door_told.specs.Heard.{Heard, heard_of}

pub record Outside : Type 0 where
  pub heard : Heard
  pub state : State

abbrev pub outside : Heard → State → Outside
outside h s = record { heard = h; state = s }

abbrev pub outside_of : Response → Outside
outside_of r = outside (heard_of r.said) r.state

-- what is said of an event, and the state afterwards
abbrev pub outcome : Reply → State → Outcome
outcome r s = record { reply = r; state = s }
