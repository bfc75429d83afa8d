-- What is told to whatever is asked, and the state afterwards: an event happens, a look leaves the state, and nothing is refused as a line of no form.
use Rattle.std.specs.Prelude.{Option, None, Some}
use Rattle.answer.specs.Refusals.{Reply, no, LINE}
use Rattle.answer.specs.Said.{says}
use Rattle.rules.specs.declared.State.{State}
use Rattle.rules.specs.Access.{Outcome}
use Rattle.rules.specs.Events.{happens}
use Rattle.rules.specs.Read.{image_of}
use Rattle.rules.specs.Claims.{Claimed, memory_claim_of, io_claim_of}
use Rattle.rules.specs.Answers.{claim_says}
use Rattle.probe.specs.Probe as P
use Rattle.walk.specs.Walk as W
use Rattle.asked.specs.declared.Look.{Look}
use Rattle.asked.specs.declared.Look.TheVariants as L
use Rattle.asked.specs.declared.Asked.{Asked}
use Rattle.asked.specs.declared.Asked.TheVariants as Q
use Rattle.asked.specs.declared.Shown.{Shown}
use Rattle.asked.specs.declared.Shown.TheVariants as S
use Rattle.asked.specs.declared.Told.{Told}
use Rattle.asked.specs.declared.Told.TheVariants as T
use Rattle.asked.specs.declared.Replied.{Replied}

-- ---- what is told

pub data Said : Type 0 where
  answer : Reply → Said
  claim : Claimed → Said
  range : P.Reply → Said
  item : W.Reply → Said

-- with the state afterwards
pub record Response : Type 0 where
  pub said : Said
  pub state : State

-- ---- the rule

-- the walk is over the bytes as a guest reads them
abbrev pub sight_of : Look → State → Said
sight_of (L.Memory a) s = claim (memory_claim_of s a)
sight_of (L.Port p) s = claim (io_claim_of s p)
sight_of (L.Probe a b) s = range (P.probe_of a b)
sight_of (L.Walk i) s = item (W.walk_of (image_of s) i)

abbrev pub event_response : Outcome → Response
event_response o = record { said = answer o.reply; state = o.state }

abbrev pub response_of : Option Asked → State → Response
response_of (Some (Q.Event e)) s = event_response (happens e s)
response_of (Some (Q.Look k)) s = record { said = sight_of k s; state = s }
response_of None s = record { said = answer (no LINE); state = s }

-- ---- what the code's records say

abbrev pub shown_says : Shown → Said
shown_says (S.Claimed c) = claim (claim_says c)
shown_says (S.Range p) = range (P.probe_says p)
shown_says (S.Item f n) = item (W.says_of f n)

abbrev pub told_says : Told → Said
told_says (T.Answer a) = answer (says a)
told_says (T.Shown w) = shown_says w

abbrev pub replied : Replied → Response
replied r = record { said = told_says r.told; state = r.state }
