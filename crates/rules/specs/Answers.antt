-- What the code's records say: an answer with the state afterwards, and a claim.
use Rattle.rules.specs.declared.State.{State}
use Rattle.std.specs.Prelude.{Option, None, Some}
use Rattle.answer.specs.Said.{says}
use Rattle.answer.specs.declared.Stepped.{Stepped}
use Rattle.rules.specs.declared.Claim.{Claim}
use Rattle.rules.specs.declared.Claim.TheVariants as C
use Rattle.rules.specs.Access.{Outcome}
use Rattle.rules.specs.Claims.{Claimed, unclaimed, claimed, translation, aperture, io}

abbrev pub stepped : Stepped State → Outcome
stepped r = record { reply = says r.answer; state = r.state }

abbrev pub claim_says : Option Claim → Claimed
claim_says (Some (C.Translation o)) = claimed translation o
claim_says (Some (C.Aperture o)) = claimed aperture o
claim_says (Some (C.Io o)) = claimed io o
claim_says None = unclaimed
