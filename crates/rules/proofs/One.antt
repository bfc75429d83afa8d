-- Each promise fixes one answer and one state: any two results that meet it agree. An answer alone is fixed in the crate answer.
use Rattle.rules.specs.declared.State.{State}
use mathlib.Core.Path.{◌≡◌, refl}
use Rattle.std.specs.Prelude.{Option, None, Some}
use Rattle.answer.proofs.Agree.{one_answer}
use Rattle.answer.proofs.One as A
use Rattle.answer.specs.declared.Stepped.{Stepped}
use Rattle.rules.specs.declared.Claim.{Claim}
use Rattle.rules.specs.declared.Claim.TheVariants as C
use Rattle.rules.specs.Access.{Outcome}
use Rattle.rules.specs.Claims.{Claimed, unclaimed, claimed, translation, aperture, io}
use Rattle.rules.specs.Answers.{stepped, claim_says}

-- ---- an answer with the state afterwards

abbrev hears : Outcome → Stepped State
hears r = record { answer = A.hears r.reply; state = r.state }

heard : (a : Stepped State) → hears (stepped a) ≡ a
heard a = rw (A.heard a.answer)

-- whichever outcome is promised
pub one_step : {r : Outcome} (p q : Stepped State) → stepped p ≡ r → stepped q ≡ r → p ≡ q
one_step p q e f = one_answer stepped hears heard p q e f

-- ---- a claim

abbrev pub claim_hears : Claimed → Option Claim
claim_hears unclaimed = None
claim_hears (claimed translation o) = Some (C.Translation o)
claim_hears (claimed aperture o) = Some (C.Aperture o)
claim_hears (claimed io o) = Some (C.Io o)

pub claim_heard_lem : (a : Option Claim) → claim_hears (claim_says a) ≡ a
claim_heard_lem (Some (C.Translation o)) = refl
claim_heard_lem (Some (C.Aperture o)) = refl
claim_heard_lem (Some (C.Io o)) = refl
claim_heard_lem None = refl

pub one_claim : {c : Claimed} (p q : Option Claim) → claim_says p ≡ c → claim_says q ≡ c → p ≡ q
one_claim p q e f = one_answer claim_says claim_hears claim_heard_lem p q e f
