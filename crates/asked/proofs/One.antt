-- What is told fixes the answer, whatever was asked: any two results that meet a promise of what is told agree.
use mathlib.Core.Path.{◌≡◌, ap}
use Rattle.std.specs.Prelude.{Option}
use Rattle.answer.proofs.Agree.{one_answer}
use Rattle.answer.proofs.One as A
use Rattle.rules.proofs.One.{claim_hears, claim_heard_lem}
use Rattle.rules.specs.declared.Claim.{Claim}
use Rattle.probe.specs.declared.Range.{Range}
use Rattle.probe.proofs.One as P
use Rattle.walk.specs.declared.Walked.{Walked}
use Rattle.walk.proofs.One as W
use Rattle.asked.specs.declared.Shown.TheVariants as S
use Rattle.asked.specs.declared.Told.{Told}
use Rattle.asked.specs.declared.Told.TheVariants as T
use Rattle.asked.specs.declared.Replied.{Replied}
use Rattle.asked.specs.Asked.{Said, answer, claim, range, item, Response, told_says, replied}

hears : Said → Told
hears (answer r) = T.Answer (A.hears r)
hears (claim c) = T.Shown (S.Claimed (claim_hears c))
hears (range r) = T.Shown (S.Range (P.probe_hears r))
hears (item r) = T.Shown (S.Item (W.walk_hears r).found (W.walk_hears r).count)

heard : (t : Told) → hears (told_says t) ≡ t
unfolding hears
heard (T.Answer a) = ap T.Answer (A.heard a)
heard (T.Shown (S.Claimed c)) = ap (λ (x : Option Claim). T.Shown (S.Claimed x)) (claim_heard_lem c)
heard (T.Shown (S.Range p)) = ap (λ (x : Option Range). T.Shown (S.Range x)) (P.heard p)
heard (T.Shown (S.Item f n)) = ap (λ (x : Walked). T.Shown (S.Item x.found x.count)) (W.heard_by_end f n)

pub one_told : {x : Said} (p q : Told) → told_says p ≡ x → told_says q ≡ x → p ≡ q
one_told p q e f = one_answer told_says hears heard p q e f

-- with the state afterwards
hears_all : Response → Replied
hears_all r = record { told = hears r.said; state = r.state }

heard_all : (a : Replied) → hears_all (replied a) ≡ a
unfolding hears_all
heard_all a = rw (heard a.told)

pub one_reply : {r : Response} (p q : Replied) → replied p ≡ r → replied q ≡ r → p ≡ q
one_reply p q e f = one_answer replied hears_all heard_all p q e f
