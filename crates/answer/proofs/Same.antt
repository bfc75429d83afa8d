-- Two replies told apart by a test that computes.
use mathlib.Core.Path.{◌≡◌, refl, ap}
use mathlib.Core.Bool.{Bool, true, false}
use lib.Dec.{T, eqb→eq}
use Rattle.bits.specs.Choice.{◌is◌}
use Rattle.answer.specs.Refusals.{Reply, fine, ok, no}

abbrev pub same_reply : Reply → Reply → Bool
same_reply fine fine = true
same_reply fine (ok w) = false
same_reply fine (no m) = false
same_reply (ok v) fine = false
same_reply (ok v) (ok w) = v is w
same_reply (ok v) (no m) = false
same_reply (no n) fine = false
same_reply (no n) (ok w) = false
same_reply (no n) (no m) = n is m

pub same_reply_lem : (a b : Reply) → T (same_reply a b) → a ≡ b
same_reply_lem fine fine t = refl
same_reply_lem fine (ok w) t = absurd t
same_reply_lem fine (no m) t = absurd t
same_reply_lem (ok v) fine t = absurd t
same_reply_lem (ok v) (ok w) t = ap ok (eqb→eq v w t)
same_reply_lem (ok v) (no m) t = absurd t
same_reply_lem (no n) fine t = absurd t
same_reply_lem (no n) (ok w) t = absurd t
same_reply_lem (no n) (no m) t = ap no (eqb→eq n m t)
