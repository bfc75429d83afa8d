-- Two results that meet a promise of the lent record agree: the number handed back, and the whole record.
use mathlib.Core.Path.{◌≡◌, sym, ap, ◌∙◌}
use Prim.Native.Nat.{ℕ}
use Rattle.rules.specs.declared.State.{State}
use Rattle.door_told.specs.Heard.{Heard, heard}
use Rattle.door_told.proofs.Halves.{one_number as one-of-halves}
use Rattle.door_write.specs.Outside.{Outside, outside}
use Rattle.door_write.specs.Numbered.{leaves}
use Rattle.door_write.specs.declared.Numbered.{Numbered}

-- a 64-bit number, of which number and value are heard
pub one_heard : (p : Heard) (r t : ℕ) → heard r ≡ p → heard t ≡ p → r ≡ t
one_heard p r t e f = one-of-halves r t (e ∙ sym f)

-- a refusal's number and the record
pub one_number : (o : Numbered) (r t : ℕ) (s u : State) → leaves r s ≡ o → leaves t u ≡ o → (r ≡ t) × (s ≡ u)
one_number o r t s u e f = (ap (λ (x : Numbered). x.number) (e ∙ sym f), ap (λ (x : Numbered). x.state) (e ∙ sym f))

-- what the door tells and the record
pub one_told : (o : Outside) (r t : ℕ) (s u : State) → outside (heard r) s ≡ o → outside (heard t) u ≡ o → (r ≡ t) × (s ≡ u)
one_told o r t s u e f = (one-of-halves r t (ap (λ (x : Outside). x.heard) (e ∙ sym f)), ap (λ (x : Outside). x.state) (e ∙ sym f))
