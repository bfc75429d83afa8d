-- An array that a closure made, place by place, where its calls leave it as it was.
use Rattle.std.proofs.Common.{◌≡◌, ℕ, zero, suc, ◌+◌, ◌<◌, ◌≤◌, List, get_or, subst, ◌∙◌, arith}
use Rattle.std.specs.Array.{IsFromFnResultFrom}
use Rattle.std.specs.Fn.{Called}
use denote.Param.Members.{Mut}
use native.Mathlib.Decide.{ℕ_discrete}

module _ {F : Type 0} (g : Mut F (ℕ × Unit {0}) ℕ) (h : ℕ → ℕ) (f : F) (step : (i r : ℕ) (f' : F) → Called g f (i, tt) r f' → (r ≡ h i) × (f' ≡ f)) where
  pub made : (ys : List ℕ) (i n : ℕ) → IsFromFnResultFrom g f ys i n → (j : ℕ) → i ≤ j → j < i + n → get_or ys j 0 ≡ h j
  made ys i zero m j lo hi = absurd (omega arith)
  made ys i (suc n) (q, y, at, called, rest) j lo hi =
      let s = step i y q called in
      elim (ℕ_discrete j i) [
        | yes e ↦ rw e (at.1 0 ∙ s.0)
        | no ne ↦ made ys (i + 1) n (subst (λ (x : F). IsFromFnResultFrom g x ys (i + 1) n) s.1 rest) j (omega arith) (omega arith)
      ]
