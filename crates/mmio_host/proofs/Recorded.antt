-- The fault word that the code makes is the rule's, bit by bit.
use Rattle.std.proofs.Common.{◌≡◌, ℕ, Bool, true, false, T, eqb, sym, refl, ◌∙◌, subst, eqb→eq}
use Rattle.bits.specs.Bits.{bit, blend_k}
use Rattle.bits.specs.Choice.{pick, all_below}
use Rattle.bits.proofs.Laws.{number_ext, blend_each}
use Rattle.bits.proofs.Below.{same_eq, same, below}
use Rattle.rules.specs.Window.{recorded}

-- the lowest bit alone
first_at : ℕ → Bool
first_at j = same (eqb (bit 1 j) 1) (eqb j 0)

all_first : T (all_below 32 first_at)
unfolding first_at
all_first = tt

pub recorded_is : (v : ℕ) → blend_k 32 1 v 1 ≡ recorded v
unfolding recorded first_at
recorded_is v = blend_each 32 1 v 1 ∙ number_ext 32 (λ (j : ℕ). pick (eqb (bit 1 j) 1) (bit 1 j) (bit v j)) (λ (j : ℕ). pick (eqb j 0) 1 (bit v j)) (λ j h. go j (eqb (bit 1 j) 1) refl (same_eq _ _ (below 32 first_at all_first j h)))
  where
    go : (j : ℕ) (a : Bool) → eqb (bit 1 j) 1 ≡ a → a ≡ eqb j 0 → pick a (bit 1 j) (bit v j) ≡ pick (eqb j 0) 1 (bit v j)
    go j true p q = rw (← q) (eqb→eq (bit 1 j) 1 (subst T (sym p) tt))
    go j false p q = rw (← q)
