-- The masks of one byte: a blend finds the bits that guest and host share, and those of the reset mask outside the guest mask.
use mathlib.Core.Path.{◌≡◌, refl, ◌∙◌}
use mathlib.Core.Bool.{Bool, true, false, not}
use Prim.Native.Nat.{ℕ}
use lib.Dec.{eqb}
use Rattle.bits.specs.Bits.{bit, blend_k}
use Rattle.bits.specs.Choice.{pick, both}
use Rattle.bits.proofs.Laws.{bit_zero, some_blended, some_outside}
use Rattle.bits.proofs.Below.{any_ext}
use Rattle.sheet.specs.Sheet.{shares, strays}

common : (g : Bool) (x : ℕ) → eqb (pick g x 0) 1 ≡ both g (eqb x 1)
common true x = refl
common false x = refl

pub shared_is : (guest host : ℕ) → not (eqb (blend_k 8 guest 0 host) 0) ≡ shares guest host
shared_is guest host =
    some_blended 8 guest 0 host
    ∙ any_ext 8 (λ (j : ℕ). eqb (pick (eqb (bit guest j) 1) (bit host j) (bit 0 j)) 1) (λ (j : ℕ). both (eqb (bit guest j) 1) (eqb (bit host j) 1)) (λ j k. rw (bit_zero j) (common (eqb (bit guest j) 1) (bit host j)))

pub stray_is : (reset guest : ℕ) → not (eqb (blend_k 8 guest reset 0) 0) ≡ strays reset guest
stray_is reset guest = some_outside 8 guest reset
