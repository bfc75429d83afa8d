-- Laws of the plain rule: an accepted mask has no bit outside the host mask, and gives none.
use mathlib.Core.Path.{◌≡◌, refl}
use mathlib.Core.Bool.{Bool, true, false, not}
use Prim.Native.Nat.{ℕ, ◌<◌}
use lib.Dec.{eqb, ltb}
use borrow.Author.Tests.{eqb-true}
use Rattle.bits.specs.Bits.{bit}
use Rattle.bits.specs.Choice.{pick, both, either}
use Rattle.bits.proofs.Below.{any_none, both_off, unmasked}
use Rattle.plain.specs.Plain.{Mask, outside, update_gives}
use Rattle.past.specs.Past.{nothing, given}

pub mask_off : (h : Mask) (o m i j : ℕ) → j < 8 → h i j ≡ false → outside h o m ≡ false → i ≡ o → eqb (bit m j) 1 ≡ false
mask_off h o m i j k n e q = unmasked (eqb (bit m j) 1) (h o j) (any_none 8 (λ (j : ℕ). both (eqb (bit m j) 1) (not (h o j))) e j k) (rw q at n)

-- a bit that is not the host's is given nothing
pub no_gift : (h : Mask) (i j : ℕ) → j < 8 → h i j ≡ false → (o m v : ℕ) → update_gives h o m v i j ≡ nothing
no_gift h i j k n o m v = go (eqb i o) (outside h o m) refl refl
  where
    or_on : (a : Bool) → either a true ≡ true
    or_on true = refl
    or_on false = refl

    go : (b c : Bool) → eqb i o ≡ b → outside h o m ≡ c → pick (both (not (either (ltb 255 o) c)) (both b (eqb (bit m j) 1))) (given (bit v j)) nothing ≡ nothing
    go b true q e = rw (or_on (ltb 255 o))
    go false false q e = rw (both_off (not (either (ltb 255 o) false)))
    go true false q e = rw (mask_off h o m i j k n e (eqb-true i o q), both_off (not (either (ltb 255 o) false)))
