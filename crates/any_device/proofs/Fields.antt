-- A table of the fields' places is held to the rows by one test that antt computes.
use mathlib.Core.Path.{◌≡◌, refl, sym}
use mathlib.Core.List.{List}
use mathlib.Core.Bool.{Bool, true, false}
use Prim.Native.Nat.{ℕ, zero, suc, ◌≤◌}
use native.Mathlib.Omega.{arith}
use lib.Dec.{T, eqb, ltb}
use lib.ListN.{get_or}
use borrow.Author.Tests.{ltb-true, ltb-false, ne_eqb}
use Rattle.bits.specs.Choice.{all_below}
use Rattle.bits.specs.Places.{from}
use Rattle.bits.proofs.Below.{below, same, same_eq, none_any}
use Rattle.any_device.specs.Class.{of_once}
use Rattle.any_device.specs.Device.{Device, place_in, places_of, Span}
use Rattle.any_device.specs.Kinds.{of_field, Placed}

past_from : (k : ℕ) (f : ℕ → ℕ) (i n : ℕ) → k ≤ n → get_or (from k f i) n 0 ≡ 0
past_from zero f i n h = refl
past_from (suc k) f i zero h = absurd (omega arith)
past_from (suc k) f i (suc n) h = past_from k f (suc i) n (omega arith)

module _ {K P : Type 0} (d : Device K P) where
  abbrev pub agrees : P → ℕ → Bool
  agrees p i = all_below d.fields (λ (f : ℕ). same (eqb (get_or d.places i 0) (suc f)) (of_field d p f i))

  pub placed : (fs : List Span) → d.places ≡ places_of fs → ((p : P) → T (all_below 256 (agrees p))) → ((p : P) (f i j : ℕ) → 256 ≤ i → of_once f (d.class p i j) ≡ false) → Placed d
  unfolding places_of of_field
  placed fs is t plain p f i h = go (ltb i 256) refl
    where
      go : (b : Bool) → ltb i 256 ≡ b → eqb (get_or d.places i 0) (suc f) ≡ of_field d p f i
      go true e = same_eq _ _ (below d.fields (λ (f : ℕ). same (eqb (get_or d.places i 0) (suc f)) (of_field d p f i)) (below 256 (agrees p) (t p) i (ltb-true i 256 e)) f h)
      go false e = rw (is, past_from 256 (place_in 0 fs) 0 i (ltb-false i 256 e), ne_eqb 0 (suc f) (λ q. omega arith)) (sym (none_any 8 (λ (j : ℕ). of_once f (d.class p i j)) (λ j k. plain p f i j (ltb-false i 256 e))))
