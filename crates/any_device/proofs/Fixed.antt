-- A bit that no guest write stores and no host has holds its default, on whatever platform was chosen last: by the same law.
use mathlib.Core.Path.{◌≡◌, refl, sym, ap, ◌∙◌}
use mathlib.Core.List.{List}
use mathlib.Core.Bool.{Bool, true, false, not}
use Prim.Native.Nat.{ℕ, ◌<◌}
use lib.Dec.{eqb}
use borrow.Author.Tests.{eqb-true}
use Rattle.bits.specs.Bits.{bit}
use Rattle.bits.specs.Choice.{pick, both}
use Rattle.bits.proofs.Below.{pick_has}
use Rattle.access.specs.Access.{enabled}
use Rattle.past.specs.Past.{Given, nothing, given, or_held}
use Rattle.past.proofs.History.{history}
use Rattle.plain.specs.Plain.{held}
use Rattle.any_device.specs.Class.{never, none, Class}
use Rattle.any_device.specs.Device.{Device, Deed, idle, guest, host, return, anew, default_bit, not_hosted}
use Rattle.any_device.specs.Kinds.{Told, start, tell, no_field, platform_of, run, gives, ReadOnly}
use Rattle.any_device.proofs.EachBit.{unhosted}
use Rattle.any_device.proofs.Histories.{stays, read_only_lem}

module _ {K P : Type 0} (d : Device K P) (i j : ℕ) (in_map : i < 256) (in-byte : j < 8) where
  abbrev Fit : Class K → Type 0
  Fit c = (c.stored ≡ never) × (c.clears ≡ false) × (c.host ≡ none)

  abbrev default : Told P → ℕ
  default x = default_bit d x.platform i j

  event : (e : Deed P) (x : Told P) → Fit (d.class (tell no_field e x).platform i j) → default (tell no_field e x) ≡ or_held (gives d (ReadOnly d) i j x e) (default x)
  unfolding gives
  event idle x f = refl
  event (guest o l v) x f = ap (λ (g : Given). or_held g (default x)) (sym (pick_has (λ (g : Given). g ≡ nothing) (enabled o l i) nothing nothing refl refl))
  event (host w o m v) x f = go (not_hosted d x.platform w o m) (eqb i o) (eqb (bit m j) 1) refl refl refl
    where
      go : (a b c : Bool) → not_hosted d x.platform w o m ≡ a → eqb i o ≡ b → eqb (bit m j) 1 ≡ c → default x ≡ or_held (pick (both (not a) (both b c)) (given (bit v j)) nothing) (default x)
      go true b c p q r = refl
      go false false c p q r = refl
      go false true false p q r = refl
      go false true true p q r = absurd (unhosted d x.platform w o m i j in-byte f.2 p (eqb-true i o q) r)
  event return x f = go (d.class x.platform i j).returned
    where
      go : (b : Bool) → default x ≡ or_held (pick b (given (default x)) nothing) (default x)
      go true = refl
      go false = refl
  event (anew p) x f = refl

  pub default_holds : (p : P) (ds : List (Deed P)) → Fit (d.class (platform_of no_field p ds) i j) → held (run d p ds).bytes i j ≡ default_bit d (platform_of no_field p ds) i j
  default_holds p ds f =
      read_only_lem d i j in_map in-byte p ds (f.0, f.1)
      ∙ sym (history (tell no_field) (tell no_field) (λ (x : Told P). x) (λ e x. refl) default (gives d (ReadOnly d) i j) (λ (x : Told P). Fit (d.class x.platform i j)) (stays d (ReadOnly d) i j Fit) event ds (start p) f)
