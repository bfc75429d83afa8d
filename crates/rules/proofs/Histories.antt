-- The histories of demand 3: instances of the laws of any device.
use mathlib.Core.Path.{◌≡◌, refl, ap, ◌∙◌}
use mathlib.Core.List.{List}
use mathlib.Core.Bool.{false, not}
use Prim.Native.Nat.{ℕ, ◌<◌}
use lib.Dec.{T}
use Rattle.bits.specs.Bits.{bit}
use Rattle.plain.specs.Plain.{held}
use Rattle.any_device.specs.Class.{stores, is_hosted}
use Rattle.any_device.specs.Device as D
use Rattle.any_device.specs.Kinds as K
use Rattle.any_device.specs.First.{Locked}
use Rattle.any_device.proofs.Histories as H
use Rattle.any_device.proofs.First.{first_write_lem}
use Rattle.any_device.proofs.Fixed as F
use Rattle.any_device.proofs.Parts.{unstored_is, none_is}
use Rattle.map.specs.Class.{Platform, ivy_bridge, Field, field_number}
use Rattle.map.specs.Map.{class_of, default_at}
use Rattle.map.proofs.Classes.{unclearing}
use Rattle.rules.specs.declared.Event.{Event}
use Rattle.rules.specs.Access.{byte}
use Rattle.rules.specs.Device.{built_in}
use Rattle.rules.specs.Events.{run}
use Rattle.rules.specs.History.{deeds, first_write, over_default, last_update, or_default}
use Rattle.rules.proofs.Numbers.{fields_placed, in_range}
use Rattle.rules.proofs.Runs.{run_deeds}

-- there is one platform
one_platform : (p : Platform) → p ≡ ivy_bridge
one_platform ivy_bridge = refl

of_run : (es : List Event) (i j : ℕ) → bit (byte (run es) i) j ≡ held (K.run built_in ivy_bridge (deeds es)).bytes i j
of_run es i j = ap (λ (s : D.State Platform). held s.bytes i j) (run_deeds es)

pub once_history : (f : Field) (i j : ℕ) → i < 256 → j < 8 → Locked built_in (field_number f) (class_of i j) → (es : List Event) → bit (byte (run es) i) j ≡ over_default (first_write f es) i j
once_history f i j h k is es = of_run es i j ∙ first_write_lem built_in (field_number f) fields_placed (in_range f) i j h k ivy_bridge (deeds es) (rw (one_platform (K.platform_of (K.touching built_in (field_number f)) ivy_bridge (deeds es))) is)

module _ (i j : ℕ) (h : i < 256) (k : j < 8) (fixed : stores (class_of i j) ≡ false) (es : List Event) where
  pub fixed_history : bit (byte (run es) i) j ≡ or_default (last_update i j es) i j
  fixed_history = of_run es i j ∙ H.read_only_lem built_in i j h k ivy_bridge (deeds es) (rw (one_platform (K.platform_of K.no_field ivy_bridge (deeds es))) (unstored_is (class_of i j) fixed, unclearing i j))

  -- nor the host's: it holds its default
  pub default_holds : T (not (is_hosted (class_of i j).host)) → bit (byte (run es) i) j ≡ bit (default_at i) j
  default_holds own =
      let here : K.platform_of K.no_field ivy_bridge (deeds es) ≡ ivy_bridge = one_platform (K.platform_of K.no_field ivy_bridge (deeds es)) in
      of_run es i j ∙ F.default_holds built_in i j h k ivy_bridge (deeds es) (rw here (unstored_is (class_of i j) fixed, unclearing i j, none_is (class_of i j).host own)) ∙ rw here
