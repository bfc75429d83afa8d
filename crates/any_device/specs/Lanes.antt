-- Value bytes of lanes that aren't enabled have no say (W-212).
use Rattle.std.specs.Prelude.{◌≡◌, List, [], ◌∷◌, true, ℕ}
use Rattle.access.specs.Access.{enabled, byte_for}
use Rattle.past.specs.Past.{ran}
use Rattle.any_device.specs.Device.{Device, Deed, guest, State, perform}

-- two deeds that differ only in such bytes, and two sequences of them
pub data Alike {P : Type 0} : Deed P → Deed P → Type 0 where
  same : (e : Deed P) → Alike e e
  apart : (o l v u : ℕ) → ((i : ℕ) → enabled o l i ≡ true → byte_for o v i ≡ byte_for o u i) → Alike (guest o l v) (guest o l u)

pub data AllAlike {P : Type 0} : List (Deed P) → List (Deed P) → Type 0 where
  none : AllAlike [] []
  more : {e f : Deed P} {es fs : List (Deed P)} → Alike e f → AllAlike es fs → AllAlike (e ∷ es) (f ∷ fs)

module _ {K P : Type 0} (d : Device K P) where
  abbrev pub Disabled : Type 0
  Disabled = (es fs : List (Deed P)) → AllAlike es fs → (s : State P) → ran (perform d) s es ≡ ran (perform d) s fs
