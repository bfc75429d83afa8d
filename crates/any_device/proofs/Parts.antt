-- The parts of a class, from their tests.
use mathlib.Core.Path.{◌≡◌, refl, ap, subst}
use mathlib.Core.Bool.{Bool, true, false, not}
use Prim.Native.Nat.{ℕ}
use lib.Dec.{T, eqb→eq}
use Rattle.any_device.specs.Class.{Stored, never, always, once, until, special, Host, none, device, firmware, is_hosted, Class, is_never, is_once, stores}

pub none_is : (h : Host) → T (not (is_hosted h)) → h ≡ none
none_is none t = refl
none_is device t = absurd t
none_is firmware t = absurd t

module _ {K : Type 0} where
  never_is : (st : Stored K) → T (is_never st) → st ≡ never
  never_is never t = refl
  never_is always t = absurd t
  never_is (once f) t = absurd t
  never_is (until cs) t = absurd t
  never_is (special k) t = absurd t

  -- no guest write stores it
  pub unstored_is : (c : Class K) → stores c ≡ false → c.stored ≡ never
  unstored_is c e = never_is c.stored (not_not (is_never c.stored) e)
    where
      not_not : (b : Bool) → not b ≡ false → T b
      not_not true e = tt
      not_not false e = subst T e tt

  pub once_is : (f : ℕ) (st : Stored K) → T (is_once f st) → st ≡ once f
  once_is f never t = absurd t
  once_is f always t = absurd t
  once_is f (once g) t = ap {B = Stored K} (λ (n : ℕ). once n) (eqb→eq g f t)
  once_is f (until cs) t = absurd t
  once_is f (special k) t = absurd t
