-- Locks: what a lock freezes keeps its contents until a platform reset.
use Rattle.std.specs.Prelude.{◌≡◌, List, [], ◌∷◌, Bool, true, false, not, ℕ, ◌<◌}
use Rattle.bits.specs.Choice.{◌and◌, ◌or◌, ◌is◌, ◌<?◌}
use Rattle.past.specs.Past.{ran}
use Rattle.plain.specs.Plain.{held}
use Rattle.any_device.specs.Class.{Stands, Stored, never, always, once, until, special, is_hosted, Class}
use Rattle.any_device.specs.Device.{Device, Deed, is_anew, State, is_closed, locked, class_of, perform}

abbrev pub same_stands : Stands → Stands → Bool
same_stands a b = a.byte is b.byte and a.place is b.place and a.value is b.value

abbrev pub among : Stands → List Stands → Bool
among a [] = false
among a (c ∷ cs) = same_stands c a or among a cs

abbrev pub all_among : List Stands → List Stands → Bool
all_among [] cs = true
all_among (a ∷ rest) cs = among a cs and all_among rest cs

abbrev pub no_anew : {P : Type 0} → List (Deed P) → Bool
no_anew [] = true
no_anew (e ∷ es) = not (is_anew e) and no_anew es

module _ {K P : Type 0} (d : Device K P) where
  -- no guest write stores it: a lock that is among cs holds it, or its write-once field is closed
  abbrev pub holds_back : List Stands → List ℕ → Stored K → Bool
  holds_back cs closed never = false
  holds_back cs closed always = false
  holds_back cs closed (once f) = f <? d.fields and is_closed closed f
  holds_back cs closed (until own) = all_among own cs
  holds_back cs closed (special k) = false

  -- where all of cs stand, a bit of this class is frozen: nothing but a platform reset changes it
  unfoldable pub frozen_by : List Stands → List ℕ → Class K → Bool
  frozen_by cs closed c = holds_back cs closed c.stored and not (is_hosted c.host) and not c.returned

  -- the bits that a lock is made of are frozen
  abbrev pub sealed : State P → List Stands → List Stands → Bool
  sealed s cs [] = true
  sealed s cs (c ∷ rest) = c.byte <? 256 and c.place <? 8 and frozen_by cs s.closed (class_of d s c.byte c.place) and sealed s cs rest

  -- what is frozen of two states is the same
  abbrev pub Keeps : List Stands → State P → State P → Type 0
  Keeps cs s u = (i j : ℕ) → i < 256 → j < 8 → frozen_by cs s.closed (class_of d s i j) ≡ true → held u.bytes i j ≡ held s.bytes i j

  -- one deed
  abbrev pub Frozen : Type 0
  Frozen = (s : State P) (cs : List Stands) → locked s.bytes cs ≡ true → (e : Deed P) → is_anew e ≡ false → Keeps cs s (perform d e s)

  -- any run without a platform reset: the lock stands, and what it freezes stays
  abbrev pub Locked : Type 0
  Locked = (s : State P) (cs : List Stands) → sealed s cs cs ≡ true → locked s.bytes cs ≡ true → (ds : List (Deed P)) → no_anew ds ≡ true → (locked (ran (perform d) s ds).bytes cs ≡ true) × Keeps cs s (ran (perform d) s ds)
