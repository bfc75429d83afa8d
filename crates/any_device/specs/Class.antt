-- The class of a bit is a product of parts: who stores it and when, what a guest's 1 does, who hosts it, whether the end of a function reset returns it, how it is shown.
use Rattle.std.specs.Prelude.{List, Bool, true, false, not, ℕ}
use Rattle.bits.specs.Choice.{◌is◌}

-- a bit that has a value
pub record Stands : Type 0 where
  pub byte : ℕ
  pub place : ℕ
  pub value : ℕ

-- when a guest write stores the bit; K names the special rules of a device
pub data Stored (K : Type 0) : Type 0 where
  never always : Stored K
  -- until a write enables a byte of the write-once field of that number
  once : ℕ → Stored K
  -- until all of these stand: a lock freezes it
  until : List Stands → Stored K
  special : K → Stored K

-- whose update may change it
pub data Host : Type 0 where
  none device firmware : Host

pub record Class (K : Type 0) : Type 0 where
  pub stored : Stored K
  -- write-one-to-clear: a guest's 1 clears it and a 0 leaves it; the host's 1 sets it and a 0 leaves it
  pub clears : Bool
  pub host : Host
  -- F: a function reset returns it to default
  pub returned : Bool
  -- it is not shown as it is held, but computed
  pub computed : Bool

abbrev pub hosted_by : Host → Host → Bool
hosted_by none none = false
hosted_by none device = false
hosted_by none firmware = false
hosted_by device none = false
hosted_by device device = true
hosted_by device firmware = false
hosted_by firmware none = false
hosted_by firmware device = false
hosted_by firmware firmware = true

abbrev pub is_hosted : Host → Bool
is_hosted none = false
is_hosted device = true
is_hosted firmware = true

module _ {K : Type 0} where
  -- ---- a class by its parts

  -- no host, not returned, held
  abbrev pub guest_bit : Stored K → Class K
  guest_bit s = record { stored = s; clears = false; host = none; returned = false; computed = false }

  abbrev pub host_bit : Host → Class K
  host_bit h = record { stored = never; clears = false; host = h; returned = false; computed = false }

  -- write-one-to-clear
  abbrev pub clear_bit : Host → Class K
  clear_bit h = record { stored = always; clears = true; host = h; returned = false; computed = false }

  abbrev pub computed_bit : Class K
  computed_bit = record { stored = never; clears = false; host = none; returned = false; computed = true }

  -- the same with F
  abbrev pub with_f : Class K → Class K
  with_f c = record { stored = c.stored; clears = c.clears; host = c.host; returned = true; computed = c.computed }

  -- ---- the tests that tables are made by

  abbrev pub is_never : Stored K → Bool
  is_never never = true
  is_never always = false
  is_never (once f) = false
  is_never (until cs) = false
  is_never (special k) = false

  abbrev pub is_until : Stored K → Bool
  is_until never = false
  is_until always = false
  is_until (once f) = false
  is_until (until cs) = true
  is_until (special k) = false

  abbrev pub is_once : ℕ → Stored K → Bool
  is_once f never = false
  is_once f always = false
  is_once f (once g) = g is f
  is_once f (until cs) = false
  is_once f (special k) = false

  -- a guest write may change it
  abbrev pub stores : Class K → Bool
  stores c = not (is_never c.stored)

  -- it is of the write-once field f
  abbrev pub of_once : ℕ → Class K → Bool
  of_once f c = is_once f c.stored

  -- an update of this host may change it
  abbrev pub by_host : Host → Class K → Bool
  by_host w c = hosted_by w c.host

  abbrev pub has_f : Class K → Bool
  has_f c = c.returned
