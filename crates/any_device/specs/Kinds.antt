-- The history of each kind of bit, from the deeds alone: no state is asked, nor the table of places that a machine goes by.
use Rattle.std.specs.Prelude.{◌≡◌, List, Bool, true, false, not, ℕ, suc, ◌+◌, ◌<◌, get_or}
use Rattle.bits.specs.Bits.{bit}
use Rattle.bits.specs.Choice.{when◌then◌else◌, ◌and◌, ◌or◌, ◌is◌, any_below}
use Rattle.access.specs.Access.{enabled, byte_for}
use Rattle.past.specs.Past.{Given, nothing, given, or_held, ran, last_given}
use Rattle.plain.specs.Plain.{held}
use Rattle.any_device.specs.Class.{never, always, once, none, Class, of_once}
use Rattle.any_device.specs.Device.{Device, Deed, idle, guest, host, return, anew, State, default_bit, not_hosted, fresh, perform}

-- what the deeds so far tell: the platform that was chosen, and whether a write since then has touched a field
pub record Told (P : Type 0) : Type 0 where
  pub platform : P
  pub touched : Bool

-- which writes touch it: the platform, offset and lanes
abbrev pub Touch : Type 0 → Type 0
Touch P = P → ℕ → ℕ → Bool

module _ {P : Type 0} where
  abbrev pub start : P → Told P
  start p = record { platform = p; touched = false }

  abbrev pub tell : Touch P → Deed P → Told P → Told P
  tell t idle x = x
  tell t (guest o l v) x = record { platform = x.platform; touched = t x.platform o l or x.touched }
  tell t (host w o m v) x = x
  tell t return x = x
  tell t (anew p) x = start p

  -- the platform that the deeds leave
  abbrev pub platform_of : Touch P → P → List (Deed P) → P
  platform_of t p ds = (ran (tell t) (start p) ds).platform

  abbrev pub no_field : Touch P
  no_field p o l = false

-- a kind of bit: what a guest's write of w gives it, and the host's; the writes that touch it; the classes that are of the kind
pub record Kind (K P : Type 0) : Type 1 where
  pub guest_gives : Told P → ℕ → Given
  pub host_gives : ℕ → Given
  pub touch : Touch P
  pub Fits : Class K → Type 0

module _ {K P : Type 0} (d : Device K P) where
  abbrev pub run : P → List (Deed P) → State P
  run p ds = ran (perform d) (fresh d p) ds

  -- ---- what a deed gives bit j of byte i, and what the bit of a run is by that

  module _ (k : Kind K P) (i j : ℕ) where
    unfoldable pub gives : Told P → Deed P → Given
    gives x idle = nothing
    gives x (guest o l v) = when enabled o l i then k.guest_gives x (bit (byte_for o v i) j) else nothing
    gives x (host w o m v) = when not (not_hosted d x.platform w o m) and i is o and bit m j is 1 then k.host_gives (bit v j) else nothing
    gives x return = when (d.class x.platform i j).returned then given (default_bit d x.platform i j) else nothing
    gives x (anew p) = given (default_bit d p i j)

    -- the last that was given
    abbrev pub last : P → List (Deed P) → Given
    last p ds = last_given (tell k.touch) gives (start p) ds

    -- the default of the platform at the start where nothing was
    abbrev pub last_bit : P → List (Deed P) → ℕ
    last_bit p ds = or_held (last p ds) (default_bit d p i j)

  -- every bit that is of the kind, on the platform that the deeds leave
  abbrev pub History : Kind K P → Type 0
  History k = (i j : ℕ) → i < 256 → j < 8 → (p : P) (ds : List (Deed P)) → k.Fits (d.class (platform_of k.touch p ds) i j) → held (run p ds).bytes i j ≡ last_bit k i j p ds

  -- ---- the kinds

  -- plain: what the last write that enabled its byte carried, since the last reset that returns it
  abbrev pub Plain : Kind K P
  Plain = record { guest_gives = λ (x : Told P) (w : ℕ). given w; host_gives = λ (w : ℕ). nothing; touch = no_field; Fits = λ (c : Class K). (c.stored ≡ always) × (c.clears ≡ false) × (c.host ≡ none) }

  -- read-only and the host's: what the last accepted update that masked it gave
  abbrev pub ReadOnly : Kind K P
  ReadOnly = record { guest_gives = λ (x : Told P) (w : ℕ). nothing; host_gives = λ (w : ℕ). given w; touch = no_field; Fits = λ (c : Class K). (c.stored ≡ never) × (c.clears ≡ false) }

  -- write-one-to-clear: 1 exactly if the last touch was the host's set, and not a guest's 1
  abbrev pub Cleared : Kind K P
  Cleared = record { guest_gives = λ (x : Told P) (w : ℕ). when w is 1 then given 0 else nothing; host_gives = λ (w : ℕ). when w is 1 then given 1 else nothing; touch = no_field; Fits = λ (c : Class K). (c.stored ≡ always) × (c.clears ≡ true) }

  -- a byte of the write-once field f, by the rows
  unfoldable pub of_field : P → ℕ → ℕ → Bool
  of_field p f i = any_below 8 (λ (j : ℕ). of_once f (d.class p i j))

  -- the write enables one
  unfoldable pub touching : ℕ → Touch P
  touching f p o l = any_below 4 (λ (k : ℕ). bit l k is 1 and of_field p f (o + k))

  -- write-once: what the first write that touched the field carried, since the last platform reset: one before which none did
  abbrev pub WriteOnce : ℕ → Kind K P
  WriteOnce f = record { guest_gives = λ (x : Told P) (w : ℕ). when x.touched then nothing else given w; host_gives = λ (w : ℕ). nothing; touch = touching f; Fits = λ (c : Class K). (c.stored ≡ once f) × (c.clears ≡ false) × (c.host ≡ none) }

  -- what write-once asks of a device: the table of places says what the rows say
  abbrev pub Placed : Type 0
  Placed = (p : P) (f i : ℕ) → f < d.fields → (get_or d.places i 0 is suc f) ≡ of_field p f i
