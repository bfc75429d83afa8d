-- Any device, bit by bit: what a guest write, a host update, the end of a function reset and a platform reset leave.
-- A deed is an event that was accepted and not dropped; refusals 5 and 6, the port latch and busy phases are a machine's own, and refusal 7 is here.
use Rattle.std.specs.Prelude.{List, [], ◌∷◌, Bool, true, false, not, ℕ, suc, ◌+◌, get_or}
use Rattle.bits.specs.Bits.{bit}
use Rattle.bits.specs.Choice.{when◌then◌else◌, ◌and◌, ◌is◌, ◌≤?◌, ◌<?◌, any_below}
use Rattle.bits.specs.Places.{from, bytes}
use Rattle.access.specs.Access.{enabled, byte_for}
use Rattle.past.specs.Past.{Given, nothing, given, or_held}
use Rattle.plain.specs.Plain.{Bits, Mask, held, made, outside, returned_bit}
use Rattle.any_device.specs.Class.{Stands, Stored, never, always, once, until, special, Host, Class, hosted_by}

-- K names the special rules, P the platforms that a platform reset chooses from
pub record Device (K P : Type 0) : Type 0 where
  -- of bit j of byte i
  pub class : P → ℕ → ℕ → Class K
  pub defaults : P → List ℕ
  -- how many write-once fields there are
  pub fields : ℕ
  -- for each byte, 1 more than the number of the field that it is of, or 0
  pub places : List ℕ
  -- a special rule holds a write back, by the bytes before it and the byte that is written over the bit's own
  pub holds : K → List ℕ → ℕ → Bool
  -- a special rule clears the bit, after a write with this offset and these lanes that left these bytes
  pub sweeps : K → List ℕ → ℕ → ℕ → Bool
  -- what a computed bit j of byte i reads, by the bytes
  pub computes : List ℕ → Bits

-- ---- the places of the write-once fields

-- a field's first byte and its number of bytes
pub record Span : Type 0 where
  pub at : ℕ
  pub size : ℕ

abbrev pub span : ℕ → ℕ → Span
span a n = record { at = a; size = n }

-- fields in the order of their numbers, from n on
abbrev pub place_in : ℕ → List Span → ℕ → ℕ
place_in n [] i = 0
place_in n (f ∷ fs) i = when f.at ≤? i and i <? f.at + f.size then suc n else place_in (suc n) fs i

unfoldable pub places_of : List Span → List ℕ
places_of fs = bytes (place_in 0 fs)

-- ---- deeds and states

pub data Deed (P : Type 0) : Type 0 where
  idle : Deed P
  -- offset, lanes, value
  guest : ℕ → ℕ → ℕ → Deed P
  -- whose; offset, mask, value
  host : Host → ℕ → ℕ → ℕ → Deed P
  -- the end of a function reset
  return : Deed P
  -- a platform reset
  anew : P → Deed P

abbrev pub is_anew : {P : Type 0} → Deed P → Bool
is_anew idle = false
is_anew (guest o l v) = false
is_anew (host w o m v) = false
is_anew return = false
is_anew (anew p) = true

pub record State (P : Type 0) : Type 0 where
  pub bytes : List ℕ
  -- by the field's number; 0 is open
  pub closed : List ℕ
  pub platform : P

abbrev pub is_closed : List ℕ → ℕ → Bool
is_closed c f = not (get_or c f 0 is 0)

-- a flag that is up keeps its number
abbrev pub raised : Bool → ℕ → ℕ
raised b was = when b and was is 0 then 1 else was

-- all of them stand
abbrev pub locked : List ℕ → List Stands → Bool
locked m [] = true
locked m (c ∷ cs) = held m c.byte c.place is c.value and locked m cs

-- what a bit that is written or masked is given: itself, or of write-one-to-clear what its 1 makes
abbrev pub offered : Bool → ℕ → ℕ → Given
offered false x w = given w
offered true x w = when w is 1 then given x else nothing

module _ {K P : Type 0} (d : Device K P) where
  abbrev pub class_of : State P → ℕ → ℕ → Class K
  class_of s i j = d.class s.platform i j

  abbrev pub default_bit : P → Bits
  default_bit p i j = held (d.defaults p) i j

  -- ---- a read

  unfoldable pub shown_bit : State P → Bits
  shown_bit s i j = when (class_of s i j).computed then d.computes s.bytes i j else held s.bytes i j

  -- ---- a guest write of v to the dword at o, with lanes l

  -- a bit of an enabled lane is held back, by the contents before the write: b is the byte that is written
  unfoldable pub held_back : State P → ℕ → Stored K → Bool
  held_back s b never = true
  held_back s b always = false
  held_back s b (once f) = is_closed s.closed f
  held_back s b (until cs) = locked s.bytes cs
  held_back s b (special k) = d.holds k s.bytes b

  -- what the bit written, w, gives; a 1 clears where that is the rule
  abbrev pub written : State P → ℕ → ℕ → Class K → Given
  written s b w c = when held_back s b c.stored then nothing else offered c.clears 0 w

  unfoldable pub stored_bit : State P → ℕ → ℕ → ℕ → Bits
  stored_bit s o l v i j = or_held (when enabled o l i then written s (byte_for o v i) (bit (byte_for o v i) j) (class_of s i j) else nothing) (held s.bytes i j)

  -- what the special rules then clear
  unfoldable pub swept : List ℕ → ℕ → ℕ → Stored K → Bool
  swept m o l never = false
  swept m o l always = false
  swept m o l (once f) = false
  swept m o l (until cs) = false
  swept m o l (special k) = d.sweeps k m o l

  unfoldable pub written_bit : State P → ℕ → ℕ → ℕ → Bits
  written_bit s o l v i j = when swept (made (stored_bit s o l v)) o l (class_of s i j).stored then 0 else stored_bit s o l v i j

  -- the write enables a byte of the field
  unfoldable pub touches : ℕ → ℕ → ℕ → Bool
  touches o l f = any_below 4 (λ (k : ℕ). bit l k is 1 and get_or d.places (o + k) 0 is suc f)

  -- the first write that enables any byte of a field closes the whole field
  unfoldable pub closed_after : ℕ → ℕ → List ℕ → List ℕ
  closed_after o l c = from d.fields (λ (f : ℕ). raised (touches o l f) (get_or c f 0)) 0

  -- ---- a host's update of the byte at o, with a mask byte and a value byte

  -- its host mask
  abbrev pub may_update : P → Host → Mask
  may_update p w i j = hosted_by w (d.class p i j).host

  -- refusal 7: the mask has a bit that is not this host's
  unfoldable pub not_hosted : P → Host → ℕ → ℕ → Bool
  not_hosted p w o m = outside (may_update p w) o m

  -- masked bits take the value's bits; a 1 sets where a guest's clears
  unfoldable pub updated_bit : State P → ℕ → ℕ → ℕ → Bits
  updated_bit s o m v i j = or_held (when i is o and bit m j is 1 then offered (class_of s i j).clears 1 (bit v j) else nothing) (held s.bytes i j)

  -- ---- the end of a function reset

  -- F bits return to default, every other bit stays
  unfoldable pub ended_bit : State P → Bits
  ended_bit s i j = returned_bit (λ (i j : ℕ). (class_of s i j).returned) (λ (i : ℕ). get_or (d.defaults s.platform) i 0) (held s.bytes) i j

  -- ---- the state after a deed

  abbrev pub holding : State P → Bits → List ℕ → State P
  holding s b c = record { bytes = made b; closed = c; platform = s.platform }

  -- defaults, fields open
  unfoldable pub fresh : P → State P
  fresh p = record { bytes = d.defaults p; closed = from d.fields (λ (f : ℕ). 0) 0; platform = p }

  unfoldable pub perform : Deed P → State P → State P
  perform idle s = s
  perform (guest o l v) s = holding s (written_bit s o l v) (closed_after o l s.closed)
  perform (host w o m v) s = when not_hosted s.platform w o m then s else holding s (updated_bit s o m v) s.closed
  perform return s = holding s (ended_bit s) s.closed
  perform (anew p) s = fresh p
