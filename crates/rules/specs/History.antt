-- What each event comes to, from the list of events alone: no state is asked. What a guest write must be to count is said in the paper's numbers and not by the machine's tests.
use Rattle.std.specs.Prelude.{List, Bool, true, false, ℕ, ◌+◌, ◌-◌, ◌*◌, ◌%◌}
use Rattle.bits.specs.Bits.{bit, field}
use Rattle.bits.specs.Choice.{when◌then◌else◌, ◌and◌, ◌or◌, ◌is◌, ◌≤?◌, ◌<?◌}
use Rattle.access.specs.Access.{enabled, byte_for}
use Rattle.past.specs.Past.{Given, or_held, ran, retold}
use Rattle.any_device.specs.Class.{device}
use Rattle.any_device.specs.Device.{Deed, idle, guest, host, return, anew}
use Rattle.any_device.specs.Kinds.{last, ReadOnly}
use Rattle.any_device.specs.First as F
use Rattle.any_device.specs.First.{Since, first_since}
use Rattle.map.specs.Class.{Platform, ivy_bridge, Field, svid2, sid2, swsci15, field_number}
use Rattle.map.specs.Map.{default_at}
use Rattle.rules.specs.Device.{built_in}
use Rattle.rules.specs.Ports.{latch_of, port_lanes, placed}
use Rattle.rules.specs.declared.Event.{Event}
use Rattle.rules.specs.declared.Event.TheVariants.{Read, Write, PortRead, PortWrite, HostUpdate, EndSignal, PlatformReset, InWindow}

abbrev pub is_reset : Event → Bool
is_reset (Read o l) = false
is_reset (Write o l v) = false
is_reset (PortRead p w) = false
is_reset (PortWrite p w v) = false
is_reset (HostUpdate o m v) = false
is_reset EndSignal = false
is_reset PlatformReset = true
is_reset (InWindow e) = false

-- ---- the port latch, by the accepted writes to CF8h

abbrev pub latch_after : ℕ → Event → ℕ
latch_after x (Read o l) = x
latch_after x (Write o l v) = x
latch_after x (PortRead p w) = x
latch_after x (PortWrite p w v) = when p is 0xCF8 and w is 4 then latch_of v else x
latch_after x (HostUpdate o m v) = x
latch_after x EndSignal = x
latch_after x PlatformReset = 0
latch_after x (InWindow e) = x

-- ---- accepted guest writes to this function, by dword or through the port pair

pub data GuestWrite : Type 0 where
  none : GuestWrite
  -- offset, lanes, value
  at : ℕ → ℕ → ℕ → GuestWrite

-- a direct access: a dword of the 256 bytes, and lanes 0 to 15
abbrev pub direct : ℕ → ℕ → Bool
direct o l = o <? 256 and o % 4 is 0 and l <? 16

-- a data access: 1, 2 or 4 bytes within CFCh to CFFh, where the latch x has bit 31 set and names bus 0, device 2, function 0 in bits 23:8
abbrev pub data_access : ℕ → ℕ → ℕ → Bool
data_access x p w = (w is 1 or w is 2 or w is 4) and 0xCFC ≤? p and p + w ≤? 0xD00 and bit x 31 is 1 and field x 23 8 is 0x0010

-- the guest write that an event comes to, where the latch holds x
unfoldable pub accepted_write : ℕ → Event → GuestWrite
accepted_write x (Read o l) = none
accepted_write x (Write o l v) = when direct o l then at o l v else none
accepted_write x (PortRead p w) = none
accepted_write x (PortWrite p w v) =
    when data_access x p w then at (field x 7 2 * 4) (port_lanes (p - 0xCFC) w) (placed v (p - 0xCFC) w)
    else none
accepted_write x (HostUpdate o m v) = none
accepted_write x EndSignal = none
accepted_write x PlatformReset = none
accepted_write x (InWindow e) = none

-- ---- what the events so far tell: the latch, and whether a function reset is under way

pub record Seen : Type 0 where
  pub latch : ℕ
  pub busy : Bool

abbrev pub at_start : Seen
at_start = record { latch = 0; busy = false }

-- while busy a write is dropped, and counts as none
abbrev pub unless_busy : Bool → GuestWrite → GuestWrite
unless_busy b none = none
unless_busy b (at o l v) = when b then none else at o l v

abbrev pub guest_write : Seen → Event → GuestWrite
guest_write x e = unless_busy x.busy (accepted_write x.latch e)

-- it writes 1 to bit 0 of byte A8
abbrev pub starting : GuestWrite → Bool
starting none = false
starting (at o l v) = enabled o l 0xA8 and bit (byte_for o v 0xA8) 0 is 1

-- from a write that starts a function reset until the end signal, or a platform reset
abbrev pub busy_after : Seen → Event → Bool
busy_after x (Read o l) = x.busy
busy_after x (Write o l v) = starting (guest_write x (Write o l v)) or x.busy
busy_after x (PortRead p w) = x.busy
busy_after x (PortWrite p w v) = starting (guest_write x (PortWrite p w v)) or x.busy
busy_after x (HostUpdate o m v) = x.busy
busy_after x EndSignal = false
busy_after x PlatformReset = false
busy_after x (InWindow e) = x.busy

abbrev pub seen_next : Event → Seen → Seen
seen_next e x = record { latch = latch_after x.latch e; busy = busy_after x e }

abbrev pub seen : List Event → Seen
seen es = ran seen_next at_start es

-- ---- what an event does to the configuration bytes, after the events that told x

abbrev pub as_deed : GuestWrite → Deed Platform
as_deed none = idle
as_deed (at o l v) = guest o l v

-- a host update of a byte past FF is refused; an end signal ends what is under way; a platform reset starts anew
unfoldable pub deed_of : Seen → Event → Deed Platform
deed_of x (Read o l) = idle
deed_of x (Write o l v) = as_deed (guest_write x (Write o l v))
deed_of x (PortRead p w) = idle
deed_of x (PortWrite p w v) = as_deed (guest_write x (PortWrite p w v))
deed_of x (HostUpdate o m v) = when o <? 256 then host device o m v else idle
deed_of x EndSignal = when x.busy then return else idle
deed_of x PlatformReset = anew ivy_bridge
deed_of x (InWindow e) = idle

abbrev pub deeds : List Event → List (Deed Platform)
deeds es = retold seen_next deed_of at_start es

-- ---- the write-once fields

-- their bits in the paper's numbers: SVID2 is 2C and 2D, SID2 2E and 2F, SWSCI's bit 15 is bit 7 of E9
abbrev pub bit_of : Field → ℕ → ℕ → Bool
bit_of svid2 i j = i is 0x2C or i is 0x2D
bit_of sid2 i j = i is 0x2E or i is 0x2F
bit_of swsci15 i j = i is 0xE9 and j is 7

-- the first write that enables a byte of the field, since the last platform reset or the start
abbrev pub first_write : Field → List Event → Since Platform
first_write f es = first_since built_in (field_number f) ivy_bridge (deeds es)

-- bit j of byte i: that write's enabled bytes over the default; the default where there is none
abbrev pub over_default : Since Platform → ℕ → ℕ → ℕ
over_default w i j = F.over_default built_in w i j

-- ---- accepted host updates

-- what the last of them that masked bit j of byte i gave, or a platform reset after it
abbrev pub last_update : ℕ → ℕ → List Event → Given
last_update i j es = last built_in (ReadOnly built_in) i j ivy_bridge (deeds es)

-- the bit that it gave; the default where there is none
abbrev pub or_default : Given → ℕ → ℕ → ℕ
or_default g i j = or_held g (bit (default_at i) j)
