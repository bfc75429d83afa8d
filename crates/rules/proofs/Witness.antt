-- No clause of demand 3 is empty: for each a run, computed, in which its case happens.
use mathlib.Core.Path.{◌≡◌, refl}
use mathlib.Core.List.{List, [], ◌∷◌}
use mathlib.Core.Bool.{true, false}
use Rattle.bits.specs.Bits.{number_of}
use Rattle.answer.specs.Refusals.{ok, no, NOT_OURS, OTHER_FUNCTION, OFFSET, LANES, NOT_HOST}
use Rattle.map.specs.Registers.{VID2, DID2, PCICMD2, GMADR, SVID2, CAPPOINT, HSRW, AFCTL, SWSCI}
use Rattle.map.specs.Class.{svid2, sid2, swsci15}
use Rattle.any_map.specs.Map.{row_at, class_at, defaults}
use Rattle.map.specs.Map.{rows}
use Rattle.rules.specs.Access.{byte}
use Rattle.access.specs.Access.{enabled, byte_for}
use Rattle.any_device.specs.Device.{held_back, stored_bit, swept, written_bit, touches, updated_bit, not_hosted, ended_bit, shown_bit, places_of}
use Rattle.any_device.specs.Kinds.{gives, of_field, touching}
use Rattle.any_device.specs.First.{no_write, first}
use Rattle.rules.specs.Device.{bits_taken, taken_by, holds_by, sweeps, pointer, spans}
use Rattle.rules.specs.Guest.{starts, flags_after, written_of, step_of, write_of}
use Rattle.rules.specs.Reset.{ended_of, end_of}
use Rattle.rules.specs.Read.{read_bit, read_value, read_of}
use Rattle.rules.specs.Host.{host_step_of, host_of}
use Rattle.rules.specs.Fresh.{fresh_of}
use Rattle.rules.specs.Ports.{not_ours, other_function, latch_of, port_lanes, port_value, port_read_of, port_write_of}
use Rattle.rules.specs.Claims.{base, aperture_base}
use Rattle.rules.specs.declared.Event.{Event}
use Rattle.rules.specs.declared.Event.TheVariants.{Write, PortRead, PortWrite, HostUpdate, EndSignal, PlatformReset}
use Rattle.rules.specs.Events.{happens, run}
use Rattle.rules.specs.History.{accepted_write, seen, deed_of, first_write, last_update}
use Rattle.past.specs.Past.{nothing, given, ran, last_given, retold}
use Rattle.rules.specs.Demand3.{code_of}

-- ---- the runs

-- SVID2 in halves, with a function reset in between, and a second write; SID2 is written only while busy, and a driver's command bits return to default
abbrev halves : List Event
halves = Write SVID2 1 0x34 ∷ Write PCICMD2 1 7 ∷ Write AFCTL 1 1 ∷ Write SVID2 12 0x56780000 ∷ EndSignal ∷ Write SVID2 2 0x1200 ∷ Write SVID2 3 0xFFFF ∷ []

-- the function reset is started, through the port pair, and not ended: writes are dropped, the host's updates are not
abbrev started : List Event
started = Write PCICMD2 1 7 ∷ PortWrite 0xCF8 4 0x800010A8 ∷ PortWrite 0xCFC 1 1 ∷ Write PCICMD2 1 0 ∷ HostUpdate DID2 0xFF 0x11 ∷ []

-- a platform reset opens both fields again; a write through the port pair closes them, and a later one finds them closed
abbrev ports : List Event
ports = Write SVID2 15 0x11112222 ∷ PlatformReset ∷ PortWrite 0xCF8 4 0x8000102C ∷ PortWrite 0xCFC 4 0xABCD1234 ∷ Write SVID2 15 0 ∷ []

-- SWSCI bit 15 is closed by a write of its default; bits 14:0 stay open
abbrev default : List Event
default = Write SWSCI 2 0 ∷ Write SWSCI 15 0x8001 ∷ []

-- DID2 is updated twice, the second time in its low bits only; VID2 is neither the guest's nor the host's
abbrev twice : List Event
twice = HostUpdate DID2 0xFF 0x11 ∷ Write VID2 15 0xFFFFFFFF ∷ HostUpdate DID2 0x0F 0x02 ∷ HostUpdate VID2 0x01 0 ∷ []

-- and a platform reset takes the updates back
abbrev taken_back : List Event
taken_back = HostUpdate DID2 0xFF 0x11 ∷ PlatformReset ∷ []

-- CAPL's bit
abbrev listed : List Event
listed = Write 0x7C 8 0x01000000 ∷ []

-- a base of ones, then 512 MB, which takes two bits; a write of code 10 keeps 11
abbrev enlarged : List Event
enlarged = Write GMADR 15 0xFFFFFFFF ∷ Write HSRW 4 0x00060000 ∷ Write HSRW 4 0x00040000 ∷ Write GMADR 15 0xFFFFFFFF ∷ []

-- bit 15 of SWSCI is not closed by byte E8
abbrev beside : List Event
beside = Write SWSCI 1 1 ∷ Write SWSCI 2 0x8000 ∷ []

-- lanes 0 close nothing
abbrev unlaned : List Event
unlaned = Write SVID2 0 0xFFFF ∷ Write SVID2 3 0x1234 ∷ []

-- the power state goes to 11, 10 and 01 leave it there, and nothing else changes
abbrev powered : List Event
powered = Write PCICMD2 1 7 ∷ Write 0xD4 1 3 ∷ Write 0xD4 1 2 ∷ Write 0xD4 1 1 ∷ []

-- the latch stays through a function reset
abbrev latching : List Event
latching = PortWrite 0xCF8 4 0x80001000 ∷ Write AFCTL 1 1 ∷ EndSignal ∷ []

-- ---- what they come to

pub record Witnessed : Type 0 where
  -- 1. write-once
  pub halves_first : (first_write svid2 halves).write ≡ first SVID2 1 0x34
  pub halves_read : read_of (run halves) SVID2 3 ≡ ok 0xFFFF0034
  pub halves_none : (first_write sid2 halves).write ≡ no_write
  pub halves_returned : read_of (run halves) PCICMD2 3 ≡ ok 0xFFFF0000
  pub ports_first : (first_write sid2 ports).write ≡ first SVID2 15 0xABCD1234
  pub ports_read : read_of (run ports) SVID2 15 ≡ ok 0xABCD1234
  pub default_first : (first_write swsci15 default).write ≡ first SWSCI 2 0
  pub default_read : read_of (run default) SWSCI 15 ≡ ok 0x00000001
  pub beside_read : read_of (run beside) SWSCI 15 ≡ ok 0x00008001
  pub unlaned_read : read_of (run unlaned) SVID2 15 ≡ ok 0x00001234
  -- 2. read-only
  pub twice_low : last_update DID2 1 twice ≡ given 1
  pub twice_high : last_update DID2 4 twice ≡ given 1
  pub twice_never : last_update VID2 0 twice ≡ nothing
  pub twice_read : read_of (run twice) VID2 15 ≡ ok 0x01128086
  pub taken_back_read : read_of (run taken_back) VID2 15 ≡ ok 0x01528086
  -- 3. the list pointer
  pub listed_read : read_of (run listed) CAPPOINT 1 ≡ ok 0xFFFFFFD0
  -- 4. the aperture
  pub enlarged_code : code_of enlarged ≡ 3
  pub enlarged_base : aperture_base (run enlarged) ≡ 0xE0000000
  -- the power state
  pub powered_read : read_of (run powered) 0xD4 15 ≡ ok 0x00000003
  pub powered_other : read_of (run powered) PCICMD2 15 ≡ ok 0x00900007
  -- 5. refused events
  pub offset_refused : (happens (Write 0x2D 15 1) fresh_of).reply ≡ no OFFSET
  pub update_refused : (happens (HostUpdate VID2 0x01 0) fresh_of).reply ≡ no NOT_HOST
  pub port_refused : (happens (PortWrite 0xCFC 4 1) (run (PortWrite 0xCF8 4 0x80001800 ∷ []))).reply ≡ no OTHER_FUNCTION
  pub function_refused : (happens (PortRead 0xCFC 4) (run (PortWrite 0xCF8 4 0x80001400 ∷ []))).reply ≡ no OTHER_FUNCTION
  pub value_refused : (happens (PortRead 0xCFC 4) fresh_of).reply ≡ no NOT_OURS
  -- 6. busy
  pub started_busy : (seen started).busy ≡ true
  pub started_read : read_of (run started) VID2 5 ≡ ok 0xFFFFFFFF
  pub started_held : byte (run started) PCICMD2 ≡ 7
  pub started_given : byte (run started) DID2 ≡ 0x11
  pub ended_busy : (seen halves).busy ≡ false
  pub latching_read : (happens (PortRead 0xCF8 4) (run latching)).reply ≡ ok 0x80001000
  -- lanes that are not enabled, and the same bytes through the port pair
  pub split_read : read_of fresh_of VID2 5 ≡ ok 0xFF52FF86
  pub high_read : read_of fresh_of VID2 12 ≡ ok 0x0152FFFF
  pub none_read : read_of fresh_of VID2 0 ≡ ok 0xFFFFFFFF
  pub refused_read : read_of fresh_of VID2 16 ≡ no LANES
  pub port_read_high : (happens (PortRead 0xCFE 2) (run (PortWrite 0xCF8 4 0x80001000 ∷ []))).reply ≡ ok 0x0152

pub witnessed : Witnessed
unfolding number_of rows row_at class_at defaults enabled byte_for bits_taken taken_by holds_by sweeps spans places_of held_back stored_bit swept written_bit touches ended_bit starts flags_after written_of step_of write_of ended_of end_of updated_bit not_hosted pointer shown_bit read_bit read_value read_of host_step_of host_of fresh_of not_ours other_function latch_of port_lanes port_value port_read_of port_write_of base happens ran retold last_given accepted_write deed_of gives of_field touching
witnessed = record {
  halves_first = refl;
  halves_read = refl;
  halves_none = refl;
  halves_returned = refl;
  ports_first = refl;
  ports_read = refl;
  default_first = refl;
  default_read = refl;
  beside_read = refl;
  unlaned_read = refl;
  powered_read = refl;
  powered_other = refl;
  twice_low = refl;
  twice_high = refl;
  twice_never = refl;
  twice_read = refl;
  taken_back_read = refl;
  listed_read = refl;
  enlarged_code = refl;
  enlarged_base = refl;
  started_busy = refl;
  started_read = refl;
  started_held = refl;
  started_given = refl;
  ended_busy = refl;
  split_read = refl;
  high_read = refl;
  none_read = refl;
  refused_read = refl;
  port_read_high = refl;
  offset_refused = refl;
  update_refused = refl;
  port_refused = refl;
  function_refused = refl;
  value_refused = refl;
  latching_read = refl;
}
