-- No clause of the window is empty: for each a run, computed, in which its case happens.
use mathlib.Core.Path.{◌≡◌, refl}
use mathlib.Core.List.{List, [], ◌∷◌}
use Rattle.bits.specs.Bits.{number_of}
use Rattle.answer.specs.Refusals.{fine, ok, no, LANES, NOT_HOST, WINDOW_OFFSET}
use Rattle.map.specs.Registers.{PCICMD2, GTTMMADR, AFCTL}
use Rattle.any_map.specs.Map.{row_at, class_at, defaults}
use Rattle.map.specs.Map.{rows}
use Rattle.access.specs.Access.{enabled, byte_for}
use Rattle.any_device.specs.Device.{held_back, stored_bit, swept, written_bit, touches, ended_bit, places_of}
use Rattle.rules.specs.Device.{bits_taken, taken_by, holds_by, sweeps, spans}
use Rattle.rules.specs.Guest.{starts, flags_after, written_of, step_of, write_of}
use Rattle.rules.specs.Reset.{ended_of, end_of}
use Rattle.rules.specs.Fresh.{fresh_of}
use Rattle.past.specs.Past.{ran, last_given}
use Rattle.rules.specs.Claims.{claimed, translation, base, memory_claim_of}
use Rattle.rules.specs.Window.{FAULT_REG, ASSRREQ, MTOUUD_HIGH, MBDSM, DRAM_CYCLES, window_bit, window_read_bit, window_read_of, requested, acknowledged, window_written, window_step_of, window_write_of, beyond, masked, complete_of, recorded, faulted, fault_of, cycles_of, mirror_mask, mirrored, mirror_update_of}
use Rattle.rules.specs.declared.WindowEvent.TheVariants.{WindowRead, WindowWrite, Complete, Fault, AddCycles, MirrorUpdate}
use Rattle.rules.specs.declared.Event.{Event}
use Rattle.rules.specs.declared.Event.TheVariants.{Write, EndSignal, PlatformReset, InWindow}
use Rattle.rules.specs.Events.{window_happens, happens, run}
use Rattle.rules.specs.WindowRuns.{mirror_bit, count_next}

-- ---- the runs

-- MBDSM is updated twice, the second time in its lock alone, with a guest write in between, and a function reset
abbrev reflected : List Event
reflected = InWindow (MirrorUpdate MBDSM 0xFFF00001 0x9AB00000) ∷ InWindow (WindowWrite MBDSM 15 0) ∷ Write AFCTL 1 1 ∷ EndSignal ∷ InWindow (MirrorUpdate MBDSM 1 0xFFFFFFFF) ∷ []

-- two faults, and a third after a write that clears the first
abbrev faults : List Event
faults = InWindow (Fault 0x1152) ∷ InWindow (Fault 0x4008) ∷ []

abbrev cleared : List Event
cleared = InWindow (Fault 0x1152) ∷ InWindow (WindowWrite FAULT_REG 1 0) ∷ InWindow (Fault 0x4008) ∷ []

-- requests: without a mask, with it, with its lane not enabled; one is completed
abbrev asked : List Event
asked = InWindow (WindowWrite ASSRREQ 15 0x00000001) ∷ InWindow (WindowWrite ASSRREQ 15 0x00060006) ∷ InWindow (WindowWrite ASSRREQ 11 0x00080008) ∷ InWindow (Complete 4) ∷ []

-- the sum wraps
abbrev summed : List Event
summed = InWindow (AddCycles 0xFFFFFFFF) ∷ InWindow (AddCycles 3) ∷ []

-- while busy a guest write is dropped and the host's changes are not
abbrev busied : List Event
busied = Write AFCTL 1 1 ∷ InWindow (WindowWrite ASSRREQ 15 0x00010001) ∷ InWindow (AddCycles 7) ∷ []

-- a fault and a completion that the host gives while busy
abbrev served : List Event
served = InWindow (WindowWrite ASSRREQ 15 0x00010001) ∷ Write AFCTL 1 1 ∷ InWindow (Fault 0x1152) ∷ InWindow (Complete 1) ∷ EndSignal ∷ []

-- a fault is not cleared by a write of ones
abbrev uncleared : List Event
uncleared = InWindow (Fault 0x1152) ∷ InWindow (WindowWrite FAULT_REG 1 1) ∷ []

-- GTTMMADR is placed
abbrev placed : List Event
placed = Write GTTMMADR 15 0xF7800000 ∷ Write PCICMD2 1 2 ∷ []

-- ---- what they come to

pub record Witnessed : Type 0 where
  pub reflected_read : window_read_of (run reflected) MBDSM 15 ≡ ok 0x9AB00001
  pub reflected_bit : mirror_bit MBDSM 0 reflected ≡ 1
  pub faults_read : window_read_of (run faults) FAULT_REG 15 ≡ ok 0x00001153
  pub cleared_read : window_read_of (run cleared) FAULT_REG 15 ≡ ok 0x00004009
  pub uncleared_read : window_read_of (run uncleared) FAULT_REG 15 ≡ ok 0x00001153
  pub served_fault : window_read_of (run served) FAULT_REG 15 ≡ ok 0x00001153
  pub served_request : window_read_of (run served) ASSRREQ 15 ≡ ok 0
  pub asked_read : window_read_of (run asked) ASSRREQ 15 ≡ ok 0x00000002
  pub asked_lane : window_read_of (run asked) ASSRREQ 1 ≡ ok 0xFFFFFF02
  pub summed_read : window_read_of (run summed) DRAM_CYCLES 15 ≡ ok 0x00000002
  pub summed_total : ran count_next 0 summed ≡ 0x100000002
  pub busied_read : window_read_of (run busied) ASSRREQ 15 ≡ ok 0xFFFFFFFF
  pub busied_ended : window_read_of (end_of (run busied)) ASSRREQ 15 ≡ ok 0
  pub busied_sum : window_read_of (end_of (run busied)) DRAM_CYCLES 15 ≡ ok 7
  pub placed_claim : memory_claim_of (run placed) 0xF780810C ≡ claimed translation ASSRREQ
  pub reset_read : window_read_of (happens PlatformReset (run reflected)).state MBDSM 15 ≡ ok 0
  -- refusals in their order
  pub offset_first : (happens (InWindow (WindowRead 0x400000 16)) fresh_of).reply ≡ no WINDOW_OFFSET
  pub then_lanes : (happens (InWindow (WindowWrite MBDSM 16 0)) fresh_of).reply ≡ no LANES
  pub update_offset_first : (happens (InWindow (MirrorUpdate 0x108082 0xFFFFFFFF 0)) fresh_of).reply ≡ no WINDOW_OFFSET
  pub update_outside : (happens (InWindow (MirrorUpdate MTOUUD_HIGH 0x80 0)) fresh_of).reply ≡ no NOT_HOST
  pub update_of_none : (happens (InWindow (MirrorUpdate DRAM_CYCLES 1 1)) fresh_of).reply ≡ no NOT_HOST
  pub mask_0_of_none : (happens (InWindow (MirrorUpdate DRAM_CYCLES 0 1)) fresh_of).reply ≡ fine
  pub complete_outside : (happens (InWindow (Complete 0x10)) fresh_of).reply ≡ no NOT_HOST
  pub fault_outside : (happens (InWindow (Fault 1)) fresh_of).reply ≡ no NOT_HOST
  pub elsewhere : window_read_of (run reflected) 0x108088 15 ≡ ok 0

pub witnessed : Witnessed
unfolding number_of rows row_at class_at defaults enabled byte_for bits_taken taken_by holds_by sweeps spans places_of held_back stored_bit swept written_bit touches ended_bit starts flags_after written_of step_of write_of ended_of end_of fresh_of base memory_claim_of happens ran last_given window_bit window_read_bit window_read_of requested acknowledged window_written window_step_of window_write_of beyond masked complete_of recorded faulted fault_of cycles_of mirror_mask mirrored mirror_update_of window_happens
witnessed = record {
  reflected_read = refl;
  reflected_bit = refl;
  faults_read = refl;
  cleared_read = refl;
  uncleared_read = refl;
  served_fault = refl;
  served_request = refl;
  asked_read = refl;
  asked_lane = refl;
  summed_read = refl;
  summed_total = refl;
  busied_read = refl;
  busied_ended = refl;
  busied_sum = refl;
  placed_claim = refl;
  reset_read = refl;
  offset_first = refl;
  then_lanes = refl;
  update_offset_first = refl;
  update_outside = refl;
  update_of_none = refl;
  mask_0_of_none = refl;
  complete_outside = refl;
  fault_outside = refl;
  elsewhere = refl;
}
