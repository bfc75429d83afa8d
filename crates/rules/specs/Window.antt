-- The window inside GTTMMADR (W-207): memory-mapped registers, reached by an offset and byte lanes.
use Rattle.std.specs.Prelude.{Bool, not, ℕ, ◌+◌, ◌/◌, ◌%◌, ◌^◌}
use Rattle.bits.specs.Bits.{bit, number_of}
use Rattle.bits.specs.Choice.{when◌then◌else◌, ◌and◌, ◌or◌, ◌is◌, ◌<?◌, any_below}
use Rattle.answer.specs.Refusals.{Reply, NOT_HOST, WINDOW_OFFSET}
use Rattle.rules.specs.declared.State.{State}
use Rattle.rules.specs.declared.Mapped.{Mapped}
use Rattle.rules.specs.Access.{busy, Outcome, done, refused, outcome_at}
use Rattle.access.specs.Access.{reply_at}
use Rattle.plain.specs.Plain.{lane_value}

-- ---- the registers, by their offsets

abbrev pub FAULT_REG : ℕ
FAULT_REG = 0x04094

abbrev pub ASSRREQ : ℕ
ASSRREQ = 0x0810C

-- the mirrors; MTOUUD has two dwords
abbrev pub MTOUUD : ℕ
MTOUUD = 0x108080

abbrev pub MTOUUD_HIGH : ℕ
MTOUUD_HIGH = 0x108084

abbrev pub MBDSM : ℕ
MBDSM = 0x1080C0

-- the sum of DRAM cycles
abbrev pub DRAM_CYCLES : ℕ
DRAM_CYCLES = 0x138078

-- refusal 16: the offset is above 3FFFFFh or not a multiple of 4
abbrev pub bad_window : ℕ → Bool
bad_window o = 0x3FFFFF <? o or not (o % 4 is 0)

-- ---- the registers with one of them changed, and the state with other registers; all else stays

abbrev pub with_fault : Mapped → ℕ → Mapped
with_fault w x = record { fault = x; assrreq = w.assrreq; mtouud = w.mtouud; mtouudh = w.mtouudh; mbdsm = w.mbdsm; cycles = w.cycles }

abbrev pub with_assrreq : Mapped → ℕ → Mapped
with_assrreq w x = record { fault = w.fault; assrreq = x; mtouud = w.mtouud; mtouudh = w.mtouudh; mbdsm = w.mbdsm; cycles = w.cycles }

abbrev pub with_mtouud : Mapped → ℕ → Mapped
with_mtouud w x = record { fault = w.fault; assrreq = w.assrreq; mtouud = x; mtouudh = w.mtouudh; mbdsm = w.mbdsm; cycles = w.cycles }

abbrev pub with_mtouudh : Mapped → ℕ → Mapped
with_mtouudh w x = record { fault = w.fault; assrreq = w.assrreq; mtouud = w.mtouud; mtouudh = x; mbdsm = w.mbdsm; cycles = w.cycles }

abbrev pub with_mbdsm : Mapped → ℕ → Mapped
with_mbdsm w x = record { fault = w.fault; assrreq = w.assrreq; mtouud = w.mtouud; mtouudh = w.mtouudh; mbdsm = x; cycles = w.cycles }

abbrev pub with_cycles : Mapped → ℕ → Mapped
with_cycles w x = record { fault = w.fault; assrreq = w.assrreq; mtouud = w.mtouud; mtouudh = w.mtouudh; mbdsm = w.mbdsm; cycles = x }

abbrev pub with_window : State → Mapped → State
with_window s w = record { bytes = s.bytes; latch = s.latch; flags = s.flags; window = w }

-- ---- a guest read of the dword at o, with lanes l

-- bit n: what the register holds, but ASSRREQ's mask reads 0; any other offset reads 0
unfoldable pub window_bit : Mapped → ℕ → ℕ → ℕ
window_bit w o n =
    when o is FAULT_REG then bit w.fault n
    else when o is ASSRREQ then (when n <? 16 then bit w.assrreq n else 0)
    else when o is MTOUUD then bit w.mtouud n
    else when o is MTOUUD_HIGH then bit w.mtouudh n
    else when o is MBDSM then bit w.mbdsm n
    else when o is DRAM_CYCLES then bit w.cycles n
    else 0

-- as a guest reads it: a one while busy
unfoldable pub window_read_bit : State → ℕ → ℕ → ℕ
window_read_bit s o n = when busy s then 1 else window_bit s.window o n

unfoldable pub window_read_of : State → ℕ → ℕ → Reply
window_read_of s o l = reply_at (bad_window o) WINDOW_OFFSET l (lane_value (window_read_bit s o) l)

-- ---- a guest write of v to the dword at o, with lanes l

-- a one is written to bit n, in an enabled lane
abbrev pub setting : ℕ → ℕ → ℕ → Bool
setting l v n = bit l (n / 8) is 1 and bit v n is 1

-- ASSRREQ: bits 3:0 are set by writing 1, each only where the mask bit 16 higher is 1 in the same write
abbrev pub asks : ℕ → ℕ → ℕ → Bool
asks l v n = n <? 4 and setting l v n and setting l v (n + 16)

unfoldable pub requested : ℕ → ℕ → ℕ → ℕ
requested x l v = number_of 32 (λ (n : ℕ). when asks l v n then 1 else bit x n)

-- FAULT_REG: a write with lane 0 enabled and bit 0 zero
abbrev pub clears : ℕ → ℕ → Bool
clears l v = bit l 0 is 1 and bit v 0 is 0

-- clears it all; any other changes nothing
unfoldable pub acknowledged : ℕ → ℕ → ℕ → ℕ
acknowledged x l v = when clears l v then 0 else x

-- any other offset ignores writes
unfoldable pub window_written : Mapped → ℕ → ℕ → ℕ → Mapped
window_written w o l v =
    when o is FAULT_REG then with_fault w (acknowledged w.fault l v)
    else when o is ASSRREQ then with_assrreq w (requested w.assrreq l v)
    else w

-- while busy it is dropped
unfoldable pub window_step_of : State → ℕ → ℕ → ℕ → State
window_step_of s o l v = when busy s then s else with_window s (window_written s.window o l v)

unfoldable pub window_write_of : State → ℕ → ℕ → ℕ → Outcome
window_write_of s o l v = outcome_at (bad_window o) WINDOW_OFFSET l s (window_step_of s o l v)

-- ---- the host's changes, busy or not

-- refusal 7: a bit of m is outside the mask
unfoldable pub beyond : ℕ → ℕ → Bool
beyond mask m = any_below 32 (λ (n : ℕ). bit m n is 1 and not (bit mask n is 1))

-- masked bits take the value's bits
unfoldable pub masked : ℕ → ℕ → ℕ → ℕ
masked x m v = number_of 32 (λ (n : ℕ). when bit m n is 1 then bit v n else bit x n)

-- on completion the host clears bits 3:0 of ASSRREQ
abbrev pub request_mask : ℕ
request_mask = 0xF

unfoldable pub complete_of : State → ℕ → Outcome
complete_of s m =
    when beyond request_mask m then refused NOT_HOST s
    else done (with_window s (with_assrreq s.window (masked s.window.assrreq m 0)))

-- the fault word v, with valid, bit 0, set
abbrev pub fault_mask : ℕ
fault_mask = 0x77FE

unfoldable pub recorded : ℕ → ℕ
recorded v = number_of 32 (λ (n : ℕ). when n is 0 then 1 else bit v n)

-- it is stored only while valid is 0; a later fault is lost
unfoldable pub faulted : ℕ → ℕ → ℕ
faulted x v = when bit x 0 is 0 then recorded v else x

unfoldable pub fault_of : State → ℕ → Outcome
fault_of s v =
    when beyond fault_mask v then refused NOT_HOST s
    else done (with_window s (with_fault s.window (faulted s.window.fault v)))

-- the sum wraps past 32 bits
unfoldable pub cycles_of : State → ℕ → State
cycles_of s n = with_window s (with_cycles s.window ((s.window.cycles + n) % 2 ^ 32))

-- the bits of a mirror that the device drives; of any other offset none
unfoldable pub mirror_mask : ℕ → ℕ
mirror_mask o =
    when o is MTOUUD then 0xFFF00001
    else when o is MTOUUD_HIGH then 0x7F
    else when o is MBDSM then 0xFFF00001
    else 0

unfoldable pub mirrored : Mapped → ℕ → ℕ → ℕ → Mapped
mirrored w o m v =
    when o is MTOUUD then with_mtouud w (masked w.mtouud m v)
    else when o is MTOUUD_HIGH then with_mtouudh w (masked w.mtouudh m v)
    else when o is MBDSM then with_mbdsm w (masked w.mbdsm m v)
    else w

unfoldable pub mirror_update_of : State → ℕ → ℕ → ℕ → Outcome
mirror_update_of s o m v =
    when bad_window o then refused WINDOW_OFFSET s
    else when beyond (mirror_mask o) m then refused NOT_HOST s
    else done (with_window s (mirrored s.window o m v))
