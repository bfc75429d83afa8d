-- A guest write ('How a bit behaves').
use Rattle.std.specs.Prelude.{Bool, ℕ}
use Rattle.bits.specs.Bits.{bit}
use Rattle.bits.specs.Choice.{when◌then◌else◌, ◌and◌, ◌is◌}
use Rattle.answer.specs.Refusals.{OFFSET}
use Rattle.access.specs.Access.{enabled, byte_for, bad_offset}
use Rattle.plain.specs.Plain.{Bits, made}
use Rattle.any_device.specs.Device as D
use Rattle.any_device.specs.Device.{raised}
use Rattle.map.specs.Registers.{AFCTL}
use Rattle.map.specs.Class.{Field, svid2, sid2, swsci15, field_number}
use Rattle.rules.specs.declared.State.{State}
use Rattle.rules.specs.declared.Flags.{Flags}
use Rattle.rules.specs.Access.{holding, busy, Outcome, outcome_at}
use Rattle.rules.specs.Device.{built_in, core}

-- ---- the function reset

-- writing 1 to bit 0 of AFCTL starts it
unfoldable pub starts : ℕ → ℕ → ℕ → Bool
starts o l v = enabled o l AFCTL and bit (byte_for o v AFCTL) 0 is 1

-- ---- the flags

-- the write enables a byte of the field
abbrev pub touches : ℕ → ℕ → Field → Bool
touches o l f = D.touches built_in o l (field_number f)

-- the first write that enables any byte of a field closes the whole field; a write that starts the function reset makes the state busy
unfoldable pub flags_after : ℕ → ℕ → ℕ → Flags → Flags
flags_after o l v c = record {
  svid2 = raised (touches o l svid2) c.svid2;
  sid2 = raised (touches o l sid2) c.sid2;
  swsci15 = raised (touches o l swsci15) c.swsci15;
  busy = raised (starts o l v) c.busy;
}

-- ---- a guest write of v to the dword at o, with lanes l

-- bit j of byte i: stored, then cleared by a write to MSAC
abbrev pub bit_after : State → ℕ → ℕ → ℕ → Bits
bit_after s o l v = D.written_bit built_in (core s) o l v

unfoldable pub written_of : State → ℕ → ℕ → ℕ → State
written_of s o l v = holding s (made (bit_after s o l v)) (flags_after o l v s.flags)

-- while busy, guest writes are dropped
unfoldable pub step_of : State → ℕ → ℕ → ℕ → State
step_of s o l v = when busy s then s else written_of s o l v

-- dropped writes answer as accepted ones; refusals come first
unfoldable pub write_of : State → ℕ → ℕ → ℕ → Outcome
write_of s o l v = outcome_at (bad_offset o) OFFSET l s (step_of s o l v)
