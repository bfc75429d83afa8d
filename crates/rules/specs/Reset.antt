-- The end of a function reset ('How a bit behaves'), which the host signals.
use Rattle.bits.specs.Choice.{when◌then◌else◌}
use Rattle.plain.specs.Plain.{Bits, made}
use Rattle.any_device.specs.Device as D
use Rattle.rules.specs.declared.State.{State}
use Rattle.rules.specs.declared.Flags.{Flags}
use Rattle.rules.specs.Access.{holding, busy}
use Rattle.rules.specs.Device.{built_in, core}

-- F bits return to default, the bit that starts the reset is 0, its default, every other bit stays
abbrev pub ended_bit : State → Bits
ended_bit s = D.ended_bit built_in (core s)

-- no longer busy; the write-once fields stay
abbrev pub idle : Flags → Flags
idle c = record { svid2 = c.svid2; sid2 = c.sid2; swsci15 = c.swsci15; busy = 0 }

unfoldable pub ended_of : State → State
ended_of s = holding s (made (ended_bit s)) (idle s.flags)

-- the end signal; when not busy it changes nothing
unfoldable pub end_of : State → State
end_of s = when busy s then ended_of s else s
