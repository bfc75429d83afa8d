-- The fresh state, which a platform reset returns everything to ('How a bit behaves').
use Rattle.map.specs.Map.{defaults}
use Rattle.rules.specs.declared.State.{State}
use Rattle.rules.specs.declared.Flags.{Flags}
use Rattle.rules.specs.declared.Mapped.{Mapped}

-- fields open, not busy
abbrev pub fresh_flags : Flags
fresh_flags = record { svid2 = 0; sid2 = 0; swsci15 = 0; busy = 0 }

-- the window is clear
abbrev pub fresh_window : Mapped
fresh_window = record { fault = 0; assrreq = 0; mtouud = 0; mtouudh = 0; mbdsm = 0; cycles = 0 }

-- defaults, latch 0
unfoldable pub fresh_of : State
fresh_of = record { bytes = defaults; latch = 0; flags = fresh_flags; window = fresh_window }
