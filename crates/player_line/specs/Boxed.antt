-- What the two machines hold, as boxes.
use Rattle.std.specs.Prelude.{List, true, false, ℕ}
use Rattle.map.specs.Map.{defaults, guests, hosts, resets}
use Rattle.rules.specs.declared.Flags.{Flags}
use Rattle.rules.specs.declared.State.{State}
use Rattle.plain_device.specs.declared.Tables.{Tables}
use Rattle.player_line.specs.Box.{Box, box}

-- a state's bytes and flags, under the map's tables
abbrev pub boxed : State → Box
boxed s = box false defaults guests hosts resets s.bytes s.flags

-- the device's tables, the bytes that it holds, and flags that it has no use for
abbrev pub boxed_with : Tables → Flags → List ℕ → Box
boxed_with t c m = box true t.defaults t.guests t.hosts t.resets m c
