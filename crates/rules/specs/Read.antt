-- A guest read, bit by bit ('How a bit behaves').
use Rattle.std.specs.Prelude.{List, ℕ}
use Rattle.bits.specs.Choice.{when◌then◌else◌}
use Rattle.answer.specs.Refusals.{Reply}
use Rattle.plain.specs.Plain.{Bits, made, shown_value, read_reply}
use Rattle.any_device.specs.Device as D
use Rattle.rules.specs.declared.State.{State}
use Rattle.rules.specs.Access.{busy}
use Rattle.rules.specs.Device.{built_in, core}

-- bit j of byte i: what the state holds, but for the computed pointer
abbrev pub shown_bit : State → Bits
shown_bit s = D.shown_bit built_in (core s)

-- as a guest reads it: a one while busy
unfoldable pub read_bit : State → Bits
read_bit s i j = when busy s then 1 else shown_bit s i j

-- each enabled byte in its place
unfoldable pub read_value : State → ℕ → ℕ → ℕ
read_value s o l = shown_value (read_bit s) o l

unfoldable pub read_of : State → ℕ → ℕ → Reply
read_of s o l = read_reply o l (read_value s o l)

-- the 256 bytes as a guest reads them
unfoldable pub image_of : State → List ℕ
image_of s = made (read_bit s)
