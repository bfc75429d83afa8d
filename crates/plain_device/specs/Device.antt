-- A plain device's entries, by the plain rule ('How a bit behaves'; refusals 5, 6 and 7 as in 'Refusal numbers').
-- m are the 256 bytes that it holds; the tables say, byte by byte, each bit's default and who may change it.
use Rattle.plain_device.specs.declared.Registers.{Registers}
use Rattle.std.specs.Prelude.{List, ℕ, get_or}
use Rattle.bits.specs.Choice.{when◌then◌else◌, ◌<?◌}
use Rattle.answer.specs.Refusals.{Reply, fine, no, OFFSET, NOT_HOST}
use Rattle.answer.specs.Said.{says}
use Rattle.access.specs.Access.{bad_offset, admit}
use Rattle.plain.specs.Plain.{made, held, under, shown_value, read_reply, written_bit, outside, updated_bit, returned_bit}
use Rattle.host_updates.specs.Update.{Lent, lent}
use Rattle.plain_device.specs.declared.Tables.{Tables}
use Rattle.plain_device.specs.declared.Event.{Event}
use Rattle.plain_device.specs.declared.Event.TheVariants.{Read, Write, HostUpdate, FunctionReset, PlatformReset}
use Rattle.answer.specs.declared.Stepped.{Stepped}

-- ---- what is said, and the bytes afterwards

unfoldable pub read_of : List ℕ → ℕ → ℕ → Reply
read_of m o l = read_reply o l (shown_value (held m) o l)

unfoldable pub write_of : List ℕ → List ℕ → ℕ → ℕ → ℕ → Lent
write_of guests m o l v = admit (bad_offset o) OFFSET l (λ (n : ℕ). lent (no n) m) (lent fine (made (written_bit (under guests) (held m) o l v)))

unfoldable pub host_of : List ℕ → List ℕ → ℕ → ℕ → ℕ → Lent
host_of hosts m o k v =
    when 255 <? o then lent (no OFFSET) m
    else when outside (under hosts) o k then lent (no NOT_HOST) m
    else lent fine (made (updated_bit (held m) o k v))

unfoldable pub function_reset_of : List ℕ → List ℕ → List ℕ → List ℕ
function_reset_of resets defaults m = made (returned_bit (under resets) (λ (i : ℕ). get_or defaults i 0) (held m))

-- ---- what happens

unfoldable pub happens : Tables → Event → List ℕ → Lent
happens t (Read o l) m = lent (read_of m o l) m
happens t (Write o l v) m = write_of t.guests m o l v
happens t (HostUpdate o k v) m = host_of t.hosts m o k v
happens t FunctionReset m = lent fine (function_reset_of t.resets t.defaults m)
happens t PlatformReset m = lent fine t.defaults

-- ---- the answers

abbrev pub stepped : Stepped Registers → Lent
stepped r = lent (says r.answer) r.state.bytes
