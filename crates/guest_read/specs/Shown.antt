-- A guest read a byte at a time, as the code makes it; proofs/Bridge.antt shows that it comes to the rule. busy: a function reset is under way.
use Rattle.std.specs.Prelude.{List, Bool, ℕ, ◌+◌, ◌%◌, get_or, set}
use Rattle.bits.specs.Bits.{joined}
use Rattle.bits.specs.Choice.{when◌then◌else◌, ◌is◌}
use Rattle.bits.specs.Places.{bytes}
use Rattle.answer.specs.Refusals.{Reply}
use Rattle.map.specs.Registers.{CAPPOINT, CAPL}
use Rattle.plain.specs.Plain.{read_reply}
use Rattle.plain.specs.Bytes.{driven_of}

-- ---- as the bytes are shown while no function reset is under way

unfoldable pub shown_byte : List ℕ → ℕ → ℕ
shown_byte m i = when i is CAPPOINT then (when get_or m CAPL 0 % 2 is 1 then 0xD0 else 0x90) else get_or m i 0

unfoldable pub shown_dword : List ℕ → ℕ → ℕ
shown_dword m o = joined (shown_byte m o) (shown_byte m (o + 1)) (shown_byte m (o + 2)) (shown_byte m (o + 3))

-- only the computed byte differs from those that are held
unfoldable pub shown_bytes : List ℕ → List ℕ
shown_bytes m = set m CAPPOINT (shown_byte m CAPPOINT)

-- ---- as a guest reads: ones while busy

unfoldable pub read_dword : Bool → List ℕ → ℕ → ℕ
read_dword busy m o = when busy then 0xFFFFFFFF else shown_dword m o

unfoldable pub read_lanes : Bool → List ℕ → ℕ → ℕ → Reply
read_lanes busy m o l = read_reply o l (driven_of l (read_dword busy m o))

unfoldable pub image_bytes : Bool → List ℕ → List ℕ
image_bytes busy m = when busy then bytes (λ (i : ℕ). 0xFF) else shown_bytes m
