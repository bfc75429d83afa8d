-- The port pair CF8h and CFCh ('The port pair'): an access of w bytes at port p.
use Rattle.std.specs.Prelude.{Bool, not, ℕ, ◌+◌, ◌-◌, ◌*◌, ◌/◌, ◌%◌, ◌^◌}
use Rattle.bits.specs.Bits.{bit, field, number_of}
use Rattle.bits.specs.Choice.{when◌then◌else◌, ◌and◌, ◌or◌, ◌is◌, ◌≤?◌, ◌<?◌, mark}
use Rattle.answer.specs.Refusals.{Reply, ok, no, WIDTH, NOT_OURS, OTHER_FUNCTION}
use Rattle.rules.specs.declared.State.{State}
use Rattle.rules.specs.Access.{Outcome, done, refused}
use Rattle.rules.specs.Guest.{step_of}
use Rattle.rules.specs.Read.{read_bit}

abbrev pub ADDRESS : ℕ
ADDRESS = 0xCF8

abbrev pub DATA : ℕ
DATA = 0xCFC

-- ---- which access

-- 4 bytes at CF8h
abbrev pub at_latch : ℕ → ℕ → Bool
at_latch p w = p is ADDRESS and w is 4

-- CFCh <= port and port + width <= D00h
abbrev pub at_data : ℕ → ℕ → Bool
at_data p w = DATA ≤? p and p + w ≤? 0xD00

-- ---- refusals 2, 3 and 4

abbrev pub bad_width : ℕ → Bool
bad_width w = not (w is 1 or w is 2 or w is 4)

-- neither 4 bytes at CF8h nor data, or data with latch bit 31 clear
unfoldable pub not_ours : ℕ → ℕ → ℕ → Bool
not_ours latch p w = not (at_latch p w) and (not (at_data p w) or bit latch 31 is 0)

-- other bus, device or function than those that are there
unfoldable pub other_function : (ℕ → ℕ → ℕ → Bool) → ℕ → Bool
other_function there latch = not (there (field latch 23 16) (field latch 15 11) (field latch 10 8))

-- where an access goes, over which functions are there: refused, to the latch, or to the data of that device
abbrev pub route : {A : Type 0} → (ℕ → ℕ → ℕ → Bool) → ℕ → ℕ → ℕ → (ℕ → A) → A → (ℕ → A) → A
route there latch p w refuse to-latch to-data =
    when bad_width w then refuse WIDTH
    else when not_ours latch p w then refuse NOT_OURS
    else when at_latch p w then to-latch
    else when other_function there latch then refuse OTHER_FUNCTION
    else to-data (field latch 15 11)

-- here bus 0, device 2, function 0 alone
abbrev pub here : ℕ → ℕ → ℕ → Bool
here bus device function = bus is 0 and device is 2 and function is 0

-- ---- the latch

-- bits 30:24 and 1:0 are zero
abbrev pub latch_bit : ℕ → ℕ → ℕ
latch_bit v n = when 24 ≤? n and n ≤? 30 or n <? 2 then 0 else bit v n

unfoldable pub latch_of : ℕ → ℕ
latch_of v = number_of 32 (latch_bit v)

abbrev pub latched : State → ℕ → State
latched s v = record { bytes = s.bytes; latch = latch_of v; flags = s.flags; window = s.window }

-- ---- data

-- the dword that latch bits 7:2 name
abbrev pub dword_of : ℕ → ℕ
dword_of latch = field latch 7 2 * 4

-- lanes from port - CFCh, as many as the width
unfoldable pub port_lanes : ℕ → ℕ → ℕ
port_lanes a w = number_of 4 (λ (k : ℕ). mark (a ≤? k and k <? a + w))

-- value bytes above the width are ignored, the others go to those lanes
abbrev pub placed : ℕ → ℕ → ℕ → ℕ
placed v a w = v % 256 ^ w * 256 ^ a

-- the w bytes from byte i on as a guest reads them, 0 above the width
unfoldable pub port_value : State → ℕ → ℕ → ℕ
port_value s i w = number_of (8 * w) (λ (n : ℕ). read_bit s (i + n / 8) (n % 8))

-- ---- the entries

unfoldable pub port_read_of : State → ℕ → ℕ → Reply
port_read_of s p w = route here s.latch p w no (ok s.latch) (λ (device : ℕ). ok (port_value s (dword_of s.latch + (p - DATA)) w))

-- an accepted data write is a guest write like any other
unfoldable pub port_write_of : State → ℕ → ℕ → ℕ → Outcome
port_write_of s p w v = route here s.latch p w (λ (n : ℕ). refused n s) (done (latched s v)) (λ (device : ℕ). done (step_of s (dword_of s.latch) (port_lanes (p - DATA) w) (placed v (p - DATA) w)))
