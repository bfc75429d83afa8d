-- Demand 3, clause by clause: what holds after every run of guest accesses, port accesses, host updates, end signals, events of the window and platform resets from the fresh state; of the window itself see WindowRuns.antt.
-- The clauses speak of held bits; what a guest reads while a function reset is under way is said in clause 6.
use Rattle.std.specs.Prelude.{◌≡◌, List, true, false, ℕ, ◌+◌, ◌*◌, ◌/◌, ◌%◌, ◌^◌, ◌<◌}
use Rattle.bits.specs.Bits.{bit, number_of, byte_of}
use Rattle.bits.specs.Choice.{when◌then◌else◌, ◌is◌}
use Rattle.answer.specs.Refusals.{number, value, ok}
use Rattle.map.specs.Registers.{SVID2, SID2, CAPPOINT, CAPL, MSAC, AFCTL, SWSCI}
use Rattle.any_device.specs.Class.{stores, has_f}
use Rattle.map.specs.Class.{Field, svid2, sid2, swsci15}
use Rattle.map.specs.Map.{class_of, default_at}
use Rattle.rules.specs.declared.State.{State}
use Rattle.rules.specs.Access.{byte, busy}
use Rattle.access.specs.Access.{bad_offset}
use Rattle.rules.specs.Device.{size_of}
use Rattle.rules.specs.Guest.{starts, write_of}
use Rattle.rules.specs.Read.{shown_bit, read_of}
use Rattle.plain.specs.Plain.{read_reply, shown_value}
use Rattle.rules.specs.Reset.{end_of}
use Rattle.rules.specs.Ports.{at_latch, port_value, port_write_of}
use Rattle.rules.specs.Claims.{aperture_base, unclaimed, memory_claim_of, io_claim_of}
use Rattle.rules.specs.declared.WindowEvent.TheVariants.{WindowRead}
use Rattle.rules.specs.declared.Event.{Event}
use Rattle.rules.specs.declared.Event.TheVariants.{Read, PortRead, InWindow}
use Rattle.rules.specs.Events.{happens, run}
use Rattle.rules.specs.History.{seen, bit_of, first_write, over_default, last_update, or_default}

-- 1. Since the last platform reset, or the start, each write-once field holds its default until the first accepted guest write to this
-- function that enables one of its bytes, and from then on that write's enabled bytes over the default, whatever follows. A write that is dropped counts as none.
abbrev pub WriteOnce : Type 0
WriteOnce = (es : List Event) (f : Field) (i j : ℕ) → i < 256 → j < 8 → bit_of f i j ≡ true → bit (byte (run es) i) j ≡ over_default (first_write f es) i j

-- 2. Read-only bits hold their default, or what the last accepted host update since then that masked them gave.
-- (Read-only: no guest write stores the bit. Host bits are among them; the byte behind the computed pointer and AFCTL's bit too.)
abbrev pub ReadOnly : Type 0
ReadOnly = (es : List Event) (i j : ℕ) → i < 256 → j < 8 → stores (class_of i j) ≡ false → bit (byte (run es) i) j ≡ or_default (last_update i j es) i j

-- 3. The computed list pointer follows its own rule: it is 90 or D0 by CAPL's bit.
abbrev pub Computed : Type 0
Computed = (es : List Event) → byte_of (shown_bit (run es) CAPPOINT) ≡ (when bit (byte (run es) CAPL) 0 is 1 then 0xD0 else 0x90)

-- 4. The aperture's size code is never 10b, and its base is always a multiple of the size that the code names.
abbrev pub code_of : List Event → ℕ
code_of es = size_of (byte (run es) MSAC)

-- 00 names 128 MB, 01 names 256 MB, 11 names 512 MB
abbrev pub size_named : ℕ → ℕ
size_named code = when code is 0 then 128 * 2 ^ 20 else when code is 1 then 256 * 2 ^ 20 else 512 * 2 ^ 20

abbrev pub Aperture : Type 0
Aperture = (es : List Event) → (code_of es ≡ 2 → ⊥) × ((q : ℕ) × (aperture_base (run es) ≡ q * size_named (code_of es)))

-- 5. A refused event has zero beside its number and changes nothing; a read changes nothing. In every state, of foreign making too.
abbrev pub Refused : Type 0
Refused = (e : Event) (s : State) → (number (happens e s).reply ≡ 0 → ⊥) → (value (happens e s).reply ≡ 0) × ((happens e s).state ≡ s)

abbrev pub Reads : Type 0
Reads = (s : State) (a b : ℕ) → ((happens (Read a b) s).state ≡ s) × ((happens (PortRead a b) s).state ≡ s) × ((happens (InWindow (WindowRead a b)) s).state ≡ s)

-- 6. The state is busy exactly from an accepted guest write that starts a function reset, and was not dropped, until an end signal or a platform reset.
abbrev pub Busy : Type 0
Busy = (es : List Event) → busy (run es) ≡ (seen es).busy

-- The rest of clause 6 and clause 7 hold in every state. While busy an accepted read gives FF in the enabled lanes, through the port pair in every byte of the width;
abbrev pub Ones : Type 0
Ones = (s : State) → busy s ≡ true → ((o l : ℕ) → read_of s o l ≡ read_reply o l (shown_value (λ (i j : ℕ). 1) o l)) × ((i w : ℕ) → port_value s i w ≡ number_of (8 * w) (λ (n : ℕ). 1))

-- a guest write changes nothing, through the port pair neither, but for the latch;
abbrev pub Dropped : Type 0
Dropped = (s : State) → busy s ≡ true → ((o l v : ℕ) → (write_of s o l v).state ≡ s) × ((p w v : ℕ) → at_latch p w ≡ false → (port_write_of s p w v).state ≡ s)

-- nothing is claimed.
abbrev pub Unclaimed : Type 0
Unclaimed = (s : State) (a : ℕ) → busy s ≡ true → (memory_claim_of s a ≡ unclaimed) × (io_claim_of s a ≡ unclaimed)

-- 7. A write that starts a function reset changes no held bit.
abbrev pub Started : Type 0
Started = (s : State) (o l v i j : ℕ) → bad_offset o ≡ false → starts o l v ≡ true → i < 256 → j < 8 → bit (byte (write_of s o l v).state i) j ≡ bit (byte s i) j

-- At the end signal F bits hold their defaults, and so does the bit that starts a reset, every other bit stays, the latch too, and the state is not busy.
abbrev pub Ended : Type 0
Ended = (s : State) (i j : ℕ) → busy s ≡ true → i < 256 → j < 8 → (busy (end_of s) ≡ false) × ((end_of s).latch ≡ s.latch) × (bit (byte (end_of s) i) j ≡ (when has_f (class_of i j) then bit (default_at i) j else bit (byte s i) j))

-- When not busy it changes nothing.
abbrev pub Unended : Type 0
Unended = (s : State) → busy s ≡ false → end_of s ≡ s

-- 8. The latch is what the last 4-byte write to CF8h since the last platform reset stored, or 0: nothing else changes it.
abbrev pub Latch : Type 0
Latch = (es : List Event) → (run es).latch ≡ (seen es).latch

-- 9. A write with lanes 0 changes nothing, in every state.
abbrev pub Unlaned : Type 0
Unlaned = (s : State) (o v : ℕ) → ((i j : ℕ) → i < 256 → j < 8 → bit (byte (write_of s o 0 v).state i) j ≡ bit (byte s i) j) × ((write_of s o 0 v).state.flags ≡ s.flags) × ((write_of s o 0 v).state.latch ≡ s.latch)

-- 10. No change of power state resets or alters any other bit: a write to the dword at D4 leaves every byte of the others, in every state.
abbrev pub Power : Type 0
Power = (s : State) (l v i j : ℕ) → i < 256 → j < 8 → (i / 4 * 4 ≡ 0xD4 → ⊥) → bit (byte (write_of s 0xD4 l v).state i) j ≡ bit (byte s i) j

-- ---- for a reader's eye: what a guest reads back after any run

-- the 16 bits of a write-once register, by the first write to its field; they are read where no function reset is under way
abbrev pub locked_word : Field → ℕ → List Event → ℕ
locked_word f at es = number_of 16 (λ (n : ℕ). over_default (first_write f es) (at + n / 8) (n % 8))

-- at 2C: SVID2 in the low word, SID2 in the high; the word that is not enabled reads FFFF
abbrev pub ReadBack2C : Type 0
ReadBack2C = (es : List Event) → (seen es).busy ≡ false → read_of (run es) SVID2 3 ≡ ok (locked_word svid2 SVID2 es + 0xFFFF0000)

abbrev pub ReadBack2E : Type 0
ReadBack2E = (es : List Event) → (seen es).busy ≡ false → read_of (run es) SVID2 12 ≡ ok (locked_word sid2 SID2 es * 2 ^ 16 + 0xFFFF)

-- at E8: bit 15 is the lock, whatever the other bits are
abbrev pub ReadBackE8 : Type 0
ReadBackE8 = (es : List Event) → (seen es).busy ≡ false → (v : ℕ) × ((read_of (run es) SWSCI 3 ≡ ok v) × (bit v 15 ≡ over_default (first_write swsci15 es) (SWSCI + 1) 7))

-- what a driver polls for: AFCTL, in lane 0, reads FF while busy, and 0 otherwise
abbrev pub Poll : Type 0
Poll = (es : List Event) → read_of (run es) AFCTL 1 ≡ ok (when (seen es).busy then 0xFFFFFFFF else 0xFFFFFF00)
