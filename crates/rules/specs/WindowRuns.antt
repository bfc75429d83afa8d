-- What holds of the window (W-207), clause by clause: after every run, or of every event in every state.
use Rattle.std.specs.Prelude.{◌≡◌, List, Bool, true, false, not, ℕ, ◌+◌, ◌*◌, ◌%◌, ◌^◌, ◌≤◌, ◌<◌}
use Rattle.bits.specs.Bits.{bit, number_of, byte_of}
use Rattle.bits.specs.Choice.{when◌then◌else◌, ◌and◌, ◌or◌, ◌is◌}
use Rattle.answer.specs.Refusals.{ok, WINDOW_OFFSET}
use Rattle.rules.specs.declared.State.{State}
use Rattle.rules.specs.Access.{busy}
use Rattle.access.specs.Access.{enabled, byte_for, reply_at}
use Rattle.past.specs.Past.{Given, nothing, given, or_held, ran, last_given}
use Rattle.plain.specs.Plain.{lane_value}
use Rattle.rules.specs.Claims.{claimed, translation, memory_claim_of}
use Rattle.rules.specs.Window.{FAULT_REG, MTOUUD, MTOUUD_HIGH, MBDSM, bad_window, window_bit, window_read_bit, window_read_of, clears, window_write_of, beyond, mirror_mask}
use Rattle.rules.specs.declared.WindowEvent.{WindowEvent}
use Rattle.rules.specs.declared.WindowEvent.TheVariants.{WindowRead, WindowWrite, Complete, Fault, AddCycles, MirrorUpdate}
use Rattle.rules.specs.declared.Event.{Event}
use Rattle.rules.specs.declared.Event.TheVariants.{Read, Write, PortRead, PortWrite, HostUpdate, EndSignal, PlatformReset, InWindow}
use Rattle.rules.specs.Events.{window_happens, happens, run}
use Rattle.rules.specs.History.{is_reset, seen}

-- ---- 1. demand 3's read-only clause, of the mirrors

abbrev pub is_mirror : ℕ → Bool
is_mirror o = o is MTOUUD or o is MTOUUD_HIGH or o is MBDSM

-- of events in the window and no others
abbrev pub of_window {ℓ} : {A : Type ℓ} → A → (WindowEvent → A) → Event → A
of_window x f (Read o l) = x
of_window x f (Write o l v) = x
of_window x f (PortRead p w) = x
of_window x f (PortWrite p w v) = x
of_window x f (HostUpdate o m v) = x
of_window x f EndSignal = x
of_window x f PlatformReset = x
of_window x f (InWindow e) = f e

-- what an event of the window gives bit n of the mirror at o, if it is an accepted update that masks it
abbrev pub mirror_gives : ℕ → ℕ → WindowEvent → Given
mirror_gives o n (WindowRead p l) = nothing
mirror_gives o n (WindowWrite p l v) = nothing
mirror_gives o n (Complete m) = nothing
mirror_gives o n (Fault v) = nothing
mirror_gives o n (AddCycles c) = nothing
mirror_gives o n (MirrorUpdate p m v) = when not (bad_window p or beyond (mirror_mask p) m) and p is o and bit m n is 1 then given (bit v n) else nothing

-- a platform reset gives it 0
abbrev pub gives : ℕ → ℕ → Event → Given
gives o n e = when is_reset e then given 0 else of_window nothing (mirror_gives o n) e

-- the last that was given; 0 where nothing was
abbrev pub mirror_bit : ℕ → ℕ → List Event → ℕ
mirror_bit o n es = or_held (last_given (λ (e : Event) (x : Unit {0}). x) (λ (x : Unit {0}). gives o n) tt es) 0

abbrev pub Mirrors : Type 0
Mirrors = (es : List Event) (o n : ℕ) → is_mirror o ≡ true → n < 32 → window_bit (run es).window o n ≡ mirror_bit o n es

-- for a reader's eye: what a guest reads there, where no function reset is under way
abbrev pub MirrorsRead : Type 0
MirrorsRead = (es : List Event) (o : ℕ) → is_mirror o ≡ true → (seen es).busy ≡ false → window_read_of (run es) o 15 ≡ ok (number_of 32 (λ (n : ℕ). mirror_bit o n es))

-- ---- 2. the cycle sum is that of the counts added since then, past 32 bits wrapped

abbrev pub counted : WindowEvent → ℕ
counted (WindowRead o l) = 0
counted (WindowWrite o l v) = 0
counted (Complete m) = 0
counted (Fault v) = 0
counted (AddCycles n) = n
counted (MirrorUpdate o m v) = 0

abbrev pub count_next : Event → ℕ → ℕ
count_next e n = when is_reset e then 0 else n + of_window 0 counted e

abbrev pub Sum : Type 0
Sum = (es : List Event) → (run es).window.cycles ≡ ran count_next 0 es % 2 ^ 32

-- ---- 3. a fault that is held stays, but for a platform reset and a guest write that clears it

abbrev pub clearing : WindowEvent → Bool
clearing (WindowRead o l) = false
clearing (WindowWrite o l v) = o is FAULT_REG and clears l v
clearing (Complete m) = false
clearing (Fault v) = false
clearing (AddCycles n) = false
clearing (MirrorUpdate o m v) = false

abbrev pub Locked : Type 0
Locked = (e : Event) (s : State) → bit s.window.fault 0 ≡ 1 → is_reset e ≡ false → of_window false clearing e ≡ false → (happens e s).state.window.fault ≡ s.window.fault

-- ---- 4. of ASSRREQ only bits 3:0 are ever held

abbrev pub Requests : Type 0
Requests = (es : List Event) (n : ℕ) → 4 ≤ n → n < 32 → bit (run es).window.assrreq n ≡ 0

-- ---- 5. a function reset leaves the window as it is, at its start and at its end: so does every event but a platform reset and those of the window

abbrev pub Left : Type 0
Left = (e : Event) (s : State) → is_reset e ≡ false → of_window true (λ (w : WindowEvent). false) e ≡ true → (happens e s).state.window ≡ s.window

-- and those of the window leave all else
abbrev pub Apart : Type 0
Apart = (e : WindowEvent) (s : State) → ((window_happens e s).state.bytes ≡ s.bytes) × ((window_happens e s).state.latch ≡ s.latch) × ((window_happens e s).state.flags ≡ s.flags)

-- ---- 6. while busy an accepted read gives FFFFFFFF, and a write changes nothing

abbrev pub WindowBusy : Type 0
WindowBusy = (s : State) → busy s ≡ true → ((o l : ℕ) → window_read_of s o l ≡ reply_at (bad_window o) WINDOW_OFFSET l 0xFFFFFFFF) × ((o l v : ℕ) → (window_write_of s o l v).state ≡ s)

-- ---- 7. an accepted read gives each enabled byte of the dword in its place, and FF in the lanes that aren't enabled; lanes 0 reads FFFFFFFF

abbrev pub WindowLanes : Type 0
WindowLanes = (s : State) (o l k : ℕ) → k < 4 → byte_for o (lane_value (window_read_bit s o) l) (o + k) ≡ (when enabled o l (o + k) then byte_of (λ (j : ℕ). window_read_bit s o (8 * k + j)) else 0xFF)

abbrev pub WindowNoLanes : Type 0
WindowNoLanes = (s : State) (o : ℕ) → lane_value (window_read_bit s o) 0 ≡ 0xFFFFFFFF

-- a write with lanes 0 changes nothing
abbrev pub WindowUnlaned : Type 0
WindowUnlaned = (s : State) (o v p n : ℕ) → n < 32 → window_bit (window_write_of s o 0 v).state.window p n ≡ window_bit s.window p n

-- ---- 8. how an address gets there: the offset of a claim of the translation window, of a multiple of 4, is an offset of the window

abbrev pub ClaimedReached : Type 0
ClaimedReached = (s : State) (a o : ℕ) → memory_claim_of s a ≡ claimed translation o → a % 4 ≡ 0 → bad_window o ≡ false
