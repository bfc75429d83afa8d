-- Demand 3 is proved, clause by clause; the statements are in specs/Demand3.antt.
use mathlib.Core.Path.{◌≡◌, refl, ap, ◌∙◌}
use mathlib.Core.List.{List}
use mathlib.Core.Bool.{Bool, true, false, not}
use Prim.Native.Nat.{ℕ, ◌+◌, ◌*◌, ◌/◌, ◌%◌, ◌<◌}
use native.Mathlib.Omega.{arith}
use lib.Dec.{T, eqb, ltb, eqb→eq}
use borrow.Author.Tests.{eqb-false}
use Rattle.bits.specs.Bits.{bit, number_of, byte_of}
use Rattle.bits.specs.Choice.{pick, both, either, all_below}
use Rattle.bits.proofs.Laws.{number_ext}
use Rattle.bits.proofs.Below.{below, both_left, both_right, is_true, is_false}
use Rattle.answer.specs.Refusals.{number, value, ok, no}
use Rattle.map.specs.Registers.{CAPPOINT, CAPL, MSAC, SVID2, SID2, AFCTL, SWSCI}
use Rattle.any_device.specs.Class.{is_hosted, stores}
use Rattle.any_device.specs.Device as D
use Rattle.map.specs.Class.{Field, svid2, sid2, swsci15}
use Rattle.any_map.specs.Map.{row_at, class_at, defaults}
use Rattle.map.specs.Map.{rows, class_of, default_at}
use Rattle.rules.specs.declared.State.{State}
use Rattle.rules.specs.Access.{byte, busy, Outcome, done, refused}
use Rattle.access.specs.Access.{bad_offset, bad_lanes}
use Rattle.rules.specs.Guest.{written_of, step_of, write_of}
use Rattle.rules.specs.Device.{pointer}
use Rattle.rules.specs.Read.{shown_bit, read_bit, read_value, read_of}
use Rattle.rules.specs.Host.{not_host, host_step_of, host_of}
use Rattle.rules.specs.Reset.{ended_of, end_of}
use Rattle.rules.specs.Ports.{bad_width, not_ours, at_latch, other_function, here, latched, port_lanes, port_value, port_read_of, port_write_of}
use Rattle.rules.specs.Window.{bad_window, window_read_of, window_write_of, beyond, request_mask, complete_of, fault_mask, fault_of, mirror_mask, mirror_update_of}
use Rattle.rules.specs.declared.WindowEvent.TheVariants.{WindowRead, WindowWrite, Complete, Fault, AddCycles, MirrorUpdate}
use Rattle.rules.specs.declared.Event.{Event}
use Rattle.rules.specs.declared.Event.TheVariants.{Read, Write, PortRead, PortWrite, HostUpdate, EndSignal, PlatformReset, InWindow}
use Rattle.rules.specs.Events.{window_happens, looked, happens, run}
use Rattle.rules.specs.Demand3.{WriteOnce, ReadOnly, Computed, code_of, Aperture, Refused, Reads, Busy, Started, Ended, Latch, Unlaned, Power, Poll, locked_word, ReadBack2C, ReadBack2E, ReadBackE8}
use Rattle.rules.specs.History.{Seen, seen, bit_of, first_write, over_default}
use Rattle.rules.proofs.Lanes.{read_part}
use Rattle.rules.proofs.EachBit.{bit_after_lem, bit_ended, write_state, each_bit_read}
use Rattle.rules.proofs.Histories.{once_history, fixed_history, default_holds}
use Rattle.access.proofs.Access.{good_offset, not_within}
use Rattle.rules.proofs.Stored.{left}
use Rattle.rules.proofs.Kept.{start_kept}
use Rattle.rules.proofs.NoLanes.{no_lanes_bit, no_lanes_flags}
use Rattle.rules.proofs.Runs.{seen_run}
use Rattle.rules.proofs.Numbers.{field_bit, size_named_lem}
use Rattle.rules.proofs.Size.{never_10}
use Rattle.rules.proofs.Aligned.{aligned}

pub write_once_lem : WriteOnce
write_once_lem es f i j h k is = once_history f i j h k (field_bit f i j h k is) es

pub read_only_lem : ReadOnly
read_only_lem es i j h k fixed = fixed_history i j h k fixed es

pointer_shown : (s : State) (b : Bool) → eqb (bit (byte s CAPL) 0) 1 ≡ b → byte_of (shown_bit s CAPPOINT) ≡ pick b 0xD0 0x90
unfolding D.shown_bit pointer number_of rows row_at class_at
pointer_shown s true e = rw e
pointer_shown s false e = rw e

pub list_pointer : Computed
list_pointer es = pointer_shown (run es) _ refl

pub aperture : Aperture
aperture es =
    let no-10 = eqb-false _ 2 (never_10 es) in
    let a = aligned es in
    (no-10, (a.0, a.1 ∙ ap (λ (n : ℕ). a.0 * n) (size_named_lem (code_of es) (omega arith) no-10)))

-- ---- refused events and reads

-- where its number is not 0
abbrev Unchanged : Outcome → State → Type 0
Unchanged r s = (number r.reply ≡ 0 → ⊥) → (value r.reply ≡ 0) × (r.state ≡ s)

one : (a : Bool) (n : ℕ) (s t : State) → Unchanged (pick a (refused n s) (done t)) s
one true n s t r = (refl, refl)
one false n s t r = absurd (r refl)

two : (a b : Bool) (m n : ℕ) (s t : State) → Unchanged (pick a (refused m s) (pick b (refused n s) (done t))) s
two true b m n s t r = (refl, refl)
two false true m n s t r = (refl, refl)
two false false m n s t r = absurd (r refl)

-- a read, which leaves the state
looks_two : (a b : Bool) (m n v : ℕ) (s : State) → Unchanged (looked (pick a (no m) (pick b (no n) (ok v))) s) s
looks_two true b m n v s r = (refl, refl)
looks_two false true m n v s r = (refl, refl)
looks_two false false m n v s r = absurd (r refl)

looks_three : (a b c d : Bool) (l m n u v : ℕ) (s : State) → Unchanged (looked (pick a (no l) (pick b (no m) (pick c (ok u) (pick d (no n) (ok v))))) s) s
looks_three true b c d l m n u v s r = (refl, refl)
looks_three false true c d l m n u v s r = (refl, refl)
looks_three false false true d l m n u v s r = absurd (r refl)
looks_three false false false true l m n u v s r = (refl, refl)
looks_three false false false false l m n u v s r = absurd (r refl)

three : (a b c d : Bool) (l m n : ℕ) (s t u : State) → Unchanged (pick a (refused l s) (pick b (refused m s) (pick c (done t) (pick d (refused n s) (done u))))) s
three true b c d l m n s t u r = (refl, refl)
three false true c d l m n s t u r = (refl, refl)
three false false true d l m n s t u r = absurd (r refl)
three false false false true l m n s t u r = (refl, refl)
three false false false false l m n s t u r = absurd (r refl)

pub refused_changes_nothing : Refused
unfolding happens read_of write_of host_of port_read_of port_write_of window_happens window_read_of window_write_of complete_of fault_of mirror_update_of
refused_changes_nothing (Read o l) s r = looks_two (bad_offset o) (bad_lanes l) _ _ _ s r
refused_changes_nothing (Write o l v) s r = two (bad_offset o) (bad_lanes l) _ _ s (step_of s o l v) r
refused_changes_nothing (PortRead p w) s r = looks_three (bad_width w) (not_ours s.latch p w) (at_latch p w) (other_function here s.latch) _ _ _ _ _ s r
refused_changes_nothing (PortWrite p w v) s r = three (bad_width w) (not_ours s.latch p w) (at_latch p w) (other_function here s.latch) _ _ _ s (latched s v) _ r
refused_changes_nothing (HostUpdate o m v) s r = two (ltb 255 o) (not_host o m) _ _ s (host_step_of s o m v) r
refused_changes_nothing EndSignal s r = absurd (r refl)
refused_changes_nothing PlatformReset s r = absurd (r refl)
refused_changes_nothing (InWindow (WindowRead o l)) s r = looks_two (bad_window o) (bad_lanes l) _ _ _ s r
refused_changes_nothing (InWindow (WindowWrite o l v)) s r = two (bad_window o) (bad_lanes l) _ _ s _ r
refused_changes_nothing (InWindow (Complete m)) s r = one (beyond request_mask m) _ s _ r
refused_changes_nothing (InWindow (Fault v)) s r = one (beyond fault_mask v) _ s _ r
refused_changes_nothing (InWindow (AddCycles n)) s r = absurd (r refl)
refused_changes_nothing (InWindow (MirrorUpdate o m v)) s r = two (bad_window o) (beyond (mirror_mask o) m) _ _ s _ r

pub reads_change_nothing : Reads
unfolding happens window_happens
reads_change_nothing s a b = (refl, refl, refl)

-- ---- while a function reset is under way

pub busy_is : Busy
busy_is es = ap (λ (x : Seen). x.busy) (seen_run es)

pub start_changes_nothing : Started
unfolding step_of
start_changes_nothing s o l v i j good t h k = rw (write_state s o l v) (go (not (either (bad_offset o) (bad_lanes l))) (busy s))
  where
    go : (a b : Bool) → bit (byte (pick a (pick b s (written_of s o l v)) s) i) j ≡ bit (byte s i) j
    go true true = refl
    go true false = bit_after_lem s o l v i j h k ∙ start_kept s o l v i j (good_offset o good).1 t k
    go false b = refl

pub end_is : Ended
unfolding end_of ended_of D.ended_bit
end_is s i j e h k = rw e (refl, refl, bit_ended s i j h k)

-- ---- what stays

pub latch_is : Latch
latch_is es = ap (λ (x : Seen). x.latch) (seen_run es)

pub no_lanes_no_change : Unlaned
unfolding step_of written_of
no_lanes_no_change s o v = rw (write_state s o 0 v) (go (not (either (bad_offset o) (bad_lanes 0))) (busy s))
  where
    go : (a b : Bool) → ((i j : ℕ) → i < 256 → j < 8 → bit (byte (pick a (pick b s (written_of s o 0 v)) s) i) j ≡ bit (byte s i) j) × ((pick a (pick b s (written_of s o 0 v)) s).flags ≡ s.flags) × ((pick a (pick b s (written_of s o 0 v)) s).latch ≡ s.latch)
    go true true = (λ i j h k. refl, refl, refl)
    go true false = (λ i j h k. bit_after_lem s o 0 v i j h k ∙ no_lanes_bit s o v i j, no_lanes_flags o v s.flags, refl)
    go false b = (λ i j h k. refl, refl, refl)

pub power_alone : Power
unfolding step_of
power_alone s l v i j h k n = rw (write_state s 0xD4 l v) (go (not (either (bad_offset 0xD4) (bad_lanes l))) (busy s))
  where
    go : (a b : Bool) → bit (byte (pick a (pick b s (written_of s 0xD4 l v)) s) i) j ≡ bit (byte s i) j
    go true true = refl
    go true false = bit_after_lem s 0xD4 l v i j h k ∙ left s 0xD4 l v i j (not_within 0xD4 l MSAC (λ a b. omega arith)) (not_within 0xD4 l i (λ a b. n (omega arith)))
    go false b = refl

-- ---- what a guest reads back

-- in the word at a place each bit is the field's, and is shown as it is held
abbrev locked : Field → ℕ → Bool
locked f at = all_below 16 (λ (n : ℕ). both (bit_of f (at + n / 8) (n % 8)) (not (class_of (at + n / 8) (n % 8)).computed))

word_reads : (f : Field) (at : ℕ) → T (locked f at) → at + 1 < 256 → (es : List Event) → busy (run es) ≡ false → number_of 16 (λ (n : ℕ). read_bit (run es) (at + n / 8) (n % 8)) ≡ locked_word f at es
unfolding read_bit D.shown_bit
word_reads f at t h es q =
    number_ext 16 (λ (n : ℕ). read_bit (run es) (at + n / 8) (n % 8)) (λ (n : ℕ). over_default (first_write f es) (at + n / 8) (n % 8))
    (λ n k.
    let u = below 16 (λ (n : ℕ). both (bit_of f (at + n / 8) (n % 8)) (not (class_of (at + n / 8) (n % 8)).computed)) t n k in
    let is : bit_of f (at + n / 8) (n % 8) ≡ true = is_true _ (both_left (bit_of f (at + n / 8) (n % 8)) _ u) in
    let shown : (class_of (at + n / 8) (n % 8)).computed ≡ false = is_false _ (both_right (bit_of f (at + n / 8) (n % 8)) _ u) in
    rw (q, shown) (once_history f (at + n / 8) (n % 8) (omega arith) (omega arith) (field_bit f (at + n / 8) (n % 8) (omega arith) (omega arith) is) es))

svid2_locked : T (locked svid2 SVID2)
unfolding rows row_at class_at
svid2_locked = tt

sid2_locked : T (locked sid2 SID2)
unfolding rows row_at class_at
sid2_locked = tt

-- lanes 3 are the low word, lanes 12 the high
pub read_back_2C : ReadBack2C
unfolding read_of port_lanes port_value number_of
read_back_2C es q = ap ok (read_part (run es) SVID2 0 2 2 refl ∙ omega (arith, word_reads svid2 SVID2 svid2_locked (omega arith) es (busy_is es ∙ q)))

pub read_back_2E : ReadBack2E
unfolding read_of port_lanes port_value number_of
read_back_2E es q = ap ok (read_part (run es) SVID2 2 2 0 refl ∙ omega (arith, word_reads sid2 SID2 sid2_locked (omega arith) es (busy_is es ∙ q)))

-- AFCTL has no bit that a guest write stores or the host has, and default 0
afctl_at : ℕ → Bool
afctl_at j = both (not (stores (class_of AFCTL j))) (both (not (is_hosted (class_of AFCTL j).host)) (both (not (class_of AFCTL j).computed) (eqb (bit (default_at AFCTL) j) 0)))

all_afctl : T (all_below 8 afctl_at)
unfolding afctl_at rows row_at class_at defaults
all_afctl = tt

afctl_shown : (es : List Event) (j : ℕ) → j < 8 → shown_bit (run es) AFCTL j ≡ 0
unfolding D.shown_bit afctl_at
afctl_shown es j h =
    let t = below 8 afctl_at all_afctl j h in
    let u = both_right (not (stores (class_of AFCTL j))) _ t in
    let w = both_right (not (is_hosted (class_of AFCTL j).host)) _ u in
    let own = both_left (not (is_hosted (class_of AFCTL j).host)) _ u in
    let plain : (class_of AFCTL j).computed ≡ false = is_false _ (both_left (not (class_of AFCTL j).computed) _ w) in
    rw plain (default_holds AFCTL j (omega arith) h (is_false _ (both_left (not (stores (class_of AFCTL j))) _ t)) es own ∙ eqb→eq _ _ (both_right (not (class_of AFCTL j).computed) _ w))

pub poll : Poll
unfolding read_of read_value read_bit number_of
poll es = ap ok (go (seen es).busy (busy_is es))
  where
    go : (b : Bool) → busy (run es) ≡ b → read_value (run es) AFCTL 1 ≡ pick b 0xFFFFFFFF 0xFFFFFF00
    go true e = rw e
    go false e = rw (e, afctl_shown es 0 (omega arith), afctl_shown es 1 (omega arith), afctl_shown es 2 (omega arith), afctl_shown es 3 (omega arith), afctl_shown es 4 (omega arith), afctl_shown es 5 (omega arith), afctl_shown es 6 (omega arith), afctl_shown es 7 (omega arith))

swsci_shown : (class_of (SWSCI + 1) 7).computed ≡ false
unfolding rows row_at class_at
swsci_shown = refl

pub read_back_E8 : ReadBackE8
unfolding read_of read_bit D.shown_bit
read_back_E8 es q = (read_value (run es) SWSCI 3, (refl, each_bit_read (run es) SWSCI 3 15 (omega arith) ∙ rw (busy_is es ∙ q, swsci_shown) (once_history swsci15 (SWSCI + 1) 7 (omega arith) (omega arith) (field_bit swsci15 (SWSCI + 1) 7 (omega arith) (omega arith) refl) es)))
