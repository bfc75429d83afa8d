-- Every row of the papers' sentences holds: one test that is computed over the whole table, and one lemma from the test to the claim.
use mathlib.Core.Path.{◌≡◌, refl, ap, ◌∙◌}
use mathlib.Core.List.{List, [], ◌∷◌}
use mathlib.Core.Bool.{Bool, true, false}
use Prim.Native.Nat.{ℕ}
use lib.Dec.{T, eqb→eq}
use Rattle.bits.specs.Bits.{number_of}
use Rattle.bits.specs.Choice.{◌and◌, ◌is◌}
use Rattle.bits.proofs.Below.{both_left, both_right}
use Rattle.answer.proofs.Same.{same_reply, same_reply_lem}
use Rattle.any_map.specs.Map.{row_at, class_at, defaults}
use Rattle.map.specs.Map.{rows}
use Rattle.rules.specs.declared.State.{State}
use Rattle.access.specs.Access.{enabled, byte_for}
use Rattle.any_device.specs.Device.{held_back, stored_bit, swept, written_bit, touches, updated_bit, not_hosted, ended_bit, shown_bit, places_of}
use Rattle.rules.specs.Device.{bits_taken, taken_by, holds_by, sweeps, pointer, spans}
use Rattle.rules.specs.Guest.{starts, flags_after, written_of, step_of, write_of}
use Rattle.rules.specs.Reset.{ended_of, end_of}
use Rattle.rules.specs.Read.{read_bit, read_value, read_of}
use Rattle.rules.specs.Host.{host_step_of, host_of}
use Rattle.rules.specs.Fresh.{fresh_of}
use Rattle.rules.specs.Ports.{not_ours, other_function, latch_of, port_lanes, port_value, port_read_of, port_write_of}
use Rattle.rules.specs.Claims.{Claimed, unclaimed, claimed, Window, translation, aperture, io, base, aperture_claim, memory_claim_of, io_claim_of}
use Rattle.rules.specs.Window.{window_bit, window_read_bit, window_read_of, requested, acknowledged, window_written, window_step_of, window_write_of, beyond, masked, complete_of, recorded, faulted, fault_of, cycles_of, mirror_mask, mirrored, mirror_update_of}
use Rattle.rules.specs.Events.{window_happens, happens}
use Rattle.papers.specs.Sentences.{Step, says, memory, port, sentences, Answered, Each}

-- ---- answers, told apart by numbers

abbrev same_window : Window → Window → Bool
same_window translation translation = true
same_window translation aperture = false
same_window translation io = false
same_window aperture translation = false
same_window aperture aperture = true
same_window aperture io = false
same_window io translation = false
same_window io aperture = false
same_window io io = true

same_window_lem : (v w : Window) → T (same_window v w) → v ≡ w
same_window_lem translation translation t = refl
same_window_lem translation aperture t = absurd t
same_window_lem translation io t = absurd t
same_window_lem aperture translation t = absurd t
same_window_lem aperture aperture t = refl
same_window_lem aperture io t = absurd t
same_window_lem io translation t = absurd t
same_window_lem io aperture t = absurd t
same_window_lem io io t = refl

abbrev same_claim : Claimed → Claimed → Bool
same_claim unclaimed unclaimed = true
same_claim unclaimed (claimed w o) = false
same_claim (claimed v n) unclaimed = false
same_claim (claimed v n) (claimed w o) = same_window v w and n is o

same_claim_lem : (a b : Claimed) → T (same_claim a b) → a ≡ b
same_claim_lem unclaimed unclaimed t = refl
same_claim_lem unclaimed (claimed w o) t = absurd t
same_claim_lem (claimed v n) unclaimed t = absurd t
same_claim_lem (claimed v n) (claimed w o) t = ap (λ (x : Window). claimed x n) (same_window_lem v w (both_left (same_window v w) (n is o) t)) ∙ ap (claimed w) (eqb→eq n o (both_right (same_window v w) (n is o) t))

-- ---- the test, and what it shows

answered : State → List Step → Bool
answered s [] = true
answered s (says e r ∷ ts) = same_reply (happens e s).reply r and answered (happens e s).state ts
answered s (memory a c ∷ ts) = same_claim (memory_claim_of s a) c and answered s ts
answered s (port p c ∷ ts) = same_claim (io_claim_of s p) c and answered s ts

steps_answered : (s : State) (ts : List Step) → T (answered s ts) → Answered s ts
unfolding answered Answered
steps_answered s [] t = tt
steps_answered s (says e r ∷ ts) t =
    let p = same_reply (happens e s).reply r in
    let q = answered (happens e s).state ts in
    (same_reply_lem _ _ (both_left p q t), steps_answered (happens e s).state ts (both_right p q t))
steps_answered s (memory a c ∷ ts) t =
    let p = same_claim (memory_claim_of s a) c in
    let q = answered s ts in
    (same_claim_lem _ _ (both_left p q t), steps_answered s ts (both_right p q t))
steps_answered s (port a c ∷ ts) t =
    let p = same_claim (io_claim_of s a) c in
    let q = answered s ts in
    (same_claim_lem _ _ (both_left p q t), steps_answered s ts (both_right p q t))

all : List (List Step) → Bool
all [] = true
all (r ∷ rs) = answered fresh_of r and all rs

rows_hold : (rs : List (List Step)) → T (all rs) → Each (Answered fresh_of) rs
unfolding all Each
rows_hold [] t = tt
rows_hold (r ∷ rs) t = (steps_answered fresh_of r (both_left (answered fresh_of r) (all rs) t), rows_hold rs (both_right (answered fresh_of r) (all rs) t))

-- ---- the claim

computed : T (all sentences)
unfolding all answered sentences number_of rows row_at class_at defaults enabled byte_for bits_taken taken_by holds_by sweeps spans places_of held_back swept written_bit updated_bit not_hosted starts stored_bit touches flags_after written_of step_of write_of ended_bit ended_of end_of pointer shown_bit read_bit read_value read_of host_step_of host_of fresh_of not_ours other_function latch_of port_lanes port_value port_read_of port_write_of base aperture_claim memory_claim_of io_claim_of window_bit window_read_bit window_read_of requested acknowledged window_written window_step_of window_write_of beyond masked complete_of recorded faulted fault_of cycles_of mirror_mask mirrored mirror_update_of window_happens happens
computed = tt

pub sentences_hold : Each (Answered fresh_of) sentences
sentences_hold = rows_hold sentences computed
