-- Every starred example of the paper holds of the rules: one test that antt computes over the whole table, and one lemma from the test to the claim.
use mathlib.Core.Path.{◌≡◌, refl}
use mathlib.Core.List.{List, [], ◌∷◌}
use mathlib.Core.Bool.{Bool, true}
use Prim.Native.Nat.{ℕ, zero, suc}
use lib.Dec.{T, eqb→eq}
use lib.Count.{count_trailing_zeros}
use lib.ListN.{length}
use Rattle.bits.specs.Bits.{number_of}
use Rattle.bits.specs.Choice.{◌and◌, ◌is◌}
use Rattle.bits.proofs.Below.{both_left, both_right}
use Rattle.answer.proofs.Same.{same_reply, same_reply_lem}
use Rattle.answer.proofs.Agree.{one_answer}
use Rattle.any_map.specs.Map.{row_at, class_at, defaults}
use Rattle.map.specs.Map.{rows}
use Rattle.rules.specs.declared.State.{State}
use Rattle.access.specs.Access.{enabled, byte_for}
use Rattle.any_device.specs.Device.{held_back, stored_bit, swept, written_bit, touches, ended_bit, shown_bit, places_of}
use Rattle.rules.specs.Device.{bits_taken, taken_by, holds_by, sweeps, pointer, spans}
use Rattle.rules.specs.Guest.{starts, flags_after, written_of, step_of, write_of}
use Rattle.rules.specs.Reset.{ended_of, end_of}
use Rattle.rules.specs.Read.{read_bit, read_value, read_of}
use Rattle.rules.specs.Fresh.{fresh_of}
use Rattle.rules.specs.Events.{happens}
use Rattle.probe.specs.Probe.{Reply as Probed, Kind, none, io, memory32, memory64, probe_of}
use Rattle.examples.specs.Examples.{Step, Example, session, probe, examples, Answered, Holds, Each}

-- ---- two replies, told apart by numbers

abbrev numbered : Kind → ℕ
numbered none = 0
numbered io = 1
numbered memory32 = 2
numbered memory64 = 3

-- the kind of a number
abbrev kind_at : ℕ → Kind
kind_at zero = none
kind_at (suc zero) = io
kind_at (suc (suc zero)) = memory32
kind_at (suc (suc (suc n))) = memory64

heard : (k : Kind) → kind_at (numbered k) ≡ k
heard none = refl
heard io = refl
heard memory32 = refl
heard memory64 = refl

abbrev same_probed : Probed → Probed → Bool
same_probed a b = a.number is b.number and numbered a.kind is numbered b.kind and a.exponent is b.exponent

same_probed_lem : (a b : Probed) → T (same_probed a b) → a ≡ b
same_probed_lem a b t =
    let p = a.number is b.number in
    let q = numbered a.kind is numbered b.kind in
    let r = a.exponent is b.exponent in
    let rest : T (q and r) = both_right p (q and r) t in
    let number : a.number ≡ b.number = eqb→eq _ _ (both_left p (q and r) t) in
    let kind : a.kind ≡ b.kind = one_answer numbered kind_at heard _ _ (eqb→eq _ _ (both_left q r rest)) refl in
    let exponent : a.exponent ≡ b.exponent = eqb→eq _ _ (both_right q r rest) in
    λ i. record { number = number i; kind = kind i; exponent = exponent i }

-- ---- the test, and what it shows at each row

answered : State → List Step → Bool
answered s [] = true
answered s (t ∷ ts) = same_reply (happens t.event s).reply t.reply and answered (happens t.event s).state ts

holds : Example → Bool
holds (session ts) = answered fresh_of ts
holds (probe low high r) = same_probed (probe_of low high) r

all : List Example → Bool
all [] = true
all (r ∷ rs) = holds r and all rs

steps_answered : (s : State) (ts : List Step) → T (answered s ts) → Answered s ts
unfolding answered Answered
steps_answered s [] t = tt
steps_answered s (x ∷ xs) t =
    let o = happens x.event s in
    let p = same_reply o.reply x.reply in
    let q = answered o.state xs in
    (same_reply_lem _ _ (both_left p q t), steps_answered o.state xs (both_right p q t))

row_holds : (r : Example) → T (holds r) → Holds r
unfolding holds Holds
row_holds (session ts) t = steps_answered fresh_of ts t
row_holds (probe low high r) t = same_probed_lem _ _ t

rows_hold : (rs : List Example) → T (all rs) → Each Holds rs
unfolding all Each
rows_hold [] t = tt
rows_hold (r ∷ rs) t = (row_holds r (both_left (holds r) (all rs) t), rows_hold rs (both_right (holds r) (all rs) t))

-- ---- the claim

passes : T (all examples)
unfolding all holds answered examples number_of rows row_at class_at defaults enabled byte_for bits_taken taken_by holds_by sweeps spans places_of held_back swept written_bit starts stored_bit touches flags_after written_of step_of write_of ended_bit ended_of end_of pointer shown_bit read_bit read_value read_of fresh_of happens probe_of count_trailing_zeros
passes = tt

pub examples_hold : Each Holds examples
examples_hold = rows_hold examples passes

pub twelve : length examples ≡ 12
unfolding examples
twelve = refl
