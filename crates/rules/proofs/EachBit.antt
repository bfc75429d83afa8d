-- For every state, access and bit: what the bit holds afterwards, and what a read gives of it.
use mathlib.Core.Path.{◌≡◌, refl}
use mathlib.Core.Bool.{Bool, true, false, not}
use Prim.Native.Nat.{ℕ, ◌+◌, ◌/◌, ◌%◌, ◌<◌}
use native.Mathlib.Omega.{arith}
use lib.Dec.{eqb, ltb}
use Rattle.bits.specs.Bits.{bit}
use Rattle.bits.specs.Choice.{pick, both, either}
use Rattle.bits.proofs.Laws.{bit_number, bit<2}
use Rattle.bits.proofs.Below.{pick_has}
use Rattle.access.specs.Access.{bad_offset, bad_lanes}
use Rattle.plain.specs.Plain.{Bits, undriven, shown_value}
use Rattle.any_device.specs.Device as D
use Rattle.any_device.proofs.EachBit.{made_bit, written<2, updated<2, ended<2}
use Rattle.map.specs.Map.{class_of}
use Rattle.rules.specs.declared.State.{State}
use Rattle.rules.specs.Access.{byte, busy, done, refused}
use Rattle.rules.specs.Device.{pointer, built_in, core}
use Rattle.rules.specs.Guest.{bit_after, written_of, step_of, write_of}
use Rattle.rules.specs.Reset.{ended_bit, ended_of, end_of}
use Rattle.rules.specs.Read.{read_bit, read_value}
use Rattle.rules.specs.Host.{not_host, host_bit, host_step_of, host_of}

-- an accepted guest write
pub bit_after_lem : (s : State) (o l v i j : ℕ) → i < 256 → j < 8 → bit (byte (written_of s o l v) i) j ≡ bit_after s o l v i j
unfolding written_of
bit_after_lem s o l v i j h k = made_bit (bit_after s o l v) (written<2 built_in (core s) o l v) i j h k

-- the end of a function reset
pub bit_ended : (s : State) (i j : ℕ) → i < 256 → j < 8 → bit (byte (ended_of s) i) j ≡ ended_bit s i j
unfolding ended_of
bit_ended s i j h k = made_bit (ended_bit s) (ended<2 built_in (core s)) i j h k

-- an accepted host update
pub bit_hosted : (s : State) (o m v i j : ℕ) → i < 256 → j < 8 → bit (byte (host_step_of s o m v) i) j ≡ host_bit s o m v i j
unfolding host_step_of
bit_hosted s o m v i j h k = made_bit (host_bit s o m v) (updated<2 built_in (core s) o m v) i j h k

-- ---- refused or accepted

-- an entry with two refusals leaves the state, or takes the step
two_refusals : (a b : Bool) (m n : ℕ) (s t : State) → (pick a (refused m s) (pick b (refused n s) (done t))).state ≡ pick (not (either a b)) t s
two_refusals true b m n s t = refl
two_refusals false true m n s t = refl
two_refusals false false m n s t = refl

pub write_state : (s : State) (o l v : ℕ) → (write_of s o l v).state ≡ pick (not (either (bad_offset o) (bad_lanes l))) (step_of s o l v) s
unfolding write_of
write_state s o l v = two_refusals (bad_offset o) (bad_lanes l) _ _ s (step_of s o l v)

pub host_state : (s : State) (o m v : ℕ) → (host_of s o m v).state ≡ pick (not (either (ltb 255 o) (not_host o m))) (host_step_of s o m v) s
unfolding host_of
host_state s o m v = two_refusals (ltb 255 o) (not_host o m) _ _ s (host_step_of s o m v)

-- ---- the laws that a reader quotes, by the number n of the bit, below 2,048

pub each_bit_written : (s : State) (o l v n : ℕ) → n < 2048 → bit (byte (write_of s o l v).state (n / 8)) (n % 8) ≡ pick (both (not (either (bad_offset o) (bad_lanes l))) (not (busy s))) (bit_after s o l v (n / 8) (n % 8)) (bit (byte s (n / 8)) (n % 8))
unfolding step_of
each_bit_written s o l v n h = rw (write_state s o l v) (go (not (either (bad_offset o) (bad_lanes l))) (busy s))
  where
    go : (a b : Bool) → bit (byte (pick a (pick b s (written_of s o l v)) s) (n / 8)) (n % 8) ≡ pick (both a (not b)) (bit_after s o l v (n / 8) (n % 8)) (bit (byte s (n / 8)) (n % 8))
    go true true = refl
    go true false = bit_after_lem s o l v (n / 8) (n % 8) (omega arith) (omega arith)
    go false b = refl

pub each_bit_ended : (s : State) (n : ℕ) → n < 2048 → bit (byte (end_of s) (n / 8)) (n % 8) ≡ pick (busy s) (ended_bit s (n / 8) (n % 8)) (bit (byte s (n / 8)) (n % 8))
unfolding end_of
each_bit_ended s n h = go (busy s)
  where
    go : (b : Bool) → bit (byte (pick b (ended_of s) s) (n / 8)) (n % 8) ≡ pick b (ended_bit s (n / 8) (n % 8)) (bit (byte s (n / 8)) (n % 8))
    go true = bit_ended s (n / 8) (n % 8) (omega arith) (omega arith)
    go false = refl

pub each_bit_updated : (s : State) (o m v n : ℕ) → n < 2048 → bit (byte (host_of s o m v).state (n / 8)) (n % 8) ≡ pick (not (either (ltb 255 o) (not_host o m))) (host_bit s o m v (n / 8) (n % 8)) (bit (byte s (n / 8)) (n % 8))
each_bit_updated s o m v n h = rw (host_state s o m v) (go (not (either (ltb 255 o) (not_host o m))))
  where
    go : (a : Bool) → bit (byte (pick a (host_step_of s o m v) s) (n / 8)) (n % 8) ≡ pick a (host_bit s o m v (n / 8) (n % 8)) (bit (byte s (n / 8)) (n % 8))
    go true = bit_hosted s o m v (n / 8) (n % 8) (omega arith) (omega arith)
    go false = refl

pub read<2 : (s : State) (i j : ℕ) → read_bit s i j < 2
unfolding read_bit D.shown_bit
read<2 s i j = pick_has (λ (x : ℕ). x < 2) (busy s) 1 _ (omega arith) (pick_has (λ (x : ℕ). x < 2) (class_of i j).computed (bit (pointer s.bytes) j) (bit (byte s i) j) (bit<2 (pointer s.bytes) j) (bit<2 (byte s i) j))

-- bit n of a read's value: that of the byte in its lane where the lane is enabled, an undriven one elsewhere; for any bits
pub shown_bit_lem : (b : Bits) → ((i j : ℕ) → b i j < 2) → (o l n : ℕ) → n < 32 → bit (shown_value b o l) n ≡ pick (eqb (bit l (n / 8)) 1) (b (o + n / 8) (n % 8)) undriven
shown_bit_lem b small o l n h = bit_number 32 (λ (n : ℕ). pick (eqb (bit l (n / 8)) 1) (b (o + n / 8) (n % 8)) undriven) (λ n. pick_has (λ (x : ℕ). x < 2) (eqb (bit l (n / 8)) 1) (b (o + n / 8) (n % 8)) undriven (small (o + n / 8) (n % 8)) (omega arith)) n h

pub each_bit_read : (s : State) (o l n : ℕ) → n < 32 → bit (read_value s o l) n ≡ pick (eqb (bit l (n / 8)) 1) (read_bit s (o + n / 8) (n % 8)) undriven
unfolding read_value
each_bit_read s o l n h = shown_bit_lem (read_bit s) (read<2 s) o l n h
