-- What a port access comes to: the latch that a write leaves, the bytes that a read takes out of a dword, and which accesses are data.
use mathlib.Core.Path.{◌≡◌, refl, ◌∙◌}
use mathlib.Core.Bool.{Bool, true, false, not}
use Prim.Native.Nat.{ℕ, ◌+◌, ◌-◌, ◌*◌, ◌/◌, ◌%◌, ◌^◌, ◌<◌, ◌≤◌}
use native.Mathlib.Omega.{arith}
use lib.Dec.{T, eqb, leb, ltb}
use borrow.Author.Tests.{le-ltb, eq-eqb}
use Rattle.bits.specs.Bits.{bit, pick_bit, blend_k}
use Rattle.bits.specs.Choice.{pick, both, either, mark, all_below}
use Rattle.bits.proofs.Laws.{number_ext, number<, bit_zero, bit<2, pick_bit_lem, blend_number}
use Rattle.bits.proofs.Below.{below, same, same_eq, mark<2}
use Rattle.rules.specs.declared.State.{State}
use Rattle.rules.specs.Access.{byte, busy, done}
use Rattle.rules.specs.Guest.{step_of, write_of}
use Rattle.rules.specs.Ports.{DATA, bad_width, at_latch, not_ours, latch_bit, latch_of, dword_of, port_lanes, placed, port_value}
use Rattle.rules.proofs.Lanes.{data_within, part_shown}
use Rattle.guest_read.specs.Shown.{read_dword}
use Rattle.guest_read.proofs.Bridge.{dword_bit}
use Rattle.ports.specs.Part.{Width, part_of}
use Rattle.ports.proofs.Widths.{some, good_width}

-- ---- the latch

-- bits 31, 23:2
abbrev pub latch_mask : ℕ
latch_mask = 0x80FFFFFC

abbrev dropped : ℕ → Bool
dropped n = either (both (leb 24 n) (leb n 30)) (ltb n 2)

all_latch : T (all_below 32 (λ (n : ℕ). same (eqb (bit latch_mask n) 1) (not (dropped n))))
all_latch = tt

pick_not : (b : Bool) (x y : ℕ) → pick (not b) x y ≡ pick b y x
pick_not true x y = refl
pick_not false x y = refl

pub latch_is : (v : ℕ) → blend_k 32 latch_mask 0 v ≡ latch_of v
unfolding latch_of
latch_is v =
    blend_number 32 latch_mask 0 v
    ∙ number_ext 32 (λ (n : ℕ). pick_bit (bit latch_mask n) (bit 0 n) (bit v n)) (latch_bit v)
    (λ n h. rw (bit_zero n, pick_bit_lem (bit latch_mask n) 0 (bit v n) (bit<2 latch_mask n), same_eq (eqb (bit latch_mask n) 1) (not (dropped n)) (below 32 (λ (n : ℕ). same (eqb (bit latch_mask n) 1) (not (dropped n))) all_latch n h)) (pick_not (dropped n) (bit v n) 0))

-- ---- which accesses are data

-- w bytes within CFCh to CFFh
pub record Within (p w : ℕ) : Type 0 where
  pub width : Width w
  pub room : p % 4 + w ≤ 4
  pub lane : p - DATA ≡ p % 4

-- not refused and not the latch
pub data_access : (latch p w : ℕ) → bad_width w ≡ false → not_ours latch p w ≡ false → at_latch p w ≡ false → Within p w
data_access latch p w g e n =
    let f = data_within latch p w e n in
    let from : DATA ≤ p = f.0 in
    let to : p + w ≤ 0xD00 = f.1 in
    let least : 1 ≤ w = some w (good_width w g) in
    record { width = good_width w g; room = omega arith; lane = omega arith }

-- as the code asks it
pub data_fits : (latch p w : ℕ) → bad_width w ≡ false → not_ours latch p w ≡ false → at_latch p w ≡ false → Width w × (p % 4 + w ≤ 4)
data_fits latch p w g e n =
    let d = data_access latch p w g e n in
    (d.width, d.room)

-- ---- a read

-- w bytes from byte a of a dword are those that a guest reads
pub part_is : (s : State) → ((i : ℕ) → byte s i < 2 ^ 8) → (o a w : ℕ) → o + 3 < 256 → a + w ≤ 4 → part_of (read_dword (busy s) s.bytes o) a w ≡ port_value s (o + a) w
part_is s b o a w h k = part_shown s o a w (read_dword (busy s) s.bytes o) (λ n l. dword_bit s b o (8 * a + n) h (omega arith))

pub port_part : (s : State) → ((i : ℕ) → byte s i < 2 ^ 8) → (latch p w : ℕ) → Within p w → part_of (read_dword (busy s) s.bytes (latch / 4 % 64 % 64 * 4)) (p % 4) w ≡ port_value s (dword_of latch + (p - DATA)) w
port_part s b latch p w d =
    let e : latch / 4 % 64 % 64 * 4 ≡ latch / 4 % 64 * 4 = omega arith in
    rw (e, d.lane) (part_is s b (latch / 4 % 64 * 4) (p % 4) w (omega arith) d.room)

-- ---- a write

lanes<16 : (a w : ℕ) → port_lanes a w < 16
unfolding port_lanes
lanes<16 a w = number< 4 (λ (k : ℕ). mark (both (leb a k) (ltb k (a + w)))) (λ k. mark<2 (both (leb a k) (ltb k (a + w))))

-- a write to a dword with lanes below 16 is not refused
accepted : (s : State) (o l v : ℕ) → o < 256 → o % 4 ≡ 0 → l < 16 → write_of s o l v ≡ done (step_of s o l v)
unfolding write_of
accepted s o l v h e k = rw (le-ltb 255 o (omega arith), eq-eqb (o % 4) 0 e, le-ltb 15 l (omega arith))

pub port_step : (s : State) (latch p w v : ℕ) → Within p w → write_of s (latch / 4 % 64 * 4) (port_lanes (p % 4) w) (placed v (p % 4) w) ≡ done (step_of s (dword_of latch) (port_lanes (p - DATA) w) (placed v (p - DATA) w))
port_step s latch p w v d = rw d.lane (accepted s (latch / 4 % 64 * 4) (port_lanes (p % 4) w) (placed v (p % 4) w) (omega arith) (omega arith) (lanes<16 (p % 4) w))
