-- What a direct read gives lane by lane, and that a port caller sees nothing of the lanes that are not enabled.
use mathlib.Core.Path.{◌≡◌, refl, sym, ap, subst, ◌∙◌}
use mathlib.Core.Bool.{Bool, true, false, not}
use Prim.Native.Nat.{ℕ, ◌+◌, ◌-◌, ◌*◌, ◌/◌, ◌%◌, ◌^◌, ◌<◌, ◌≤◌}
use native.Mathlib.Omega.{arith}
use lib.Dec.{T, eqb, leb, ltb, leb→le}
use borrow.Author.Tests.{le-leb, lt-leb, lt-ltb, le-ltb, not-false}
use Rattle.bits.specs.Bits.{bit, number_of, byte_of}
use Rattle.bits.specs.Choice.{pick, both, mark}
use Rattle.bits.proofs.Laws.{number_ext, number_split, bit_number, bit_zero, byte_bit_lem, bytes_part}
use Rattle.bits.proofs.Below.{both_left, both_right, both_off, either_left, mark<2, mark_is}
use Rattle.answer.specs.Refusals.{number, value, ok, no, WIDTH, NOT_OURS, OTHER_FUNCTION}
use Rattle.rules.specs.declared.State.{State}
use Rattle.access.specs.Access.{bad_offset, bad_lanes}
use Rattle.rules.specs.Read.{read_bit, read_value}
use Rattle.plain.specs.Plain.{Bits, undriven, shown_value, read_reply}
use Rattle.rules.specs.Ports.{DATA, bad_width, at_latch, at_data, not_ours, other_function, here, dword_of, port_lanes, port_value, port_read_of}
use Rattle.rules.specs.Lanes.{InLanes, NoLanes, RefusedRead, Shows, Direct, ThroughPort}
use Rattle.access.proofs.Access.{enabled_at, byte_for_at}
use Rattle.rules.proofs.EachBit.{shown_bit_lem, read<2}

-- ---- a direct read

-- byte k of the value, by bit k of the lanes
byte_in : (b : Bits) (o l k : ℕ) → ((i j : ℕ) → b i j < 2) → k < 4 → shown_value b o l / 256 ^ k % 256 ≡ pick (eqb (bit l k) 1) (byte_of (b (o + k))) 0xFF
unfolding number_of
byte_in b o l k small h =
    sym (bytes_part 1 k (shown_value b o l))
    ∙ number_ext 8 (λ (j : ℕ). bit (shown_value b o l) (8 * k + j)) (λ (j : ℕ). pick (eqb (bit l k) 1) (b (o + k) j) undriven)
    (λ j g.
    let q : (8 * k + j) / 8 ≡ k = omega arith in
    let r : (8 * k + j) % 8 ≡ j = omega arith in
    shown_bit_lem b small o l (8 * k + j) (omega arith) ∙ rw (q, r))
    ∙ go (eqb (bit l k) 1)
  where
    go : (on : Bool) → number_of 8 (λ (j : ℕ). pick on (b (o + k) j) undriven) ≡ pick on (byte_of (b (o + k))) 0xFF
    go true = refl
    go false = refl

pub in_lanes : InLanes
in_lanes b o l k small h = rw (byte_for_at o (shown_value b o l) k, enabled_at o l k h) (byte_in b o l k small h)

pub no_lanes : NoLanes
unfolding number_of
no_lanes b o = number_ext 32 (λ (n : ℕ). pick (eqb (bit 0 (n / 8)) 1) (b (o + n / 8) (n % 8)) undriven) (λ (n : ℕ). undriven) (λ n h. rw (bit_zero (n / 8)))

pub refused_read : RefusedRead
refused_read o l v n = go (bad_offset o) (bad_lanes l) refl refl
  where
    go : (a b : Bool) → bad_offset o ≡ a → bad_lanes l ≡ b → value (read_reply o l v) ≡ 0
    go true b p q = rw p
    go false true p q = rw (p, q)
    go false false p q = absurd (n (rw (p, q)))

pub direct : Direct
unfolding read_value
direct s o l k h e = in_lanes (read_bit s) o l k (read<2 s) h ∙ rw e

-- ---- a data read

-- an access that is not refused by 3 and is not the latch's lies within CFCh to CFFh
pub data_within : (latch p w : ℕ) → not_ours latch p w ≡ false → at_latch p w ≡ false → (DATA ≤ p) × (p + w ≤ 0xD00)
unfolding not_ours
data_within latch p w e n =
    let t : T (at_data p w) = subst T (sym (not-false (at_data p w) (either_left (not (at_data p w)) _ (rw n at e)))) tt in
    (leb→le DATA p (both_left (leb DATA p) _ t), leb→le (p + w) 0xD00 (both_right (leb DATA p) _ t))

-- the bits of w bytes, counted from the dword's start or from byte a
from_byte : (s : State) (o a w : ℕ) → number_of (8 * w) (λ (n : ℕ). read_bit s (o + (8 * a + n) / 8) ((8 * a + n) % 8)) ≡ port_value s (o + a) w
unfolding port_value
from_byte s o a w =
    number_ext (8 * w) (λ (n : ℕ). read_bit s (o + (8 * a + n) / 8) ((8 * a + n) % 8)) (λ (n : ℕ). read_bit s (o + a + n / 8) (n % 8))
    (λ n h.
    let i : o + (8 * a + n) / 8 ≡ o + a + n / 8 = omega arith in
    let j : (8 * a + n) % 8 ≡ n % 8 = omega arith in
    rw (i, j))

-- w bytes from byte a of a dword that shows the bytes at o there
pub part_shown : (s : State) (o a w d : ℕ) → ((n : ℕ) → n < 8 * w → bit d (8 * a + n) ≡ read_bit s (o + (8 * a + n) / 8) ((8 * a + n) % 8)) → d / 256 ^ a % 256 ^ w ≡ port_value s (o + a) w
part_shown s o a w d e = sym (bytes_part w a d) ∙ number_ext (8 * w) (λ (n : ℕ). bit d (8 * a + n)) (λ (n : ℕ). read_bit s (o + (8 * a + n) / 8) ((8 * a + n) % 8)) e ∙ from_byte s o a w

-- the lanes of w bytes from byte a on
lane_of : (a w k : ℕ) → k < 4 → eqb (bit (port_lanes a w) k) 1 ≡ both (leb a k) (ltb k (a + w))
unfolding port_lanes
lane_of a w k h = ap (λ (x : ℕ). eqb x 1) (bit_number 4 (λ (k : ℕ). mark (both (leb a k) (ltb k (a + w)))) (λ k. mark<2 (both (leb a k) (ltb k (a + w)))) k h) ∙ mark_is (both (leb a k) (ltb k (a + w)))

lane_on : (a w k : ℕ) → a ≤ k → k < a + w → a + w ≤ 4 → eqb (bit (port_lanes a w) k) 1 ≡ true
lane_on a w k g h m = lane_of a w k (omega arith) ∙ rw (le-leb a k g, lt-ltb k (a + w) h)

-- bit n of a dword that shows the enabled bytes
shows_bit : (s : State) (o l d : ℕ) → Shows s o l d → (n : ℕ) → n < 32 → eqb (bit l (n / 8)) 1 ≡ true → bit d n ≡ read_bit s (o + n / 8) (n % 8)
shows_bit s o l d shows n h e =
    let whole : 8 * (n / 8) + n % 8 ≡ n = omega arith in
    ap (bit d) (sym whole) ∙ sym (byte_bit_lem d (n / 8) (n % 8) (omega arith))
    ∙ ap (λ (x : ℕ). bit x (n % 8)) (sym (byte_for_at o d (n / 8)) ∙ shows (n / 8) (omega arith) (enabled_at o l (n / 8) (omega arith) ∙ e))
    ∙ bit_number 8 (read_bit s (o + n / 8)) (read<2 s (o + n / 8)) (n % 8) (omega arith)

pub through_port : ThroughPort
unfolding port_read_of
through_port s p w v d n e shows = go (bad_width w) (not_ours s.latch p w) (other_function here s.latch) refl (rw n at e)
  where
    go : (a b c : Bool) → not_ours s.latch p w ≡ b → pick a (no WIDTH) (pick b (no NOT_OURS) (pick c (no OTHER_FUNCTION) (ok (port_value s (dword_of s.latch + (p - DATA)) w)))) ≡ ok v → v ≡ d / 256 ^ (p - DATA) % 256 ^ w
    go true b c q r = absurd (omega (arith, ap number r))
    go false true c q r = absurd (omega (arith, ap number r))
    go false false true q r = absurd (omega (arith, ap number r))
    go false false false q r =
        let f = data_within s.latch p w q n in
        let from : DATA ≤ p = f.0 in
        let to : p + w ≤ 0xD00 = f.1 in
        sym (ap value r)
        ∙ sym (part_shown s (dword_of s.latch) (p - DATA) w d (λ m l. shows_bit s (dword_of s.latch) (port_lanes (p - DATA) w) d shows (8 * (p - DATA) + m) (omega arith) (lane_on (p - DATA) w ((8 * (p - DATA) + m) / 8) (omega arith) (omega arith) (omega arith))))

-- ---- a direct read with such lanes

-- k bytes that are not driven
abbrev pub ones : ℕ → ℕ
ones k = number_of (8 * k) (λ (n : ℕ). undriven)

module _ (s : State) (o a w r : ℕ) (e : a + (w + r) ≡ 4) where
  abbrev at : ℕ → ℕ
  at n = pick (eqb (bit (port_lanes a w) (n / 8)) 1) (read_bit s (o + n / 8) (n % 8)) undriven

  low : number_of (8 * a) at ≡ ones a
  low = number_ext (8 * a) at (λ (n : ℕ). undriven) (λ n h. rw (lane_of a w (n / 8) (omega arith), lt-leb a (n / 8) (omega arith)))

  middle : number_of (8 * w) (λ (n : ℕ). at (8 * a + n)) ≡ port_value s (o + a) w
  middle =
      number_ext (8 * w) (λ (n : ℕ). at (8 * a + n)) (λ (n : ℕ). read_bit s (o + (8 * a + n) / 8) ((8 * a + n) % 8)) (λ n h. rw (lane_on a w ((8 * a + n) / 8) (omega arith) (omega arith) (omega arith)))
      ∙ from_byte s o a w

  high : number_of (8 * r) (λ (n : ℕ). at (8 * a + (8 * w + n))) ≡ ones r
  high =
      number_ext (8 * r) (λ (n : ℕ). at (8 * a + (8 * w + n))) (λ (n : ℕ). undriven)
      (λ n h. rw (lane_of a w ((8 * a + (8 * w + n)) / 8) (omega arith), le-ltb ((8 * a + (8 * w + n)) / 8) (a + w) (omega arith), both_off (leb a ((8 * a + (8 * w + n)) / 8))))

  -- the w bytes in their place, with a bytes below and r above them that are not driven
  pub read_part : read_value s o (port_lanes a w) ≡ ones a + (port_value s (o + a) w + ones r * 2 ^ (8 * w)) * 2 ^ (8 * a)
  unfolding read_value
  read_part =
      let whole : 32 ≡ 8 * a + (8 * w + 8 * r) = omega arith in
      ap (λ (k : ℕ). number_of k at) whole ∙ number_split (8 * a) (8 * w + 8 * r) at ∙ rw (number_split (8 * w) (8 * r) (λ (n : ℕ). at (8 * a + n)), low, middle, high)
