-- Over every run, the size code is never 10, and each bit of GMADR that it takes is 0.
use mathlib.Core.Path.{◌≡◌, refl, ap, ◌∙◌}
use mathlib.Core.List.{List}
use mathlib.Core.Bool.{Bool, true, false, not}
use Prim.Native.Nat.{ℕ, ◌+◌, ◌*◌, ◌^◌, ◌<◌}
use native.Mathlib.Omega.{arith}
use lib.Dec.{T, eqb}
use Rattle.bits.specs.Bits.{bit, number_of, byte_of}
use Rattle.bits.specs.Choice.{pick, both, all_below}
use Rattle.bits.proofs.Laws.{number_ext, number_bits, number<}
use Rattle.bits.proofs.Below.{below, both_left, both_right, is_false}
use Rattle.bits.proofs.Places.{get_or_bytes}
use Rattle.access.specs.Access.{enabled, byte_for}
use Rattle.plain.specs.Plain.{made, stored_over}
use Rattle.any_map.specs.Map.{row_at, class_at, defaults}
use Rattle.any_device.specs.Class.{special, device, by_host, has_f}
use Rattle.any_device.specs.Device as D
use Rattle.any_device.proofs.EachBit.{stored<2, written<2}
use Rattle.map.specs.Registers.{MSAC}
use Rattle.map.specs.Class.{size, taken}
use Rattle.map.specs.Map.{rows, class_of, default_at}
use Rattle.rules.specs.declared.State.{State}
use Rattle.rules.specs.Access.{byte}
use Rattle.rules.specs.Device.{size_of, taken_by, holds_by, code_in, sweeps, built_in, core}
use Rattle.rules.specs.Guest.{bit_after, written_of}
use Rattle.rules.specs.Reset.{ended_bit, ended_of}
use Rattle.rules.specs.Host.{not_host, host_bit, host_step_of}
use Rattle.rules.specs.Fresh.{fresh_of}
use Rattle.rules.specs.declared.Event.{Event}
use Rattle.rules.specs.Events.{run}
use Rattle.rules.proofs.Stored.{stored_bit, stored_form, stored_off, byte_beside, unswept, low_elsewhere, only_stored}
use Rattle.rules.proofs.EachBit.{bit_after_lem, bit_hosted, bit_ended}
use Rattle.rules.proofs.Kept.{ended_off, host_kept}
use Rattle.rules.proofs.Runs.{always}

-- ---- MSAC after a write and after a host update

-- no bit of MSAC is returned by a function reset, or is the host's
msac_plain : T (all_below 8 (λ (j : ℕ). both (not (has_f (class_of MSAC j))) (not (by_host device (class_of MSAC j)))))
unfolding rows row_at class_at
msac_plain = tt

msac_at : (j : ℕ) → j < 8 → (has_f (class_of MSAC j) ≡ false) × (by_host device (class_of MSAC j) ≡ false)
msac_at j h =
    let t = below 8 (λ (j : ℕ). both (not (has_f (class_of MSAC j))) (not (by_host device (class_of MSAC j)))) msac_plain j h in
    (is_false _ (both_left (not (has_f (class_of MSAC j))) _ t), is_false _ (both_right (not (has_f (class_of MSAC j))) _ t))

byte_after : (s : State) (o l v i : ℕ) → i < 256 → byte (written_of s o l v) i ≡ byte_of (bit_after s o l v i)
unfolding written_of
byte_after s o l v i h = get_or_bytes (λ (i : ℕ). byte_of (bit_after s o l v i)) i h

-- the size code that a store leaves
abbrev size_after : State → ℕ → ℕ → ℕ → ℕ
size_after s o l v = size_of (byte_of (stored_bit s o l v MSAC))

code_made : (s : State) (o l v : ℕ) → code_in (made (stored_bit s o l v)) ≡ size_after s o l v
code_made s o l v = ap size_of (get_or_bytes (λ (i : ℕ). byte_of (stored_bit s o l v i)) MSAC (omega arith))

size_after_lem : (s : State) (o l v : ℕ) → size_of (byte (written_of s o l v) MSAC) ≡ size_after s o l v
size_after_lem s o l v =
    ap size_of (byte_after s o l v MSAC (omega arith) ∙ number_ext 8 (bit_after s o l v MSAC) (stored_bit s o l v MSAC) (λ j k. only_stored s o l v MSAC j (λ m. unswept (class_of MSAC j).stored (low_elsewhere MSAC j (omega arith) (λ e. omega arith) k) m o l)))

size_kept : (s : State) (o l v : ℕ) → byte s MSAC < 2 ^ 8 → enabled o l MSAC ≡ false → size_after s o l v ≡ size_of (byte s MSAC)
size_kept s o l v b e = ap size_of (byte_beside s o l v MSAC b e)

msac_hosted : (s : State) (o m v : ℕ) → byte s MSAC < 2 ^ 8 → not_host o m ≡ false → byte (host_step_of s o m v) MSAC ≡ byte s MSAC
unfolding host_step_of
msac_hosted s o m v b e =
    get_or_bytes (λ (i : ℕ). byte_of (host_bit s o m v i)) MSAC (omega arith)
    ∙ number_ext 8 (host_bit s o m v MSAC) (bit (byte s MSAC)) (λ j k. host_kept s o m v MSAC j k (msac_at j k).1 e) ∙ number_bits 8 (byte s MSAC) b

msac_ended : (s : State) → byte s MSAC < 2 ^ 8 → byte (ended_of s) MSAC ≡ byte s MSAC
unfolding ended_of
msac_ended s b =
    get_or_bytes (λ (i : ℕ). byte_of (ended_bit s i)) MSAC (omega arith)
    ∙ number_ext 8 (ended_bit s MSAC) (bit (byte s MSAC)) (λ j k. ended_off s MSAC j (msac_at j k).0) ∙ number_bits 8 (byte s MSAC) b

msac< : (s : State) (o l v : ℕ) → byte (written_of s o l v) MSAC < 2 ^ 8
msac< s o l v = rw (byte_after s o l v MSAC (omega arith)) (number< 8 (bit_after s o l v MSAC) (written<2 built_in (core s) o l v MSAC))

-- ---- one bit of the aperture

module _ (i j b : ℕ) (h : i < 256) (k : j < 8) (is : (class_of i j).stored ≡ special (taken b)) (returned : has_f (class_of i j) ≡ true) (own : by_host device (class_of i j) ≡ false) (zero_default : bit (default_at i) j ≡ 0) where
  -- MSAC is a byte, and the bit is 0 where the code takes it
  record Stands (s : State) : Type 0 where
    fits : byte s MSAC < 2 ^ 8
    clear : taken_by (size_of (byte s MSAC)) b ≡ true → bit (byte s i) j ≡ 0

  ended_zero : (s : State) → ended_bit s i j ≡ 0
  unfolding D.ended_bit
  ended_zero s = rw returned zero_default

  clear_zero : (e : Bool) (code x : ℕ) → taken_by code b ≡ true → (e ≡ false → x ≡ 0) → pick (both e (taken_by code b)) 0 x ≡ 0
  clear_zero true code x t z = rw t
  clear_zero false code x t z = z refl

  after_zero : (s : State) (o l v : ℕ) → taken_by (size_after s o l v) b ≡ true → (enabled o l MSAC ≡ false → stored_bit s o l v i j ≡ 0) → bit_after s o l v i j ≡ 0
  unfolding D.written_bit D.swept sweeps
  after_zero s o l v u z = rw (is, code_made s o l v) (clear_zero (enabled o l MSAC) (size_after s o l v) (stored_bit s o l v i j) u z)

  held_zero : (s : State) (o l v : ℕ) → taken_by (size_of (byte s MSAC)) b ≡ true → stored_bit s o l v i j ≡ bit (byte s i) j
  unfolding D.held_back holds_by
  held_zero s o l v w = stored_off s o l v i j (rw (is, w))

  step_stands : (s : State) (o l v : ℕ) → Stands s → Stands (written_of s o l v)
  step_stands s o l v st = record {
    fits = msac< s o l v;
    clear = λ t.
        let u : taken_by (size_after s o l v) b ≡ true = rw (size_after_lem s o l v) at t in
        bit_after_lem s o l v i j h k ∙ after_zero s o l v u
        (λ e. let w : taken_by (size_of (byte s MSAC)) b ≡ true = rw (size_kept s o l v st.fits e) at u in held_zero s o l v w ∙ st.clear w);
  }

  host_stands : (s : State) (o m v : ℕ) → not_host o m ≡ false → Stands s → Stands (host_step_of s o m v)
  host_stands s o m v n st = record {
    fits = rw (msac_hosted s o m v st.fits n) st.fits;
    clear = λ t. bit_hosted s o m v i j h k ∙ host_kept s o m v i j k own n ∙ st.clear (rw (msac_hosted s o m v st.fits n) at t);
  }

  ended_stands : (s : State) → Stands s → Stands (ended_of s)
  ended_stands s st = record { fits = rw (msac_ended s st.fits) st.fits; clear = λ t. bit_ended s i j h k ∙ ended_zero s }

  fresh_stands : Stands fresh_of
  unfolding fresh_of defaults rows row_at
  fresh_stands = record { fits = omega arith; clear = λ t. zero_default }

  pub taken_zero : (es : List Event) → taken_by (size_of (byte (run es) MSAC)) b ≡ true → bit (byte (run es) i) j ≡ 0
  taken_zero es = (always Stands fresh_stands step_stands host_stands ended_stands (λ s x w st. record { fits = st.fits; clear = st.clear }) es).clear

-- ---- the code is never 10

size_of_bits : (f : ℕ → ℕ) → ((j : ℕ) → f j < 2) → size_of (byte_of f) ≡ f 2 * 2 + f 1
unfolding number_of
size_of_bits f b = omega (arith, b 0, b 1, b 2)

size_by_bits : (x : ℕ) → bit x 2 * 2 + bit x 1 ≡ size_of x
size_by_bits x = omega arith

-- bits 2:1 of MSAC after a write of w
module _ (s : State) (o l v : ℕ) where
  abbrev w : ℕ
  w = byte_for o v MSAC

  abbrev x : ℕ
  x = byte s MSAC

  code_bit : (j : ℕ) → (class_of MSAC j).stored ≡ special size → enabled o l MSAC ≡ true → stored_bit s o l v MSAC j ≡ pick (eqb (size_of w) 2) (bit x j) (bit w j)
  unfolding D.held_back holds_by
  code_bit j is e = stored_form s o l v MSAC j ∙ rw (e, is) (go (eqb (size_of w) 2))
    where
      go : (d : Bool) → stored_over true (not d) (bit w j) (bit x j) ≡ pick d (bit x j) (bit w j)
      go true = refl
      go false = refl

  sized : ((class_of MSAC 1).stored ≡ special size) × ((class_of MSAC 2).stored ≡ special size)
  unfolding rows row_at class_at
  sized = (refl, refl)

  code_bits : enabled o l MSAC ≡ true → stored_bit s o l v MSAC 2 * 2 + stored_bit s o l v MSAC 1 ≡ pick (eqb (size_of w) 2) (size_of x) (size_of w)
  code_bits e = rw (code_bit 2 sized.1 e, code_bit 1 sized.0 e) (go (eqb (size_of w) 2))
    where
      go : (d : Bool) → pick d (bit x 2) (bit w 2) * 2 + pick d (bit x 1) (bit w 1) ≡ pick d (size_of x) (size_of w)
      go true = size_by_bits x
      go false = size_by_bits w

not_10 : (w x : ℕ) (d : Bool) → eqb (size_of w) 2 ≡ d → eqb (size_of x) 2 ≡ false → eqb (pick d (size_of x) (size_of w)) 2 ≡ false
not_10 w x true e n = n
not_10 w x false e n = e

record Legal (s : State) : Type 0 where
  fits : byte s MSAC < 2 ^ 8
  code : eqb (size_of (byte s MSAC)) 2 ≡ false

legal_after : (s : State) (o l v : ℕ) → Legal s → (e : Bool) → enabled o l MSAC ≡ e → eqb (size_after s o l v) 2 ≡ false
legal_after s o l v st true e = rw (size_of_bits (stored_bit s o l v MSAC) (stored<2 built_in (core s) o l v MSAC), code_bits s o l v e) (not_10 (byte_for o v MSAC) (byte s MSAC) (eqb (size_of (byte_for o v MSAC)) 2) refl st.code)
legal_after s o l v st false e = rw (size_kept s o l v st.fits e) st.code

legal_step : (s : State) (o l v : ℕ) → Legal s → Legal (written_of s o l v)
legal_step s o l v st = record { fits = msac< s o l v; code = rw (size_after_lem s o l v) (legal_after s o l v st (enabled o l MSAC) refl) }

legal_host : (s : State) (o m v : ℕ) → not_host o m ≡ false → Legal s → Legal (host_step_of s o m v)
legal_host s o m v n st = record { fits = rw (msac_hosted s o m v st.fits n) st.fits; code = rw (msac_hosted s o m v st.fits n) st.code }

legal_ended : (s : State) → Legal s → Legal (ended_of s)
legal_ended s st = record { fits = rw (msac_ended s st.fits) st.fits; code = rw (msac_ended s st.fits) st.code }

legal_fresh : Legal fresh_of
unfolding fresh_of defaults rows row_at
legal_fresh = record { fits = omega arith; code = refl }

pub never_10 : (es : List Event) → eqb (size_of (byte (run es) MSAC)) 2 ≡ false
never_10 es = (always Legal legal_fresh legal_step legal_host legal_ended (λ s x w st. record { fits = st.fits; code = st.code }) es).code
