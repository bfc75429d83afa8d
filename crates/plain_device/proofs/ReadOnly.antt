-- Demand 3's read-only clause for a plain device whose reset masks lie inside its guest masks.
use mathlib.Core.Path.{◌≡◌, refl, sym, ap, ◌∙◌}
use mathlib.Core.List.{List}
use mathlib.Core.Bool.{Bool, true, false, not}
use Prim.Native.Nat.{ℕ, ◌<◌}
use lib.Dec.{eqb, ltb}
use lib.ListN.{get_or}
use Rattle.bits.specs.Bits.{bit, byte_of}
use Rattle.bits.specs.Choice.{pick, both, either}
use Rattle.bits.proofs.Laws.{bit_number, bit<2}
use Rattle.bits.proofs.Below.{both_off, pick_has}
use Rattle.bits.proofs.Places.{get_or_bytes}
use Rattle.answer.specs.Refusals.{fine, no, OFFSET, NOT_HOST}
use Rattle.access.proofs.Access.{admit_has}
use Rattle.access.specs.Access.{enabled, byte_for, bad_offset}
use Rattle.plain.specs.Plain.{Bits, made, held, under, outside, written_bit, updated_bit, returned_bit}
use Rattle.past.specs.Past.{Given, nothing, given, or_held, ran}
use Rattle.past.proofs.History.{history}
use Rattle.plain.proofs.Plain.{no_gift}
use Rattle.host_updates.specs.Update.{Lent, lent}
use Rattle.plain_device.specs.declared.Tables.{Tables}
use Rattle.plain_device.specs.Device.{write_of, host_of, function_reset_of, happens}
use Rattle.plain_device.specs.declared.Event.{Event}
use Rattle.plain_device.specs.declared.Event.TheVariants.{Read, Write, HostUpdate, FunctionReset, PlatformReset}
use Rattle.plain_device.specs.ReadOnly.{next, run, gives, last_update, Inside, ReadOnly}

module _ (t : Tables) (inside : Inside t) (i j : ℕ) (h : i < 256) (k : j < 8) (fixed : under t.guests i j ≡ false) where
  abbrev B : List ℕ → ℕ
  B m = held m i j

  -- a bit of bytes that bits make
  made_bit : (b : Bits) → ((i j : ℕ) → b i j < 2) → B (made b) ≡ b i j
  made_bit b two = rw (get_or_bytes (λ (i : ℕ). byte_of (b i)) i h) (bit_number 8 (b i) (two i) j k)

  chosen<2 : (c : Bool) (x y a b : ℕ) → pick c (bit x a) (bit y b) < 2
  chosen<2 c x y a b = pick_has (λ (n : ℕ). n < 2) c (bit x a) (bit y b) (bit<2 x a) (bit<2 y b)

  write_bit : (o l v : ℕ) (m : List ℕ) → B (write_of t.guests m o l v).bytes ≡ B m
  unfolding write_of
  write_bit o l v m = admit_has (λ (x : Lent). B x.bytes ≡ B m) (bad_offset o) OFFSET l (λ (n : ℕ). lent (no n) m) (lent fine (made (written_bit (under t.guests) (held m) o l v))) (λ r. refl) (λ e. made_bit (written_bit (under t.guests) (held m) o l v) (λ i j. chosen<2 (both (enabled o l i) (under t.guests i j)) (byte_for o v i) (get_or m i 0) j j) ∙ rw (fixed, both_off (enabled o l i)))

  reset_bit : (m : List ℕ) → B (function_reset_of t.resets t.defaults m) ≡ B m
  unfolding function_reset_of
  reset_bit m = made_bit (returned_bit (under t.resets) (λ (i : ℕ). get_or t.defaults i 0) (held m)) (λ i j. chosen<2 (under t.resets i j) (get_or t.defaults i 0) (get_or m i 0) j j) ∙ rw (inside i j h k fixed)

  host_bit_lem : (o mask v : ℕ) (m : List ℕ) → B (host_of t.hosts m o mask v).bytes ≡ or_held (gives t i j (HostUpdate o mask v)) (B m)
  unfolding host_of gives
  host_bit_lem o mask v m = go (ltb 255 o) (outside (under t.hosts) o mask)
    where
      chosen : (x : Bool) → pick x (bit v j) (B m) ≡ or_held (pick x (given (bit v j)) nothing) (B m)
      chosen true = refl
      chosen false = refl

      go : (x y : Bool) → B (pick x (lent (no OFFSET) m) (pick y (lent (no NOT_HOST) m) (lent fine (made (updated_bit (held m) o mask v))))).bytes ≡ or_held (pick (both (not (either x y)) (both (eqb i o) (eqb (bit mask j) 1))) (given (bit v j)) nothing) (B m)
      go true y = refl
      go false true = refl
      go false false = made_bit (updated_bit (held m) o mask v) (λ i j. chosen<2 (both (eqb i o) (eqb (bit mask j) 1)) v (get_or m i 0) j j) ∙ chosen (both (eqb i o) (eqb (bit mask j) 1))

  event_bit : (e : Event) (m : List ℕ) → Unit {0} → B (next t e m) ≡ or_held (gives t i j e) (B m)
  unfolding happens gives
  event_bit (Read o l) m z = refl
  event_bit (Write o l v) m z = write_bit o l v m
  event_bit (HostUpdate o mask v) m z = host_bit_lem o mask v m
  event_bit FunctionReset m z = reset_bit m
  event_bit PlatformReset m z = refl

-- the one law of history, where the events tell nothing
module _ (t : Tables) (i j : ℕ) {S : Type 0} (step : Event → S → S) (B : S → ℕ) where
  by_law : ((e : Event) (s : S) → Unit {0} → B (step e s) ≡ or_held (gives t i j e) (B s)) → (es : List Event) (s : S) → B (ran step s es) ≡ or_held (last_update t i j es) (B s)
  by_law event es s = history step (λ (e : Event) (x : Unit {0}). x) (λ s. tt) (λ e s. refl) B (λ (x : Unit {0}). gives t i j) (λ (x : Unit {0}). Unit {0}) (λ e x g f. tt) event es s tt

pub read_only_lem : (t : Tables) → Inside t → ReadOnly t
read_only_lem t inside es i j h k fixed = by_law t i j (next t) (λ (m : List ℕ). held m i j) (event_bit t inside i j h k fixed) es t.defaults

-- a bit that neither guest nor host has holds its default: it is given nothing else
pub default_holds : (t : Tables) → Inside t → (es : List Event) (i j : ℕ) → i < 256 → j < 8 → under t.guests i j ≡ false → under t.hosts i j ≡ false → held (run t es) i j ≡ held t.defaults i j
unfolding gives ran
default_holds t inside es i j h k fixed own = read_only_lem t inside es i j h k fixed ∙ sym (by_law t i j (λ (e : Event) (x : Unit {0}). x) (λ (x : Unit {0}). held t.defaults i j) ungiven es tt)
  where
    ungiven : (e : Event) (x y : Unit {0}) → held t.defaults i j ≡ or_held (gives t i j e) (held t.defaults i j)
    ungiven (Read o l) x y = refl
    ungiven (Write o l v) x y = refl
    ungiven (HostUpdate o m v) x y = ap (λ (g : Given). or_held g (held t.defaults i j)) (sym (no_gift (under t.hosts) i j k own o m v))
    ungiven FunctionReset x y = refl
    ungiven PlatformReset x y = refl
