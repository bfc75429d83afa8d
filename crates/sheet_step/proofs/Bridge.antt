-- What a line asks of a sheet's device over lent bytes comes to the rules, for tables whose defaults are 256 bytes.
use Rattle.std.specs.Prelude.{Option, None, Some}
use mathlib.Core.Path.{◌≡◌, refl, ap}
use mathlib.Core.List.{List}
use mathlib.Core.Bool.{Bool}
use Prim.Native.Nat.{ℕ, ◌^◌, ◌<◌}
use native.Mathlib.Omega.{arith}
use lib.Dec.{eqb, ltb}
use lib.ListN.{length, get_or}
use Rattle.bits.specs.Bits.{bit, byte_of}
use Rattle.bits.specs.Choice.{pick, both}
use Rattle.bits.proofs.Laws.{bit<2, number<}
use Rattle.bits.proofs.Below.{pick_has}
use Rattle.bits.proofs.Places.{length_bytes, at_each}
use Rattle.answer.specs.Refusals.{Reply, fine, no, OFFSET, NOT_HOST}
use Rattle.access.specs.Access.{enabled, byte_for, bad_offset}
use Rattle.plain.specs.Plain.{Bits, under, held, outside, written_bit, updated_bit}
use Rattle.access.proofs.Access.{admit_has}
use Rattle.host_updates.specs.Update.{Lent, lent}
use Rattle.plain_device.specs.declared.Tables.{Tables}
use Rattle.plain_device.specs.declared.Event.{Event}
use Rattle.plain_device.specs.declared.Event.TheVariants.{Read, Write, HostUpdate, FunctionReset, PlatformReset}
use Rattle.plain_device.specs.Device.{write_of, host_of, function_reset_of, happens}
use Rattle.plain.specs.Plain.{made}
use Rattle.plain_device.proofs.Bridge.{read_is, write_is, update_is, reset_is}
use Rattle.sheet_step.specs.Ask.{happens_in, meant_of}
use Rattle.sheet_step.specs.Player.{meant_in}

-- ---- 256 bytes

pub record Good (m : List ℕ) : Type 0 where
  pub long : length m ≡ 256
  pub fits : (i : ℕ) → get_or m i 0 < 2 ^ 8

-- what the plain rule makes: of two bits one is chosen, whatever the choice
chosen_good : (c : ℕ → ℕ → Bool) (x y : ℕ → ℕ) → Good (made (λ (i j : ℕ). pick (c i j) (bit (x i) j) (bit (y i) j)))
chosen_good c x y =
    let b : Bits = λ (i j : ℕ). pick (c i j) (bit (x i) j) (bit (y i) j) in
    record {
      long = length_bytes (λ (i : ℕ). byte_of (b i));
      fits = λ i. at_each (λ (n : ℕ). n < 2 ^ 8) 256 (λ (i : ℕ). byte_of (b i)) 0 i (omega arith) (λ i. number< 8 (b i) (λ j. pick_has (λ (n : ℕ). n < 2) (c i j) (bit (x i) j) (bit (y i) j) (bit<2 (x i) j) (bit<2 (y i) j)));
    }

-- ---- an event, and a line's

module _ (t : Tables) (m : List ℕ) (g : Good m) where
  abbrev byte : ℕ → ℕ
  byte i = get_or m i 0

  event_is : (e : Event) → happens_in t.defaults t.guests t.hosts t.resets m e ≡ happens t e m
  unfolding happens_in happens
  event_is (Read o l) = ap (λ (r : Reply). lent r m) (read_is m g.fits o l)
  event_is (Write o l v) = write_is m g.fits g.long t.guests o l v
  event_is (HostUpdate o k v) = update_is m g.fits g.long t.hosts o k v
  event_is FunctionReset = ap (lent fine) (reset_is t.resets t.defaults m g.long)
  event_is PlatformReset = refl

  pub meant_is : (q : Option Event) → meant_of t.defaults t.guests t.hosts t.resets m q ≡ meant_in t q m
  unfolding meant_of
  meant_is (Some e) = event_is e
  meant_is None = refl

  -- ---- the bytes stay 256

  module _ (d : Good t.defaults) where
    event_good : (e : Event) → Good (happens t e m).bytes
    unfolding happens write_of host_of function_reset_of
    event_good (Read o l) = g
    event_good (Write o l v) = admit_has (λ (x : Lent). Good x.bytes) (bad_offset o) OFFSET l (λ (n : ℕ). lent (no n) m) (lent fine (made (written_bit (under t.guests) (held m) o l v))) (λ r. g) (λ e. chosen_good (λ (i j : ℕ). both (enabled o l i) (under t.guests i j)) (byte_for o v) byte)
    event_good (HostUpdate o k v) = pick_has (λ (x : Lent). Good x.bytes) (ltb 255 o) (lent (no OFFSET) m) _ g (pick_has (λ (x : Lent). Good x.bytes) (outside (under t.hosts) o k) (lent (no NOT_HOST) m) (lent fine (made (updated_bit (held m) o k v))) g (chosen_good (λ (i j : ℕ). both (eqb i o) (eqb (bit k j) 1)) (λ (i : ℕ). v) byte))
    event_good FunctionReset = chosen_good (under t.resets) (λ (i : ℕ). get_or t.defaults i 0) byte
    event_good PlatformReset = d

    pub meant_good : (q : Option Event) → Good (meant_in t q m).bytes
    meant_good (Some e) = event_good e
    meant_good None = g
