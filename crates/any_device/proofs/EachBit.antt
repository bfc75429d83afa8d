-- Bit j of byte i after a deed.
use mathlib.Core.Path.{◌≡◌, refl, subst, ◌∙◌}
use mathlib.Core.List.{List}
use mathlib.Core.Bool.{Bool, true, false, not}
use Prim.Native.Nat.{ℕ, ◌<◌}
use native.Mathlib.Omega.{arith}
use lib.Dec.{T, eqb, ltb, ltb→lt}
use lib.ListN.{get_or}
use borrow.Author.Tests.{eqb-true}
use Rattle.bits.specs.Bits.{bit, byte_of}
use Rattle.bits.specs.Choice.{pick, both, all_below}
use Rattle.bits.proofs.Laws.{bit_number, bit<2}
use Rattle.bits.proofs.Below.{below, any_none, pick_has}
use Rattle.bits.proofs.Places.{get_or_bytes}
use Rattle.access.specs.Access.{enabled, byte_for}
use Rattle.past.specs.Past.{Given, nothing, given, or_held}
use Rattle.plain.specs.Plain.{Bits, held, made}
use Rattle.any_device.specs.Class.{Host, none, device, firmware, Class, hosted_by}
use Rattle.any_device.specs.Device.{Device, Deed, idle, guest, host, return, anew, is_anew, State, offered, class_of, default_bit, held_back, written, stored_bit, swept, written_bit, not_hosted, updated_bit, ended_bit, holding, fresh, perform}
use Rattle.any_device.specs.Kinds.{Told, Kind, gives}

-- ---- a bit stays a bit

-- what is given is a bit
data Small : Given → Type 0 where
  left : Small nothing
  one : {x : ℕ} → x < 2 → Small (given x)

held<2 : {g : Given} → Small g → (x : ℕ) → x < 2 → or_held g x < 2
held<2 left x h = h
held<2 (one s) x h = s

abbrev small : Given → Bool
small nothing = true
small (given x) = ltb x 2

is_small : (g : Given) → T (small g) → Small g
is_small nothing t = left
is_small (given x) t = one (ltb→lt x 2 t)

abbrev offers : Bool → ℕ → ℕ → Bool
offers c w x = small (offered c x w)

all_small : (c : Bool) → T (all_below 2 (λ (w : ℕ). all_below 2 (offers c w)))
all_small true = tt
all_small false = tt

offered_small : (c : Bool) (x w : ℕ) → x < 2 → w < 2 → Small (offered c x w)
offered_small c x w p q = is_small (offered c x w) (below 2 (offers c w) (below 2 (λ (w : ℕ). all_below 2 (offers c w)) (all_small c) w q) x p)

pub made_bit : (b : Bits) → ((i j : ℕ) → b i j < 2) → (i j : ℕ) → i < 256 → j < 8 → held (made b) i j ≡ b i j
made_bit b two i j h k = rw (get_or_bytes (λ (i : ℕ). byte_of (b i)) i h) (bit_number 8 (b i) (two i) j k)

written_small : {K P : Type 0} (d : Device K P) (s : State P) (b w : ℕ) (c : Class K) → w < 2 → Small (written d s b w c)
written_small d s b w c h = pick_has Small (held_back d s b c.stored) nothing _ left (offered_small c.clears _ w (omega arith) h)

module _ {K P : Type 0} (d : Device K P) (s : State P) where
  pub stored<2 : (o l v i j : ℕ) → stored_bit d s o l v i j < 2
  unfolding stored_bit
  stored<2 o l v i j = held<2 (pick_has Small (enabled o l i) _ nothing (written_small d _ (byte_for o v i) (bit (byte_for o v i) j) (class_of d s i j) (bit<2 (byte_for o v i) j)) left) _ (bit<2 _ j)

  pub written<2 : (o l v i j : ℕ) → written_bit d s o l v i j < 2
  unfolding written_bit
  written<2 o l v i j = pick_has (λ (x : ℕ). x < 2) (swept d (made (stored_bit d s o l v)) o l (class_of d s i j).stored) 0 (stored_bit d s o l v i j) (omega arith) (stored<2 o l v i j)

  pub updated<2 : (o m v i j : ℕ) → updated_bit d s o m v i j < 2
  unfolding updated_bit
  updated<2 o m v i j = held<2 (pick_has Small (both (eqb i o) (eqb (bit m j) 1)) _ nothing (offered_small (class_of d s i j).clears _ (bit v j) (omega arith) (bit<2 v j)) left) _ (bit<2 _ j)

  pub ended<2 : (i j : ℕ) → ended_bit d s i j < 2
  unfolding ended_bit
  ended<2 i j = pick_has (λ (x : ℕ). x < 2) (class_of d s i j).returned _ _ (bit<2 (get_or (d.defaults s.platform) i 0) j) (bit<2 (get_or s.bytes i 0) j)

-- ---- an accepted update masks no bit that has no host

nobodys : (w : Host) → hosted_by w none ≡ false
nobodys none = refl
nobodys device = refl
nobodys firmware = refl

pub unhosted : {K P : Type 0} (d : Device K P) (p : P) (w : Host) (o m i j : ℕ) → j < 8 → (d.class p i j).host ≡ none → not_hosted d p w o m ≡ false → i ≡ o → eqb (bit m j) 1 ≡ true → ⊥
unfolding not_hosted
unhosted d p w o m i j k n a q r =
    let one : both (eqb (bit m j) 1) (not (hosted_by w (d.class p o j).host)) ≡ false = any_none 8 (λ (j : ℕ). both (eqb (bit m j) 1) (not (hosted_by w (d.class p o j).host))) a j k in
    let no-host : (d.class p o j).host ≡ none = rw q at n in
    let bad : true ≡ false = rw (r, no-host, nobodys w) at one in
    subst T bad tt

-- ---- one deed, in the words of the history: in state s a guest's write of w gives the bit what the kind says, and the host's

module _ {K P : Type 0} (d : Device K P) (s : State P) (b : Bool) (k : Kind K P) (i j : ℕ) (in_map : i < 256) (in-byte : j < 8) where
  abbrev told : Told P
  told = record { platform = s.platform; touched = b }

  abbrev B : State P → ℕ
  B s = held s.bytes i j

  pub step : (e : Deed P) → (is_anew e ≡ false → (b w : ℕ) → written d s b w (class_of d s i j) ≡ k.guest_gives told w) → (is_anew e ≡ false → (m : List ℕ) (o l : ℕ) → swept d m o l (class_of d s i j).stored ≡ false) → (is_anew e ≡ false → (w : Host) (o m v : ℕ) → not_hosted d s.platform w o m ≡ false → i ≡ o → eqb (bit m j) 1 ≡ true → offered (class_of d s i j).clears 1 (bit v j) ≡ k.host_gives (bit v j)) → B (perform d e s) ≡ or_held (gives d k i j told e) (B s)
  unfolding perform written_bit stored_bit updated_bit ended_bit fresh gives
  step idle gf sf hf = refl
  step (guest o l v) gf sf hf = made_bit (written_bit d s o l v) (written<2 d s o l v) i j in_map in-byte ∙ rw (sf refl (made (stored_bit d s o l v)) o l, gf refl (byte_for o v i) (bit (byte_for o v i) j))
  step (host w o m v) gf sf hf = go (not_hosted d s.platform w o m) (eqb i o) (eqb (bit m j) 1) refl refl refl
    where
      made_host : B (holding d s (updated_bit d s o m v) s.closed) ≡ updated_bit d s o m v i j
      made_host = made_bit (updated_bit d s o m v) (updated<2 d s o m v) i j in_map in-byte

      go : (x y z : Bool) → not_hosted d s.platform w o m ≡ x → eqb i o ≡ y → eqb (bit m j) 1 ≡ z → B (pick x s (holding d s (updated_bit d s o m v) s.closed)) ≡ or_held (pick (both (not x) (both y z)) (k.host_gives (bit v j)) nothing) (B s)
      go true y z p q r = refl
      go false false z p q r = made_host ∙ rw q
      go false true false p q r = made_host ∙ rw (q, r)
      go false true true p q r = made_host ∙ rw (q, r, hf refl w o m v p (eqb-true i o q) r)
  step return gf sf hf = made_bit (ended_bit d s) (ended<2 d s) i j in_map in-byte ∙ go (class_of d s i j).returned
    where
      go : (b : Bool) → pick b (default_bit d s.platform i j) (B s) ≡ or_held (pick b (given (default_bit d s.platform i j)) nothing) (B s)
      go true = refl
      go false = refl
  step (anew p) gf sf hf = refl
