-- Two sequences that differ only in value bytes of disabled lanes leave equal states.
use mathlib.Core.Path.{◌≡◌, refl, ap, ◌∙◌}
use mathlib.Core.Bool.{Bool, true, false}
use Prim.Native.Nat.{ℕ}
use Rattle.bits.specs.Bits.{bit, byte_of}
use Rattle.bits.specs.Choice.{pick}
use Rattle.bits.proofs.Laws.{number_ext}
use Rattle.bits.proofs.Places.{bytes_ext}
use Rattle.access.specs.Access.{enabled, byte_for}
use Rattle.past.specs.Past.{nothing, or_held, ran}
use Rattle.plain.specs.Plain.{held, made}
use Rattle.any_device.specs.Device.{Device, Deed, State, class_of, written, stored_bit, written_bit, perform}
use Rattle.any_device.specs.Lanes.{Alike, same, apart, none, more, Disabled}

module _ {K P : Type 0} (d : Device K P) where
  bit_same : (s : State P) (o l v u i j : ℕ) → (enabled o l i ≡ true → byte_for o v i ≡ byte_for o u i) → stored_bit d s o l v i j ≡ stored_bit d s o l u i j
  unfolding stored_bit
  bit_same s o l v u i j e = go (enabled o l i) refl
    where
      go : (b : Bool) → enabled o l i ≡ b → or_held (pick b (written d s (byte_for o v i) (bit (byte_for o v i) j) (class_of d s i j)) nothing) (held s.bytes i j) ≡ or_held (pick b (written d s (byte_for o u i) (bit (byte_for o u i) j) (class_of d s i j)) nothing) (held s.bytes i j)
      go true q = rw (e q)
      go false q = refl

  made_same : (s : State P) (o l v u : ℕ) → ((i : ℕ) → enabled o l i ≡ true → byte_for o v i ≡ byte_for o u i) → made (stored_bit d s o l v) ≡ made (stored_bit d s o l u)
  made_same s o l v u e = bytes_ext (λ (i : ℕ). byte_of (stored_bit d s o l v i)) (λ (i : ℕ). byte_of (stored_bit d s o l u i)) (λ i h. number_ext 8 (stored_bit d s o l v i) (stored_bit d s o l u i) (λ j k. bit_same s o l v u i j (e i)))

  alike : {e f : Deed P} → Alike e f → (s : State P) → perform d e s ≡ perform d f s
  unfolding perform written_bit
  alike (same e) s = refl
  alike (apart o l v u e) s =
      rw (bytes_ext (λ (i : ℕ). byte_of (written_bit d s o l v i)) (λ (i : ℕ). byte_of (written_bit d s o l u i)) (λ i h. number_ext 8 (written_bit d s o l v i) (written_bit d s o l u i) (λ j k. rw (made_same s o l v u e, bit_same s o l v u i j (e i)))))

  pub disabled : Disabled d
  unfolding ran
  disabled _ _ none s = refl
  disabled _ _ (more {e} {f} {es} {fs} a rest) s = disabled es fs rest (perform d e s) ∙ ap (λ (t : State P). ran (perform d) t fs) (alike a s)
