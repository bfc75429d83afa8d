-- The first write, by the same law: the fold that remembers it is a machine whose events give the bit what the kind says.
use mathlib.Core.Path.{◌≡◌, refl, sym, ap, subst, ◌∙◌}
use mathlib.Core.List.{List}
use mathlib.Core.Bool.{Bool, true, false, not}
use Prim.Native.Nat.{ℕ, ◌+◌, ◌-◌, ◌<◌, ◌≤◌}
use native.Mathlib.Omega.{arith}
use lib.Dec.{T, eqb, leb, ltb, leb→le, ltb→lt}
use borrow.Author.Tests.{eq-eqb}
use Rattle.bits.specs.Bits.{bit}
use Rattle.bits.specs.Choice.{pick, both, either}
use Rattle.bits.proofs.Below.{any_has, both_left, both_right, is_true, pick_has}
use Rattle.access.specs.Access.{enabled, byte_for}
use Rattle.past.specs.Past.{Given, nothing, given, or_held, ran}
use Rattle.past.proofs.History.{seen_run, history}
use Rattle.any_device.specs.Class.{once, Class, of_once}
use Rattle.plain.specs.Plain.{held}
use Rattle.any_device.specs.Device.{Device, Deed, idle, guest, host, return, anew, is_closed, default_bit, not_hosted}
use Rattle.any_device.specs.Kinds.{Told, start, tell, platform_of, run, gives, WriteOnce, of_field, touching, Placed}
use Rattle.any_device.specs.First.{First, no_write, first, Since, or_first, remember, over_default, first_since, Locked, FirstWrite}
use Rattle.any_device.proofs.Histories.{write_once_lem, closed_run, stays}

abbrev wrote : First → Bool
wrote no_write = false
wrote (first o l v) = true

module _ {K P : Type 0} (d : Device K P) (f : ℕ) where
  abbrev told_of : Since P → Told P
  told_of y = record { platform = y.platform; touched = wrote y.write }

  tells : (e : Deed P) (y : Since P) → told_of (remember (touching d f) e y) ≡ tell (touching d f) e (told_of y)
  tells idle y = refl
  tells (guest o l v) y = rw (go y.write (touching d f y.platform o l))
    where
      go : (w : First) (b : Bool) → wrote (or_first w (pick b (first o l v) no_write)) ≡ either b (wrote w)
      go no_write true = refl
      go no_write false = refl
      go (first a c x) true = refl
      go (first a c x) false = refl
  tells (host h o m v) y = refl
  tells return y = refl
  tells (anew p) y = refl

  -- a write that enables a byte of the field touches it
  touched : (p : P) (i j o l : ℕ) → j < 8 → (d.class p i j).stored ≡ once f → T (enabled o l i) → touching d f p o l ≡ true
  unfolding touching of_field enabled
  touched p i j o l k is t =
      let from : o ≤ i = leb→le o i (both_left (leb o i) _ t) in
      let to : i < o + 4 = ltb→lt i (o + 4) (both_left (ltb i (o + 4)) _ (both_right (leb o i) _ t)) in
      let at : o + (i - o) ≡ i = omega arith in
      let on : eqb (bit l (i - o)) 1 ≡ true = is_true (eqb (bit l (i - o)) 1) (both_right (ltb i (o + 4)) _ (both_right (leb o i) _ t)) in
      let here : of_field d p f i ≡ true = any_has 8 (λ (j : ℕ). of_once f (d.class p i j)) j k (rw is (eq-eqb f f refl)) in
      any_has 4 (λ (k : ℕ). both (eqb (bit l k) 1) (of_field d p f (o + k))) (i - o) (omega arith) (rw (on, at) here)

  abbrev Fit : Class K → Type 0
  Fit c = Locked d f c

  module _ (i j : ℕ) (in-byte : j < 8) where
    event : (e : Deed P) (y : Since P) → Fit (d.class (tell (touching d f) e (told_of y)).platform i j) → over_default d (remember (touching d f) e y) i j ≡ or_held (gives d (WriteOnce d f) i j (told_of y) e) (over_default d y i j)
    unfolding gives
    event idle y q = refl
    event (guest o l v) y q = go y.write (touching d f y.platform o l) refl (enabled o l i) refl
      where
        after : First → ℕ
        after w = over_default d (record { platform = y.platform; write = w }) i j

        go : (w : First) (b : Bool) → touching d f y.platform o l ≡ b → (en : Bool) → enabled o l i ≡ en → after (or_first w (pick b (first o l v) no_write)) ≡ or_held (pick en (pick (wrote w) nothing (given (bit (byte_for o v i) j))) nothing) (after w)
        go no_write true r true n = rw n
        go no_write true r false n = rw n
        go no_write false r true n = absurd (subst T (sym (touched y.platform i j o l in-byte q.0 (subst T (sym n) tt)) ∙ r) tt)
        go no_write false r false n = refl
        go (first a c x) b r true n = refl
        go (first a c x) b r false n = refl
    event (host h o m v) y q = ap (λ (x : Given). or_held x (over_default d y i j)) (sym (pick_has (λ (x : Given). x ≡ nothing) (both (not (not_hosted d y.platform h o m)) (both (eqb i o) (eqb (bit m j) 1))) nothing nothing refl refl))
    event return y q = rw q.3
    event (anew p) y q = refl

  pub first_write_lem : Placed d → f < d.fields → FirstWrite d f
  first_write_lem placed in_range i j a b p ds q =
      write_once_lem d placed f in_range i j a b p ds (q.0, q.1, q.2)
      ∙ sym (history (remember (touching d f)) (tell (touching d f)) told_of tells (λ (y : Since P). over_default d y i j) (gives d (WriteOnce d f) i j) (λ (x : Told P). Fit (d.class x.platform i j)) (stays d (WriteOnce d f) i j Fit) (event i j b) ds (record { platform = p; write = no_write }) q)

  by_write : (i j : ℕ) (w : First) (p : P) → wrote w ≡ false → over_default d (record { platform = p; write = w }) i j ≡ default_bit d p i j
  by_write i j no_write p e = refl
  by_write i j (first o l v) p e = absurd (subst T e tt)

  -- so a bit of a field that is open holds its default
  pub open_default : Placed d → f < d.fields → (i j : ℕ) → i < 256 → j < 8 → (p : P) (ds : List (Deed P)) → Fit (d.class (platform_of (touching d f) p ds) i j) → is_closed (run d p ds).closed f ≡ false → held (run d p ds).bytes i j ≡ default_bit d (platform_of (touching d f) p ds) i j
  open_default placed in_range i j a b p ds q still =
      let told : told_of (first_since d f p ds) ≡ ran (tell (touching d f)) (start p) ds = seen_run (remember (touching d f)) (tell (touching d f)) told_of tells ds (record { platform = p; write = no_write }) in
      let none_yet : wrote (first_since d f p ds).write ≡ false = ap (λ (x : Told P). x.touched) told ∙ sym (closed_run d placed f in_range p ds) ∙ still in
      first_write_lem placed in_range i j a b p ds q ∙ by_write i j (first_since d f p ds).write (first_since d f p ds).platform none_yet ∙ ap (λ (x : Told P). default_bit d x.platform i j) told
