-- The history of each kind of bit, for every device: instances of the one law.
use mathlib.Core.Path.{◌≡◌, refl, ap, subst, ◌∙◌}
use mathlib.Core.List.{List}
use mathlib.Core.Bool.{Bool, true, false, not}
use Prim.Native.Nat.{ℕ, suc, ◌+◌, ◌<◌}
use native.Mathlib.Omega.{arith}
use native.Mathlib.Nat.{zero-add}
use lib.Dec.{T, eqb}
use lib.ListN.{get_or}
use Rattle.bits.specs.Bits.{bit}
use Rattle.bits.specs.Choice.{pick, both, either}
use Rattle.bits.specs.Places.{from}
use Rattle.bits.proofs.Below.{any_ext, pick_has}
use Rattle.bits.proofs.Places.{get_or_from}
use Rattle.past.specs.Past.{nothing, or_held, ran}
use Rattle.past.proofs.History.{seen_run, history}
use Rattle.plain.specs.Plain.{held}
use Rattle.any_device.specs.Class.{Class, Host}
use Rattle.any_device.specs.Device.{Device, Deed, idle, guest, host, return, anew, is_anew, State, is_closed, raised, offered, class_of, held_back, written, swept, touches, closed_after, not_hosted, updated_bit, holding, fresh, perform}
use Rattle.any_device.specs.Kinds.{run, Told, start, tell, Kind, gives, History, Plain, ReadOnly, Cleared, of_field, touching, WriteOnce, Placed}
use Rattle.any_device.proofs.EachBit.{step, unhosted}

-- ---- what a state tells of the deeds before

pub raised_up : (t : Bool) (x : ℕ) → not (eqb (raised t x) 0) ≡ either t (not (eqb x 0))
raised_up true x = go (eqb x 0) refl
  where
    go : (z : Bool) → eqb x 0 ≡ z → not (eqb (pick z 1 x) 0) ≡ true
    go true e = refl
    go false e = rw e
raised_up false x = refl

-- only a deed that gives the bit something is_anew its class
pub stays : {K P : Type 0} (d : Device K P) (k : Kind K P) (i j : ℕ) (Fit : Class K → Type 0) (e : Deed P) (x : Told P) → gives d k i j x e ≡ nothing → Fit (d.class (tell k.touch e x).platform i j) → Fit (d.class x.platform i j)
unfolding gives
stays d k i j Fit idle x n f = f
stays d k i j Fit (guest o l v) x n f = f
stays d k i j Fit (host w o m v) x n f = f
stays d k i j Fit return x n f = f
stays d k i j Fit (anew p) x n f =
    let z : ◌≡◌ {A = ℕ} 0 1 = cc in
    absurd (omega arith)

-- ---- one law for every kind
-- flag: how the closed fields tell that the kind was touched

module _ {K P : Type 0} (d : Device K P) (k : Kind K P) (flag : List ℕ → Bool) (opened : flag (from d.fields (λ (f : ℕ). 0) 0) ≡ false) (touched : (p : P) (o l : ℕ) (c : List ℕ) → flag (closed_after d o l c) ≡ either (k.touch p o l) (flag c)) where
  abbrev seen_of : State P → Told P
  seen_of s = record { platform = s.platform; touched = flag s.closed }

  tells : (e : Deed P) (s : State P) → seen_of (perform d e s) ≡ tell k.touch e (seen_of s)
  unfolding perform fresh
  tells idle s = refl
  tells (guest o l v) s = rw (touched s.platform o l s.closed)
  tells (host w o m v) s = pick_has (λ (u : State P). seen_of u ≡ seen_of s) (not_hosted d s.platform w o m) s (holding d s (updated_bit d s o m v) s.closed) refl refl
  tells return s = refl
  tells (anew p) s = rw opened

  -- only a platform reset is_anew the platform
  kept : (e : Deed P) (x : Told P) → is_anew e ≡ false → (tell k.touch e x).platform ≡ x.platform
  kept idle x n = refl
  kept (guest o l v) x n = refl
  kept (host w o m v) x n = refl
  kept return x n = refl
  kept (anew p) x n = absurd (subst T n tt)

  -- where the class fits, the rule gives a guest's and the host's bit as the kind says
  module _ (guest-fits : (s : State P) (b w : ℕ) (c : Class K) → k.Fits c → written d s b w c ≡ k.guest_gives (seen_of s) w)
      (unswept : (c : Class K) → k.Fits c → (m : List ℕ) (o l : ℕ) → swept d m o l c.stored ≡ false)
      (host-fits : (p : P) (w : Host) (o m v i j : ℕ) → j < 8 → k.Fits (d.class p i j) → not_hosted d p w o m ≡ false → i ≡ o → eqb (bit m j) 1 ≡ true → offered (d.class p i j).clears 1 (bit v j) ≡ k.host_gives (bit v j)) where
    module _ (i j : ℕ) (in_map : i < 256) (in-byte : j < 8) where
      abbrev B : State P → ℕ
      B s = held s.bytes i j

      event : (e : Deed P) (s : State P) → k.Fits (d.class (tell k.touch e (seen_of s)).platform i j) → B (perform d e s) ≡ or_held (gives d k i j (seen_of s) e) (B s)
      event e s f = step d s (flag s.closed) k i j in_map in-byte e
          (λ n b w. guest-fits s b w (class_of d s i j) (rw (kept e (seen_of s) n) at f))
          (λ n. unswept (class_of d s i j) (rw (kept e (seen_of s) n) at f))
          (λ n w o m v. host-fits s.platform w o m v i j in-byte (rw (kept e (seen_of s) n) at f))

    pub holds : History d k
    unfolding fresh
    holds i j a b p ds f = rw opened at (history (perform d) (tell k.touch) seen_of tells (B i j a b) (gives d k i j) (λ (x : Told P). k.Fits (d.class x.platform i j)) (stays d k i j k.Fits) (event i j a b) ds (fresh d p) (rw opened f))

-- ---- the kinds

module _ {K P : Type 0} (d : Device K P) where
  pub plain : History d (Plain d)
  unfolding held_back swept
  plain = holds d (Plain d) (λ (c : List ℕ). false) refl (λ p o l c. refl) (λ s b w c f. rw (f.0, f.1)) (λ c f m o l. rw f.0) (λ p w o m v i j b f x y z. absurd (unhosted d p w o m i j b f.2 x y z))

  pub read_only_lem : History d (ReadOnly d)
  unfolding held_back swept
  read_only_lem = holds d (ReadOnly d) (λ (c : List ℕ). false) refl (λ p o l c. refl) (λ s b w c f. rw f.0) (λ c f m o l. rw f.0) (λ p w o m v i j b f x y z. rw f.1)

  pub cleared : History d (Cleared d)
  unfolding held_back swept
  cleared = holds d (Cleared d) (λ (c : List ℕ). false) refl (λ p o l c. refl) (λ s b w c f. rw (f.0, f.1)) (λ c f m o l. rw f.0) (λ p w o m v i j b f x y z. rw f.1)

  module _ (placed : Placed d) (f : ℕ) (in_range : f < d.fields) where
    opened : is_closed (from d.fields (λ (f : ℕ). 0) 0) f ≡ false
    opened = rw (get_or_from d.fields (λ (f : ℕ). 0) 0 f in_range)

    touched : (p : P) (o l : ℕ) (c : List ℕ) → is_closed (closed_after d o l c) f ≡ either (touching d f p o l) (is_closed c f)
    unfolding closed_after touches touching
    touched p o l c =
        rw (get_or_from d.fields (λ (f : ℕ). raised (touches d o l f) (get_or c f 0)) 0 f in_range, zero-add f)
        (raised_up (touches d o l f) (get_or c f 0) ∙ ap (λ (t : Bool). either t (is_closed c f)) (any_ext 4 (λ (k : ℕ). both (eqb (bit l k) 1) (eqb (get_or d.places (o + k) 0) (suc f))) (λ (k : ℕ). both (eqb (bit l k) 1) (of_field d p f (o + k))) (λ k h. rw (placed p f (o + k) in_range))))

    pub write_once_lem : History d (WriteOnce d f)
    unfolding held_back swept
    write_once_lem = holds d (WriteOnce d f) (λ (c : List ℕ). is_closed c f) opened touched (λ s b w c q. rw (q.0, q.1)) (λ c q m o l. rw q.0) (λ p w o m v i j b q x y z. absurd (unhosted d p w o m i j b q.2 x y z))

    -- the field is closed exactly if a write since the last platform reset touched it
    pub closed_run : (p : P) (ds : List (Deed P)) → is_closed (run d p ds).closed f ≡ (ran (tell (touching d f)) (start p) ds).touched
    unfolding fresh
    closed_run p ds = rw opened at (ap (λ (x : Told P). x.touched) (seen_run (perform d) (tell (touching d f)) (seen_of d (WriteOnce d f) (λ (c : List ℕ). is_closed c f) opened touched) (tells d (WriteOnce d f) (λ (c : List ℕ). is_closed c f) opened touched) ds (fresh d p)))
