-- What a lock freezes keeps its contents until a platform reset.
use mathlib.Core.Path.{◌≡◌, refl, sym, ap, subst, ◌∙◌}
use mathlib.Core.List.{List, [], ◌∷◌}
use mathlib.Core.Bool.{Bool, true, false, not}
use Prim.Native.Nat.{ℕ}
use native.Mathlib.Nat.{zero-add}
use lib.Dec.{T, eqb, ltb, eqb→eq, ltb→lt}
use lib.ListN.{get_or}
use Rattle.bits.specs.Bits.{bit}
use Rattle.bits.specs.Choice.{pick, both, either}
use Rattle.bits.proofs.Below.{both_left, both_right, is_true, is_false, pick_has}
use Rattle.bits.proofs.Places.{get_or_from}
use Rattle.past.specs.Past.{Given, nothing, or_held, ran}
use Rattle.access.specs.Access.{enabled}
use Rattle.plain.specs.Plain.{held}
use Rattle.any_device.specs.Class.{Stands, Stored, never, always, once, until, special, is_hosted, Class}
use Rattle.any_device.specs.Device.{Device, Deed, idle, guest, host, return, anew, is_anew, State, is_closed, raised, locked, class_of, held_back, written, swept, touches, closed_after, not_hosted, updated_bit, holding, perform}
use Rattle.any_device.specs.Kinds.{Told, no_field, Kind, gives}
use Rattle.any_device.specs.Locks.{same_stands, among, all_among, holds_back, frozen_by, sealed, Keeps, Frozen, Locked}
use Rattle.any_device.proofs.EachBit.{step, unhosted}
use Rattle.any_device.proofs.Parts.{none_is}

yes_is : (b : Bool) → b ≡ true → T b
yes_is b e = subst T (sym e) tt

both_make : (a b : Bool) → T a → T b → T (both a b)
both_make true b x y = y
both_make false b x y = absurd x

-- ---- what stands of a lock stands of the locks among it

module _ (m : List ℕ) where
  stands : (a : Stands) (cs : List Stands) → T (among a cs) → T (locked m cs) → T (eqb (held m a.byte a.place) a.value)
  stands a [] t h = absurd t
  stands a (c ∷ cs) t h = go (same_stands c a) refl t (λ u. stands a cs u (both_right (eqb (held m c.byte c.place) c.value) _ h))
    where
      go : (b : Bool) → same_stands c a ≡ b → T (either b (among a cs)) → (T (among a cs) → T (eqb (held m a.byte a.place) a.value)) → T (eqb (held m a.byte a.place) a.value)
      go true e u ih =
          let same : T (same_stands c a) = yes_is _ e in
          let at : c.byte ≡ a.byte = eqb→eq _ _ (both_left (eqb c.byte a.byte) _ same) in
          let rest : T (both (eqb c.place a.place) (eqb c.value a.value)) = both_right (eqb c.byte a.byte) _ same in
          let place : c.place ≡ a.place = eqb→eq _ _ (both_left (eqb c.place a.place) _ rest) in
          let value : c.value ≡ a.value = eqb→eq _ _ (both_right (eqb c.place a.place) _ rest) in
          rw (at, place, value) at (both_left (eqb (held m c.byte c.place) c.value) _ h)
      go false e u ih = ih u

  pub locks : (bs cs : List Stands) → T (all_among bs cs) → T (locked m cs) → T (locked m bs)
  locks [] cs t h = tt
  locks (a ∷ bs) cs t h = both_make (eqb (held m a.byte a.place) a.value) (locked m bs) (stands a cs (both_left (among a cs) _ t) h) (locks bs cs (both_right (among a cs) _ t) h)

-- ---- one deed

closed_up : (t : Bool) (x : ℕ) → T (not (eqb x 0)) → T (not (eqb (raised t x) 0))
closed_up true x h = go (eqb x 0) h refl
  where
    go : (z : Bool) → T (not z) → eqb x 0 ≡ z → T (not (eqb (pick z 1 x) 0))
    go true n e = tt
    go false n e = rw e tt
closed_up false x h = h

module _ {K P : Type 0} (d : Device K P) where
  -- what is held back takes nothing
  is_back : (s : State P) (b : ℕ) (cs : List Stands) → T (locked s.bytes cs) → (st : Stored K) → T (holds_back d cs s.closed st) → held_back d s b st ≡ true
  unfolding held_back
  is_back s b cs h never t = refl
  is_back s b cs h always t = absurd t
  is_back s b cs h (once f) t = is_true (is_closed s.closed f) (both_right (ltb f d.fields) _ t)
  is_back s b cs h (until own) t = is_true (locked s.bytes own) (locks s.bytes own cs t h)
  is_back s b cs h (special k) t = absurd t

  takes_none : (s : State P) (b w : ℕ) (cs : List Stands) → T (locked s.bytes cs) → (c : Class K) → T (holds_back d cs s.closed c.stored) → written d s b w c ≡ nothing
  takes_none s b w cs h c t = rw (is_back s b cs h c.stored t)

  back_unswept : (cs : List Stands) (closed : List ℕ) (st : Stored K) → T (holds_back d cs closed st) → (m : List ℕ) (o l : ℕ) → swept d m o l st ≡ false
  unfolding swept
  back_unswept cs closed never t m o l = refl
  back_unswept cs closed always t m o l = refl
  back_unswept cs closed (once f) t m o l = refl
  back_unswept cs closed (until own) t m o l = refl
  back_unswept cs closed (special k) t m o l = absurd t

  -- nothing is given
  abbrev Still : Kind K P
  Still = record { guest_gives = λ (x : Told P) (w : ℕ). nothing; host_gives = λ (w : ℕ). nothing; touch = no_field; Fits = λ (c : Class K). Unit {0} }

  none_gives : (p : P) (e : Deed P) → is_anew e ≡ false → (i j : ℕ) → (d.class p i j).returned ≡ false → gives d Still i j (record { platform = p; touched = false }) e ≡ nothing
  unfolding gives
  none_gives p idle n i j r = refl
  none_gives p (guest o l v) n i j r = pick_has (λ (x : Given). x ≡ nothing) (enabled o l i) nothing nothing refl refl
  none_gives p (host w o m v) n i j r = pick_has (λ (x : Given). x ≡ nothing) (both (not (not_hosted d p w o m)) (both (eqb i o) (eqb (bit m j) 1))) nothing nothing refl refl
  none_gives p return n i j r = rw r
  none_gives p (anew q) n i j r = absurd (subst T n tt)

  pub frozen : Frozen d
  unfolding frozen_by
  frozen s cs h e n i j a b f =
      let c : Class K = class_of d s i j in
      let t : T (both (holds_back d cs s.closed c.stored) (both (not (is_hosted c.host)) (not c.returned))) = yes_is _ f in
      let own = both_left (holds_back d cs s.closed c.stored) _ t in
      let rest = both_right (holds_back d cs s.closed c.stored) _ t in
      step d s false Still i j a b e
      (λ n b w. takes_none s b w cs (yes_is _ h) c own)
      (λ n. back_unswept cs s.closed c.stored own)
      (λ n w o m v x y z. absurd (unhosted d s.platform w o m i j b (none_is c.host (both_left (not (is_hosted c.host)) _ rest)) x y z))
      ∙ ap (λ (x : Given). or_held x (held s.bytes i j)) (none_gives s.platform e n i j (is_false c.returned (both_right (not (is_hosted c.host)) _ rest)))

  -- ---- any run without a platform reset

  -- the platform stays, and a closed field stays closed
  kept : (e : Deed P) (s : State P) → is_anew e ≡ false → (perform d e s).platform ≡ s.platform
  unfolding perform
  kept idle s n = refl
  kept (guest o l v) s n = refl
  kept (host h o m v) s n = pick_has (λ (u : State P). u.platform ≡ s.platform) (not_hosted d s.platform h o m) s (holding d s (updated_bit d s o m v) s.closed) refl refl
  kept return s n = refl
  kept (anew p) s n = absurd (subst T n tt)

  closes : (e : Deed P) (s : State P) → is_anew e ≡ false → (f : ℕ) → T (ltb f d.fields) → T (is_closed s.closed f) → T (is_closed (perform d e s).closed f)
  unfolding perform closed_after
  closes idle s n f r t = t
  closes (guest o l v) s n f r t = rw (get_or_from d.fields (λ (f : ℕ). raised (touches d o l f) (get_or s.closed f 0)) 0 f (ltb→lt _ _ r), zero-add f) (closed_up (touches d o l f) (get_or s.closed f 0) t)
  closes (host h o m v) s n f r t = pick_has (λ (u : State P). T (is_closed u.closed f)) (not_hosted d s.platform h o m) s (holding d s (updated_bit d s o m v) s.closed) t t
  closes return s n f r t = t
  closes (anew p) s n f r t = absurd (subst T n tt)

  back_kept : (e : Deed P) (s : State P) → is_anew e ≡ false → (cs : List Stands) (st : Stored K) → T (holds_back d cs s.closed st) → T (holds_back d cs (perform d e s).closed st)
  back_kept e s n cs never t = t
  back_kept e s n cs always t = t
  back_kept e s n cs (once f) t = both_make (ltb f d.fields) _ (both_left (ltb f d.fields) _ t) (closes e s n f (both_left (ltb f d.fields) _ t) (both_right (ltb f d.fields) _ t))
  back_kept e s n cs (until own) t = t
  back_kept e s n cs (special k) t = t

  frozen_kept : (e : Deed P) (s : State P) → is_anew e ≡ false → (cs : List Stands) (i j : ℕ) → frozen_by d cs s.closed (class_of d s i j) ≡ true → frozen_by d cs (perform d e s).closed (class_of d (perform d e s) i j) ≡ true
  unfolding frozen_by
  frozen_kept e s n cs i j f =
      let c : Class K = class_of d s i j in
      rw (kept e s n) (is_true _ (both_make (holds_back d cs (perform d e s).closed c.stored) _ (back_kept e s n cs c.stored (both_left (holds_back d cs s.closed c.stored) _ (yes_is _ f))) (both_right (holds_back d cs s.closed c.stored) _ (yes_is _ f))))

  -- so the lock stands, and is sealed
  sealed_kept : (e : Deed P) (s : State P) → is_anew e ≡ false → (cs : List Stands) → Keeps d cs s (perform d e s) → (rest : List Stands) → T (sealed d s cs rest) → (locked (perform d e s).bytes rest ≡ locked s.bytes rest) × T (sealed d (perform d e s) cs rest)
  sealed_kept e s n cs k [] t = (refl, tt)
  sealed_kept e s n cs k (c ∷ rest) t =
      let b = both_left (ltb c.byte 256) _ t in
      let p = both_left (ltb c.place 8) _ (both_right (ltb c.byte 256) _ t) in
      let t2 = both_right (ltb c.place 8) _ (both_right (ltb c.byte 256) _ t) in
      let f = is_true _ (both_left (frozen_by d cs s.closed (class_of d s c.byte c.place)) _ t2) in
      let ih = sealed_kept e s n cs k rest (both_right (frozen_by d cs s.closed (class_of d s c.byte c.place)) _ t2) in
      (rw (k c.byte c.place (ltb→lt _ _ b) (ltb→lt _ _ p) f, ih.0), both_make (ltb c.byte 256) _ b (both_make (ltb c.place 8) _ p (both_make (frozen_by d cs (perform d e s).closed (class_of d (perform d e s) c.byte c.place)) _ (yes_is _ (frozen_kept e s n cs c.byte c.place f)) ih.1)))

  pub locked_run : Locked d
  unfolding ran
  locked_run s cs seal h [] n = (h, λ i j a b f. refl)
  locked_run s cs seal h (e ∷ ds) n =
      let other : is_anew e ≡ false = is_false (is_anew e) (both_left (not (is_anew e)) _ (yes_is _ n)) in
      let stays = frozen s cs h e other in
      let on = sealed_kept e s other cs stays cs (yes_is _ seal) in
      let rest = locked_run (perform d e s) cs (is_true _ on.1) (on.0 ∙ h) ds (is_true _ (both_right (not (is_anew e)) _ (yes_is _ n))) in
      (rest.0, λ i j a b f. rest.1 i j a b (frozen_kept e s other cs i j f) ∙ stays i j a b f)
