-- Events and runs: what an event comes to, the events since the last platform reset, and what every run keeps.
use mathlib.Core.Path.{◌≡◌, refl, sym, ap, subst, ◌∙◌}
use mathlib.Core.List.{List, [], ◌∷◌}
use mathlib.Core.Bool.{Bool, true, false, not}
use Prim.Native.Nat.{ℕ, ◌-◌}
use lib.Dec.{T, eqb, ltb, eqb→eq}
use Rattle.bits.specs.Choice.{pick, either}
use Rattle.bits.proofs.Below.{both_right, pick_has}
use Rattle.answer.specs.Refusals.{WIDTH, NOT_OURS, OTHER_FUNCTION, LANES, NOT_HOST, WINDOW_OFFSET}
use Rattle.rules.specs.declared.State.{State}
use Rattle.rules.specs.declared.Mapped.{Mapped}
use Rattle.rules.specs.Access.{busy, Outcome, done, refused}
use Rattle.access.specs.Access.{bad_offset, bad_lanes}
use Rattle.any_device.proofs.Histories.{raised_up}
use Rattle.rules.specs.Guest.{starts, flags_after, written_of, step_of, write_of}
use Rattle.rules.specs.Reset.{ended_of, end_of}
use Rattle.rules.specs.Host.{not_host, host_step_of}
use Rattle.rules.specs.Fresh.{fresh_of}
use Rattle.rules.specs.Window.{bad_window, with_window, window_step_of, window_write_of, beyond, request_mask, complete_of, fault_mask, fault_of, cycles_of, mirror_mask, mirror_update_of}
use Rattle.rules.specs.Ports.{ADDRESS, DATA, bad_width, at_latch, not_ours, other_function, here, latch_of, latched, dword_of, port_lanes, placed, port_write_of}
use Rattle.rules.specs.declared.WindowEvent.{WindowEvent}
use Rattle.rules.specs.declared.WindowEvent.TheVariants.{WindowRead, WindowWrite, Complete, Fault, AddCycles, MirrorUpdate}
use Rattle.rules.specs.declared.Event.{Event}
use Rattle.rules.specs.declared.Event.TheVariants.{Read, Write, PortRead, PortWrite, HostUpdate, EndSignal, PlatformReset, InWindow}
use Rattle.rules.specs.Events.{window_happens, happens, next, run_from, run}
use Rattle.rules.specs.History.{is_reset, latch_after, GuestWrite, none, at, accepted_write, unless_busy, guest_write, starting, Seen, seen_next, seen, as_deed, deed_of, deeds}
use Rattle.past.specs.Past.{ran}
use Rattle.past.proofs.History as P
use Rattle.any_device.specs.Class.{device}
use Rattle.any_device.specs.Device.{idle, host, return, closed_after, fresh, perform}
use Rattle.any_device.specs.Kinds as K
use Rattle.map.specs.Class.{ivy_bridge}
use Rattle.rules.specs.Device.{built_in, core}
use Rattle.rules.proofs.EachBit.{write_state, host_state}
use Rattle.rules.proofs.Numbers.{below_is, direct_is, data_is}

-- a platform reset forgets the state
pub reset_forgets : (e : Event) (s : State) → is_reset e ≡ true → (happens e s).state ≡ fresh_of
unfolding happens
reset_forgets (Read o l) s e = absurd (subst T (sym e) tt)
reset_forgets (Write o l v) s e = absurd (subst T (sym e) tt)
reset_forgets (PortRead p w) s e = absurd (subst T (sym e) tt)
reset_forgets (PortWrite p w v) s e = absurd (subst T (sym e) tt)
reset_forgets (HostUpdate o m v) s e = absurd (subst T (sym e) tt)
reset_forgets EndSignal s e = absurd (subst T (sym e) tt)
reset_forgets PlatformReset s e = refl
reset_forgets (InWindow e) s h = absurd (subst T (sym h) tt)

-- ---- what an event comes to

-- the state after a guest write, if there is one
abbrev pub performed : GuestWrite → State → State
performed none s = s
performed (at o l v) s = written_of s o l v

-- what the state tells of the events before
abbrev pub seen_of : State → Seen
seen_of s = record { latch = s.latch; busy = busy s }

abbrev pub with_latch : ℕ → State → State
with_latch x s = record { bytes = s.bytes; latch = x; flags = s.flags; window = s.window }

-- 4 bytes at CF8h are of a right width
latch_width : (p w : ℕ) → at_latch p w ≡ true → bad_width w ≡ false
latch_width p w e =
    let four : w ≡ 4 = eqb→eq w 4 (both_right (eqb p ADDRESS) (eqb w 4) (subst T (sym e) tt)) in
    rw four

pub write_effect : (s : State) (o l v : ℕ) → (write_of s o l v).state ≡ performed (guest_write (seen_of s) (Write o l v)) s
unfolding accepted_write step_of
write_effect s o l v = write_state s o l v ∙ rw (direct_is o l) (go (not (either (bad_offset o) (bad_lanes l))) (busy s))
  where
    go : (a b : Bool) → pick a (pick b s (written_of s o l v)) s ≡ performed (unless_busy b (pick a (at o l v) none)) s
    go true true = refl
    go true false = refl
    go false true = refl
    go false false = refl

pub port_effect : (s : State) (p w v : ℕ) → (port_write_of s p w v).state ≡ with_latch (latch_after s.latch (PortWrite p w v)) (performed (guest_write (seen_of s) (PortWrite p w v)) s)
unfolding port_write_of not_ours accepted_write step_of written_of
port_effect s p w v = rw (data_is s.latch p w) (go (bad_width w) (not_ours s.latch p w) (at_latch p w) (other_function here s.latch) (busy s) refl refl refl)
  where
    o : ℕ
    o = dword_of s.latch

    l : ℕ
    l = port_lanes (p - DATA) w

    x : ℕ
    x = placed v (p - DATA) w

    go : (a b c d e : Bool) → bad_width w ≡ a → not_ours s.latch p w ≡ b → at_latch p w ≡ c → (pick a (refused WIDTH s) (pick b (refused NOT_OURS s) (pick c (done (latched s v)) (pick d (refused OTHER_FUNCTION s) (done (pick e s (written_of s o l x))))))).state ≡ with_latch (pick c (latch_of v) s.latch) (performed (unless_busy e (pick (not (either a (either b (either c d)))) (at o l x) none)) s)
    go true b true d e ea eb ec = absurd (subst T (sym ea ∙ latch_width p w ec) tt)
    go true b false d e ea eb ec = refl
    go false true true d e ea eb ec =
        let ours : not_ours s.latch p w ≡ false = rw ec in
        absurd (subst T (sym eb ∙ ours) tt)
    go false true false d e ea eb ec = refl
    go false false true d e ea eb ec = refl
    go false false false true e ea eb ec = refl
    go false false false false true ea eb ec = refl
    go false false false false false ea eb ec = refl

-- an event in the window changes nothing else
module _ (s : State) where
  abbrev Only : State → Type 0
  Only t = (w : Mapped) × (t ≡ with_window s w)

  abbrev Leaves : Outcome → Type 0
  Leaves r = Only r.state

  same : Only s
  same = (s.window, refl)

  unless : (b : Bool) (n : ℕ) (r : Outcome) → Leaves r → Leaves (pick b (refused n s) r)
  unless b n r h = pick_has Leaves b (refused n s) r same h

  pub window_effect : (e : WindowEvent) → Only (window_happens e s).state
  unfolding window_happens window_write_of window_step_of complete_of fault_of cycles_of mirror_update_of
  window_effect (WindowRead o l) = same
  window_effect (WindowWrite o l v) = unless (bad_window o) WINDOW_OFFSET _ (unless (bad_lanes l) LANES _ (pick_has Only (busy s) _ _ same (_, refl)))
  window_effect (Complete m) = unless (beyond request_mask m) NOT_HOST _ (_, refl)
  window_effect (Fault v) = unless (beyond fault_mask v) NOT_HOST _ (_, refl)
  window_effect (AddCycles n) = (_, refl)
  window_effect (MirrorUpdate o m v) = unless (bad_window o) WINDOW_OFFSET _ (unless (beyond (mirror_mask o) m) NOT_HOST _ (_, refl))

-- ---- what is seen

seen_performed : (g : GuestWrite) (s : State) → seen_of (performed g s) ≡ record { latch = s.latch; busy = either (starting g) (busy s) }
unfolding written_of flags_after starts
seen_performed none s = refl
seen_performed (at o l v) s = rw (raised_up (starts o l v) s.flags.busy)

-- each event in turn: what the state tells is what the events tell
pub seen_event : (e : Event) (s : State) → seen_of (happens e s).state ≡ seen_next e (seen_of s)
unfolding happens end_of ended_of host_step_of fresh_of
seen_event (Read o l) s = refl
seen_event (Write o l v) s = ap seen_of (write_effect s o l v) ∙ seen_performed (guest_write (seen_of s) (Write o l v)) s
seen_event (PortRead p w) s = refl
seen_event (PortWrite p w v) s =
    let g = guest_write (seen_of s) (PortWrite p w v) in
    ap seen_of (port_effect s p w v) ∙ ap (λ (x : Seen). record { latch = latch_after s.latch (PortWrite p w v); busy = x.busy }) (seen_performed g s)
seen_event (HostUpdate o m v) s = rw (host_state s o m v) (go (not (either (ltb 255 o) (not_host o m))))
  where
    go : (a : Bool) → seen_of (pick a (host_step_of s o m v) s) ≡ seen_of s
    go true = refl
    go false = refl
seen_event EndSignal s = go (busy s) refl
  where
    go : (b : Bool) → busy s ≡ b → seen_of (pick b (ended_of s) s) ≡ record { latch = s.latch; busy = false }
    go true e = refl
    go false e = rw e
seen_event PlatformReset s = refl
seen_event (InWindow e) s = ap seen_of (window_effect s e).1

pub seen_run : (es : List Event) → seen_of (run es) ≡ seen es
unfolding fresh_of
seen_run es = P.seen_run next seen_next seen_of seen_event es fresh_of

-- ---- what an event comes to, as a deed of the device

comes_guest : (g : GuestWrite) (s : State) → core (performed g s) ≡ perform built_in (as_deed g) (core s)
unfolding perform written_of flags_after closed_after
comes_guest none s = refl
comes_guest (at o l v) s = refl

-- each event in turn: what it leaves of the device is what the deed leaves that the history names
pub comes : (e : Event) (s : State) → core (happens e s).state ≡ perform built_in (deed_of (seen_of s) e) (core s)
unfolding happens deed_of perform end_of ended_of host_step_of fresh_of fresh
comes (Read o l) s = refl
comes (Write o l v) s = ap core (write_effect s o l v) ∙ comes_guest (guest_write (seen_of s) (Write o l v)) s
comes (PortRead p w) s = refl
comes (PortWrite p w v) s = ap core (port_effect s p w v) ∙ comes_guest (guest_write (seen_of s) (PortWrite p w v)) s
comes (HostUpdate o m v) s = ap core (host_state s o m v) ∙ rw (below_is 255 o) (go (ltb 255 o) (not_host o m) refl)
  where
    go : (a b : Bool) → not_host o m ≡ b → core (pick (not (either a b)) (host_step_of s o m v) s) ≡ perform built_in (pick (not a) (host device o m v) idle) (core s)
    go true b e = refl
    go false true e = rw e
    go false false e = rw e
comes EndSignal s = go (busy s)
  where
    go : (b : Bool) → core (pick b (ended_of s) s) ≡ perform built_in (pick b return idle) (core s)
    go true = refl
    go false = refl
comes PlatformReset s = refl
comes (InWindow e) s = ap core (window_effect s e).1

-- a run's bytes and fields are those of its deeds
pub run_deeds : (es : List Event) → core (run es) ≡ K.run built_in ivy_bridge (deeds es)
unfolding fresh_of fresh
run_deeds es = P.run_retold next seen_next seen_of seen_event (perform built_in) core deed_of comes es fresh_of

-- ---- what every event keeps, every run keeps

pub each_keeps : (P : State → Type 0) → ((e : Event) (s : State) → P s → P (happens e s).state) → (es : List Event) (s : State) → P s → P (run_from s es)
unfolding ran
each_keeps P event [] s h = h
each_keeps P event (e ∷ es) s h = each_keeps P event es (happens e s).state (event e s h)

-- ---- what every run keeps: what the fresh state has, and guest writes, host updates and ends of function resets leave; latch and window have no say

module _ (P : State → Type 0) (fresh : P fresh_of) (step : (s : State) (o l v : ℕ) → P s → P (written_of s o l v)) (host : (s : State) (o m v : ℕ) → not_host o m ≡ false → P s → P (host_step_of s o m v)) (ended : (s : State) → P s → P (ended_of s)) (beside : (s : State) (x : ℕ) (w : Mapped) → P s → P (record { bytes = s.bytes; latch = x; flags = s.flags; window = w })) where
  performed_keeps : (g : GuestWrite) (s : State) → P s → P (performed g s)
  performed_keeps none s h = h
  performed_keeps (at o l v) s h = step s o l v h

  pub event_keeps : (e : Event) (s : State) → P s → P (happens e s).state
  unfolding happens end_of
  event_keeps (Read o l) s h = h
  event_keeps (Write o l v) s h = rw (write_effect s o l v) (performed_keeps (guest_write (seen_of s) (Write o l v)) s h)
  event_keeps (PortRead p w) s h = h
  event_keeps (PortWrite p w v) s h = rw (port_effect s p w v) (beside _ _ _ (performed_keeps (guest_write (seen_of s) (PortWrite p w v)) s h))
  event_keeps (HostUpdate o m v) s h = rw (host_state s o m v) (go (ltb 255 o) (not_host o m) refl)
    where
      go : (a b : Bool) → not_host o m ≡ b → P (pick (not (either a b)) (host_step_of s o m v) s)
      go true b e = h
      go false true e = h
      go false false e = host s o m v e h
  event_keeps EndSignal s h = pick_has P (busy s) (ended_of s) s (ended s h) h
  event_keeps PlatformReset s h = fresh
  event_keeps (InWindow e) s h = rw (window_effect s e).1 (beside s s.latch _ h)

  pub always : (es : List Event) → P (run es)
  always es = each_keeps P event_keeps es fresh_of fresh
