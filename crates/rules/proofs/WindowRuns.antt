-- The window's clauses are proved; the statements are in specs/WindowRuns.antt.
use mathlib.Core.Path.{◌≡◌, refl, sym, ap, subst, ◌∙◌}
use mathlib.Core.List.{List, [], ◌∷◌}
use mathlib.Core.Bool.{Bool, true, false, not}
use Prim.Native.Nat.{ℕ, ◌+◌, ◌-◌, ◌*◌, ◌/◌, ◌%◌, ◌^◌, ◌≤◌, ◌<◌}
use native.Mathlib.Omega.{arith}
use native.Mathlib.Nat.{add-zero}
use lib.Dec.{T, eqb, ltb, eqb→eq}
use borrow.Author.Tests.{eq-eqb, le-ltb}
use Rattle.bits.specs.Bits.{bit, number_of}
use Rattle.bits.specs.Choice.{pick, both, either, all_below}
use Rattle.bits.proofs.Laws.{number_ext, bit_number, bit<2, bit_zero}
use Rattle.bits.proofs.Below.{both_off, pick_has, below, is_true}
use Rattle.answer.specs.Refusals.{ok, LANES, NOT_HOST, WINDOW_OFFSET}
use Rattle.map.specs.Registers.{PCICMD2, MSAC}
use Rattle.rules.specs.declared.State.{State}
use Rattle.rules.specs.declared.Mapped.{Mapped}
use Rattle.rules.specs.Access.{byte, busy, Outcome, done, refused}
use Rattle.access.specs.Access.{enabled, byte_for, bad_lanes}
use Rattle.rules.specs.Device.{size_of, exponent_of}
use Rattle.rules.specs.Guest.{written_of}
use Rattle.rules.specs.Host.{not_host, host_step_of, host_of}
use Rattle.rules.specs.Reset.{ended_of, end_of}
use Rattle.rules.specs.Fresh.{fresh_window, fresh_of}
use Rattle.past.specs.Past.{nothing, given, or_held, ran, last_given}
use Rattle.plain.specs.Plain.{Bits, undriven, lane_value, shown_value}
use Rattle.rules.specs.Claims.{Claimed, unclaimed, claimed, translation, aperture, io, translation_base, aperture_base, translation_exponent, holds, off, aperture_claim, memory_claim_of}
use Rattle.rules.specs.Window.{FAULT_REG, ASSRREQ, MTOUUD, MTOUUD_HIGH, MBDSM, DRAM_CYCLES, bad_window, with_window, window_bit, window_read_bit, window_read_of, with_fault, with_assrreq, with_mtouud, with_mtouudh, with_mbdsm, with_cycles, clears, asks, acknowledged, requested, faulted, window_written, window_step_of, window_write_of, beyond, masked, request_mask, complete_of, fault_mask, fault_of, cycles_of, mirror_mask, mirrored, mirror_update_of}
use Rattle.rules.specs.declared.WindowEvent.{WindowEvent}
use Rattle.rules.specs.declared.WindowEvent.TheVariants.{WindowRead, WindowWrite, Complete, Fault, AddCycles, MirrorUpdate}
use Rattle.rules.specs.declared.Event.{Event}
use Rattle.rules.specs.declared.Event.TheVariants.{Read, Write, PortRead, PortWrite, HostUpdate, EndSignal, PlatformReset, InWindow}
use Rattle.rules.specs.Events.{window_happens, happens, next, run_from, run}
use Rattle.rules.specs.History.{is_reset, GuestWrite, none, at, Seen, guest_write}
use Rattle.rules.specs.WindowRuns.{is_mirror, of_window, mirror_gives, gives, mirror_bit, Mirrors, MirrorsRead, counted, count_next, Sum, clearing, Locked, Requests, Left, Apart, WindowBusy, WindowLanes, WindowNoLanes, WindowUnlaned, ClaimedReached}
use Rattle.past.proofs.History.{history}
use Rattle.rules.proofs.EachBit.{host_state}
use Rattle.rules.proofs.Lanes.{in_lanes, no_lanes}
use Rattle.rules.proofs.Runs.{reset_forgets, each_keeps, performed, seen_of, seen_run, write_effect, port_effect, window_effect}

-- ---- 5. what leaves the window, and what the window leaves

performed_leaves : (g : GuestWrite) (s : State) → (performed g s).window ≡ s.window
unfolding written_of
performed_leaves none s = refl
performed_leaves (at o l v) s = refl

picked : (b : Bool) (s t : State) → t.window ≡ s.window → (pick b t s).window ≡ s.window
picked true s t e = e
picked false s t e = refl

pub window_left : Left
unfolding happens host_of end_of ended_of host_step_of
window_left (Read o l) s n w = refl
window_left (Write o l v) s n w = ap (λ (x : State). x.window) (write_effect s o l v) ∙ performed_leaves (guest_write (seen_of s) (Write o l v)) s
window_left (PortRead p w) s n x = refl
window_left (PortWrite p w v) s n x = ap (λ (x : State). x.window) (port_effect s p w v) ∙ performed_leaves (guest_write (seen_of s) (PortWrite p w v)) s
window_left (HostUpdate o m v) s n w = ap (λ (x : State). x.window) (host_state s o m v) ∙ picked (not (either (ltb 255 o) (not_host o m))) s (host_step_of s o m v) refl
window_left EndSignal s n w = picked (busy s) s (ended_of s) refl
window_left PlatformReset s n w = absurd (subst T n tt)
window_left (InWindow e) s n w = absurd (subst T (sym w) tt)

pub window_apart : Apart
window_apart e s = let q = (window_effect s e).1 in (ap (λ (x : State). x.bytes) q, ap (λ (x : State). x.latch) q, ap (λ (x : State). x.flags) q)

-- an event is one of the window's, or none of them
by_window : (P : Event → Type 0) → ((e : Event) → of_window true (λ (w : WindowEvent). false) e ≡ true → P e) → ((w : WindowEvent) → P (InWindow w)) → (e : Event) → P e
by_window P out inside (Read o l) = out (Read o l) refl
by_window P out inside (Write o l v) = out (Write o l v) refl
by_window P out inside (PortRead p w) = out (PortRead p w) refl
by_window P out inside (PortWrite p w v) = out (PortWrite p w v) refl
by_window P out inside (HostUpdate o m v) = out (HostUpdate o m v) refl
by_window P out inside EndSignal = out EndSignal refl
by_window P out inside PlatformReset = out PlatformReset refl
by_window P out inside (InWindow w) = inside w

elsewhere : {A : Type 0} (x : A) (f : WindowEvent → A) (e : Event) → of_window true (λ (w : WindowEvent). false) e ≡ true → of_window x f e ≡ x
elsewhere x f (Read o l) t = refl
elsewhere x f (Write o l v) t = refl
elsewhere x f (PortRead p w) t = refl
elsewhere x f (PortWrite p w v) t = refl
elsewhere x f (HostUpdate o m v) t = refl
elsewhere x f EndSignal t = refl
elsewhere x f PlatformReset t = refl
elsewhere x f (InWindow w) t = absurd (subst T (sym t) tt)

-- ---- what an event of the window makes of the registers: P, where the registers have it and the change that it comes to

module _ (s : State) (P : Mapped → Type 0) (same : P s.window) where
  unless : (b : Bool) (n : ℕ) (r : Outcome) → (b ≡ false → P r.state.window) → P (pick b (refused n s) r).state.window
  unless true n r h = same
  unless false n r h = h refl

  write_has : (o l v : ℕ) → P (window_written s.window o l v) → P (window_happens (WindowWrite o l v) s).state.window
  unfolding window_happens window_write_of window_step_of
  write_has o l v h = unless (bad_window o) WINDOW_OFFSET _ (λ a. unless (bad_lanes l) LANES _ (λ b. pick_has (λ (t : State). P t.window) (busy s) s (with_window s (window_written s.window o l v)) same h))

  complete_has : (m : ℕ) → (beyond request_mask m ≡ false → P (with_assrreq s.window (masked s.window.assrreq m 0))) → P (window_happens (Complete m) s).state.window
  unfolding window_happens complete_of
  complete_has m h = unless (beyond request_mask m) NOT_HOST _ h

  fault_has : (v : ℕ) → P (with_fault s.window (faulted s.window.fault v)) → P (window_happens (Fault v) s).state.window
  unfolding window_happens fault_of
  fault_has v h = unless (beyond fault_mask v) NOT_HOST _ (λ a. h)

  mirror_has : (o m v : ℕ) → P (mirrored s.window o m v) → P (window_happens (MirrorUpdate o m v) s).state.window
  unfolding window_happens mirror_update_of
  mirror_has o m v h = unless (bad_window o) WINDOW_OFFSET _ (λ a. unless (beyond (mirror_mask o) m) NOT_HOST _ (λ b. h))

-- a guest write reaches FAULT_REG and ASSRREQ alone, a mirror update the mirrors
module _ (P : Mapped → Type 0) (w : Mapped) (same : P w) where
  written_has : (o l v : ℕ) → (o ≡ FAULT_REG → P (with_fault w (acknowledged w.fault l v))) → P (with_assrreq w (requested w.assrreq l v)) → P (window_written w o l v)
  unfolding window_written
  written_has o l v f a = go (eqb o FAULT_REG) refl
    where
      go : (b : Bool) → eqb o FAULT_REG ≡ b → P (pick b (with_fault w (acknowledged w.fault l v)) (pick (eqb o ASSRREQ) (with_assrreq w (requested w.assrreq l v)) w))
      go true e = f (eqb→eq o FAULT_REG (subst T (sym e) tt))
      go false e = pick_has P (eqb o ASSRREQ) _ w a same

  mirrored_has : (o m v : ℕ) → P (with_mtouud w (masked w.mtouud m v)) → P (with_mtouudh w (masked w.mtouudh m v)) → P (with_mbdsm w (masked w.mbdsm m v)) → P (mirrored w o m v)
  unfolding mirrored
  mirrored_has o m v a b c = pick_has P (eqb o MTOUUD) _ _ a (pick_has P (eqb o MTOUUD_HIGH) _ _ b (pick_has P (eqb o MBDSM) _ w c same))

-- ---- 3. a fault that is held stays

-- x is said of the test so that the case of a guest write can use it
clear_only : (o l v x : ℕ) → both (eqb o FAULT_REG) (clears l v) ≡ false → o ≡ FAULT_REG → acknowledged x l v ≡ x
unfolding acknowledged
clear_only o l v x n e =
    let c : clears l v ≡ false = rw e at n in
    rw c

fault_kept : (e : WindowEvent) (s : State) → bit s.window.fault 0 ≡ 1 → clearing e ≡ false → (window_happens e s).state.window.fault ≡ s.window.fault
unfolding window_happens cycles_of faulted
fault_kept (WindowRead o l) s t n = refl
fault_kept (WindowWrite o l v) s t n =
    let P : Mapped → Type 0 = λ w. w.fault ≡ s.window.fault in
    write_has s P refl o l v (written_has P s.window refl o l v (λ e. clear_only o l v s.window.fault n e) refl)
fault_kept (Complete m) s t n = complete_has s (λ w. w.fault ≡ s.window.fault) refl m (λ b. refl)
fault_kept (Fault v) s t n = fault_has s (λ w. w.fault ≡ s.window.fault) refl v (rw t)
fault_kept (AddCycles c) s t n = refl
fault_kept (MirrorUpdate o m v) s t n =
    let P : Mapped → Type 0 = λ w. w.fault ≡ s.window.fault in
    mirror_has s P refl o m v (mirrored_has P s.window refl o m v refl refl refl)

pub fault_locked : Locked
unfolding happens
fault_locked e s t = by_window (λ e. is_reset e ≡ false → of_window false clearing e ≡ false → (happens e s).state.window.fault ≡ s.window.fault) (λ e out n c. ap (λ (w : Mapped). w.fault) (window_left e s n out)) (λ w n c. fault_kept w s t c) e

-- ---- 1. the mirrors

masked_bit : (x m v n : ℕ) → n < 32 → bit (masked x m v) n ≡ pick (eqb (bit m n) 1) (bit v n) (bit x n)
unfolding masked
masked_bit x m v n h = bit_number 32 (λ (n : ℕ). pick (eqb (bit m n) 1) (bit v n) (bit x n)) (λ j. pick_has (λ (y : ℕ). y < 2) (eqb (bit m j) 1) _ _ (bit<2 v j) (bit<2 x j)) n h

-- a register F at o that guest writes, completions, faults and cycles leave, and that an update of o alone changes
module _ (o : ℕ) (F : Mapped → ℕ) (shows : (w : Mapped) (n : ℕ) → window_bit w o n ≡ bit (F w) n) (no-fault : (w : Mapped) (x : ℕ) → F (with_fault w x) ≡ F w) (no-request : (w : Mapped) (x : ℕ) → F (with_assrreq w x) ≡ F w) (no-cycles : (w : Mapped) (x : ℕ) → F (with_cycles w x) ≡ F w) (updates : (w : Mapped) (p m v : ℕ) → F (mirrored w p m v) ≡ pick (eqb p o) (masked (F w) m v) (F w)) where
  register_event : (e : WindowEvent) (s : State) (n : ℕ) → n < 32 → bit (F (window_happens e s).state.window) n ≡ or_held (mirror_gives o n e) (bit (F s.window) n)
  unfolding window_happens cycles_of mirror_update_of
  register_event (WindowRead p l) s n h = refl
  register_event (WindowWrite p l v) s n h =
      let P : Mapped → Type 0 = λ w. bit (F w) n ≡ bit (F s.window) n in
      write_has s P refl p l v (written_has P s.window refl p l v (λ e. ap (λ (x : ℕ). bit x n) (no-fault s.window _)) (ap (λ (x : ℕ). bit x n) (no-request s.window _)))
  register_event (Complete m) s n h = complete_has s (λ w. bit (F w) n ≡ bit (F s.window) n) refl m (λ b. ap (λ (x : ℕ). bit x n) (no-request s.window _))
  register_event (Fault v) s n h = fault_has s (λ w. bit (F w) n ≡ bit (F s.window) n) refl v (ap (λ (x : ℕ). bit x n) (no-fault s.window _))
  register_event (AddCycles c) s n h = ap (λ (x : ℕ). bit x n) (no-cycles s.window _)
  register_event (MirrorUpdate p m v) s n h = go (bad_window p) (beyond (mirror_mask p) m)
    where
      given_there : (a b : Bool) (x : ℕ) → pick a (pick b (bit v n) x) x ≡ or_held (pick (both a b) (given (bit v n)) nothing) x
      given_there true true x = refl
      given_there true false x = refl
      given_there false b x = refl

      changed : bit (F (mirrored s.window p m v)) n ≡ pick (eqb p o) (pick (eqb (bit m n) 1) (bit v n) (bit (F s.window) n)) (bit (F s.window) n)
      changed = ap (λ (x : ℕ). bit x n) (updates s.window p m v) ∙ inside (eqb p o)
        where
          inside : (a : Bool) → bit (pick a (masked (F s.window) m v) (F s.window)) n ≡ pick a (pick (eqb (bit m n) 1) (bit v n) (bit (F s.window) n)) (bit (F s.window) n)
          inside true = masked_bit (F s.window) m v n h
          inside false = refl

      go : (a b : Bool) → bit (F (pick a (refused WINDOW_OFFSET s) (pick b (refused NOT_HOST s) (done (with_window s (mirrored s.window p m v))))).state.window) n ≡ or_held (pick (both (not (either a b)) (both (eqb p o) (eqb (bit m n) 1))) (given (bit v n)) nothing) (bit (F s.window) n)
      go true b = refl
      go false true = refl
      go false false = changed ∙ given_there (eqb p o) (eqb (bit m n) 1) (bit (F s.window) n)

  mirror_history : (n : ℕ) → n < 32 → bit (F fresh_window) n ≡ 0 → (es : List Event) → window_bit (run es).window o n ≡ mirror_bit o n es
  unfolding fresh_of happens
  mirror_history n h z es = shows (run es).window n ∙ history next (λ (e : Event) (x : Unit {0}). x) (λ s. tt) (λ e s. refl) B (λ (x : Unit {0}). gives o n) (λ (x : Unit {0}). Unit {0}) (λ e x g t. tt) event es fresh_of tt ∙ ap (or_held (last_given (λ (e : Event) (x : Unit {0}). x) (λ (x : Unit {0}). gives o n) tt es)) z
    where
      B : State → ℕ
      B s = bit (F s.window) n

      outer : (e : Event) (s : State) → of_window true (λ (w : WindowEvent). false) e ≡ true → (b : Bool) → is_reset e ≡ b → B (happens e s).state ≡ or_held (pick b (given 0) (of_window nothing (mirror_gives o n) e)) (B s)
      outer e s out true r = ap B (reset_forgets e s r) ∙ z
      outer e s out false r = ap (λ (w : Mapped). bit (F w) n) (window_left e s r out) ∙ rw (elsewhere nothing (mirror_gives o n) e out)

      event : (e : Event) (s : State) → Unit {0} → B (happens e s).state ≡ or_held (gives o n e) (B s)
      event e s t = by_window (λ e. B (happens e s).state ≡ or_held (gives o n e) (B s)) (λ e out. outer e s out (is_reset e) refl) (λ w. register_event w s n h) e

-- each mirror is changed where the update is its own
another : (p x y : ℕ) → eqb x y ≡ false → eqb p x ≡ true → eqb p y ≡ true → ⊥
another p x y n e f = subst T (sym f ∙ ap (λ (q : ℕ). eqb q y) (eqb→eq p x (subst T (sym e) tt)) ∙ n) tt

module _ (w : Mapped) (p m v : ℕ) where
  abbrev by : Bool → Bool → Bool → Mapped
  by a b c = pick a (with_mtouud w (masked w.mtouud m v)) (pick b (with_mtouudh w (masked w.mtouudh m v)) (pick c (with_mbdsm w (masked w.mbdsm m v)) w))

  at_mtouud : (mirrored w p m v).mtouud ≡ pick (eqb p MTOUUD) (masked w.mtouud m v) w.mtouud
  unfolding mirrored
  at_mtouud = go (eqb p MTOUUD) (eqb p MTOUUD_HIGH) (eqb p MBDSM)
    where
      go : (a b c : Bool) → (by a b c).mtouud ≡ pick a (masked w.mtouud m v) w.mtouud
      go true b c = refl
      go false true c = refl
      go false false true = refl
      go false false false = refl

  at_mtouudh : (mirrored w p m v).mtouudh ≡ pick (eqb p MTOUUD_HIGH) (masked w.mtouudh m v) w.mtouudh
  unfolding mirrored
  at_mtouudh = go (eqb p MTOUUD) (eqb p MTOUUD_HIGH) (eqb p MBDSM) (another p MTOUUD MTOUUD_HIGH refl)
    where
      go : (a b c : Bool) → (a ≡ true → b ≡ true → ⊥) → (by a b c).mtouudh ≡ pick b (masked w.mtouudh m v) w.mtouudh
      go true true c n = absurd (n refl refl)
      go true false c n = refl
      go false true c n = refl
      go false false true n = refl
      go false false false n = refl

  at_mbdsm : (mirrored w p m v).mbdsm ≡ pick (eqb p MBDSM) (masked w.mbdsm m v) w.mbdsm
  unfolding mirrored
  at_mbdsm = go (eqb p MTOUUD) (eqb p MTOUUD_HIGH) (eqb p MBDSM) (another p MTOUUD MBDSM refl) (another p MTOUUD_HIGH MBDSM refl)
    where
      go : (a b c : Bool) → (a ≡ true → c ≡ true → ⊥) → (b ≡ true → c ≡ true → ⊥) → (by a b c).mbdsm ≡ pick c (masked w.mbdsm m v) w.mbdsm
      go true b true n k = absurd (n refl refl)
      go true b false n k = refl
      go false true true n k = absurd (k refl refl)
      go false true false n k = refl
      go false false true n k = refl
      go false false false n k = refl

mirror_cases : (P : ℕ → Type 0) → P MTOUUD → P MTOUUD_HIGH → P MBDSM → (o : ℕ) → is_mirror o ≡ true → P o
mirror_cases P low high base o t = go (eqb o MTOUUD) (eqb o MTOUUD_HIGH) (eqb o MBDSM) refl refl refl t
  where
    go : (a b c : Bool) → eqb o MTOUUD ≡ a → eqb o MTOUUD_HIGH ≡ b → eqb o MBDSM ≡ c → either a (either b c) ≡ true → P o
    go true b c ea eb ec t = subst P (sym (eqb→eq o MTOUUD (subst T (sym ea) tt))) low
    go false true c ea eb ec t = subst P (sym (eqb→eq o MTOUUD_HIGH (subst T (sym eb) tt))) high
    go false false true ea eb ec t = subst P (sym (eqb→eq o MBDSM (subst T (sym ec) tt))) base
    go false false false ea eb ec t = absurd (subst T (sym t) tt)

pub mirrors : Mirrors
unfolding window_bit
mirrors es o n is h =
    mirror_cases (λ o. window_bit (run es).window o n ≡ mirror_bit o n es)
    (mirror_history MTOUUD (λ w. w.mtouud) (λ w n. refl) (λ w x. refl) (λ w x. refl) (λ w x. refl) at_mtouud n h (bit_zero n) es)
    (mirror_history MTOUUD_HIGH (λ w. w.mtouudh) (λ w n. refl) (λ w x. refl) (λ w x. refl) (λ w x. refl) at_mtouudh n h (bit_zero n) es)
    (mirror_history MBDSM (λ w. w.mbdsm) (λ w n. refl) (λ w x. refl) (λ w x. refl) (λ w x. refl) at_mbdsm n h (bit_zero n) es)
    o is

-- every lane of lanes 15 is enabled
enabled_15 : ℕ → Bool
enabled_15 n = eqb (bit 15 (n / 8)) 1

all_enabled : T (all_below 32 enabled_15)
unfolding enabled_15
all_enabled = tt

lane_15 : (n x : ℕ) → n < 32 → pick (eqb (bit 15 (n / 8)) 1) x undriven ≡ x
unfolding enabled_15
lane_15 n x h =
    let on : eqb (bit 15 (n / 8)) 1 ≡ true = is_true _ (below 32 enabled_15 all_enabled n h) in
    rw on

pub mirrors_read : MirrorsRead
unfolding window_read_of window_read_bit
mirrors_read es o is q =
    let good : bad_window o ≡ false = mirror_cases (λ o. bad_window o ≡ false) refl refl refl o is in
    rw good (ap ok (number_ext 32 _ _ (λ n h. lane_15 n _ h ∙ rw (ap (λ (x : Seen). x.busy) (seen_run es) ∙ q) (mirrors es o n is h))))

-- ---- 2. the cycle sum

-- x is y and c more, past 32 bits wrapped, and fits where y does
abbrev Added : ℕ → ℕ → ℕ → Type 0
Added x y c = (x % 2 ^ 32 ≡ (y + c) % 2 ^ 32) × (y < 2 ^ 32 → x < 2 ^ 32)

uncounted : (x y : ℕ) → x ≡ y → Added x y 0
uncounted x y e = (ap (λ (z : ℕ). z % 2 ^ 32) (e ∙ sym (add-zero y)), λ h. rw e h)

sum_event : (e : WindowEvent) (s : State) → Added (window_happens e s).state.window.cycles s.window.cycles (counted e)
unfolding window_happens cycles_of
sum_event (WindowRead o l) s = uncounted _ _ refl
sum_event (WindowWrite o l v) s =
    let P : Mapped → Type 0 = λ w. w.cycles ≡ s.window.cycles in
    uncounted _ _ (write_has s P refl o l v (written_has P s.window refl o l v (λ e. refl) refl))
sum_event (Complete m) s = uncounted _ _ (complete_has s (λ w. w.cycles ≡ s.window.cycles) refl m (λ b. refl))
sum_event (Fault v) s = uncounted _ _ (fault_has s (λ w. w.cycles ≡ s.window.cycles) refl v refl)
sum_event (AddCycles n) s = (omega arith, λ h. omega arith)
sum_event (MirrorUpdate o m v) s =
    let P : Mapped → Type 0 = λ w. w.cycles ≡ s.window.cycles in
    uncounted _ _ (mirror_has s P refl o m v (mirrored_has P s.window refl o m v refl refl refl))

sum_next : (e : Event) (s : State) → is_reset e ≡ false → Added (happens e s).state.window.cycles s.window.cycles (of_window 0 counted e)
unfolding happens
sum_next e s = by_window (λ e. is_reset e ≡ false → Added (happens e s).state.window.cycles s.window.cycles (of_window 0 counted e)) (λ e out r. rw (elsewhere 0 counted e out) (uncounted _ _ (ap (λ (w : Mapped). w.cycles) (window_left e s r out)))) (λ w r. sum_event w s) e

-- one event: from a sum of n, past 32 bits wrapped, to the sum that the event counts
sum_one : (e : Event) (s : State) (n : ℕ) → s.window.cycles ≡ n % 2 ^ 32 → (happens e s).state.window.cycles ≡ count_next e n % 2 ^ 32
unfolding fresh_of
sum_one e s n h = go (is_reset e) refl
  where
    go : (b : Bool) → is_reset e ≡ b → (happens e s).state.window.cycles ≡ pick b 0 (n + of_window 0 counted e) % 2 ^ 32
    go true r = ap (λ (t : State). t.window.cycles) (reset_forgets e s r)
    go false r =
        let a = sum_next e s r in
        let small : (happens e s).state.window.cycles < 2 ^ 32 = a.1 (omega (arith, h)) in
        omega (arith, h, a.0, small)

pub cycle_sum : Sum
unfolding fresh_of ran
cycle_sum es = go es fresh_of 0 refl
  where
    go : (es : List Event) (s : State) (n : ℕ) → s.window.cycles ≡ n % 2 ^ 32 → (run_from s es).window.cycles ≡ ran count_next n es % 2 ^ 32
    go [] s n h = h
    go (e ∷ es) s n h = go es (happens e s).state (count_next e n) (sum_one e s n h)

-- ---- 4. requests

requested_bit : (x l v n : ℕ) → n < 32 → bit (requested x l v) n ≡ pick (asks l v n) 1 (bit x n)
unfolding requested
requested_bit x l v n h = bit_number 32 (λ (j : ℕ). pick (asks l v j) 1 (bit x j)) (λ j. pick_has (λ (y : ℕ). y < 2) (asks l v j) 1 (bit x j) (omega arith) (bit<2 x j)) n h

module _ (n : ℕ) (low : 4 ≤ n) (h : n < 32) where
  abbrev Clear : Mapped → Type 0
  Clear w = bit w.assrreq n ≡ 0

  requested_above : (x l v : ℕ) → bit x n ≡ 0 → bit (requested x l v) n ≡ 0
  requested_above x l v z =
      let above : ltb n 4 ≡ false = le-ltb n 4 low in
      requested_bit x l v n h ∙ rw above z

  request_event : (e : WindowEvent) (s : State) → Clear s.window → Clear (window_happens e s).state.window
  unfolding window_happens cycles_of
  request_event (WindowRead o l) s z = z
  request_event (WindowWrite o l v) s z = write_has s Clear z o l v (written_has Clear s.window z o l v (λ e. z) (requested_above s.window.assrreq l v z))
  request_event (Complete m) s z = complete_has s Clear z m (λ b. masked_bit s.window.assrreq m 0 n h ∙ pick_has (λ (y : ℕ). y ≡ 0) (eqb (bit m n) 1) (bit 0 n) (bit s.window.assrreq n) (bit_zero n) z)
  request_event (Fault v) s z = fault_has s Clear z v z
  request_event (AddCycles c) s z = z
  request_event (MirrorUpdate o m v) s z = mirror_has s Clear z o m v (mirrored_has Clear s.window z o m v z z z)

  request_next : (e : Event) (s : State) → Clear s.window → Clear (happens e s).state.window
  unfolding happens fresh_of
  request_next e s z = by_window (λ e. Clear (happens e s).state.window) (λ e out. go e out (is_reset e) refl) (λ w. request_event w s z) e
    where
      go : (e : Event) → of_window true (λ (w : WindowEvent). false) e ≡ true → (b : Bool) → is_reset e ≡ b → Clear (happens e s).state.window
      go e out true r = rw (reset_forgets e s r) (bit_zero n)
      go e out false r = subst Clear (sym (window_left e s r out)) z

pub requests : Requests
unfolding fresh_of
requests es n low h = each_keeps (λ s. Clear n low h s.window) (request_next n low h) es fresh_of (bit_zero n)

-- ---- 6. while busy

pub all_ones : (s : State) (o l : ℕ) → busy s ≡ true → lane_value (window_read_bit s o) l ≡ 0xFFFFFFFF
unfolding window_read_bit number_of
all_ones s o l q = number_ext 32 (λ (n : ℕ). pick (eqb (bit l (n / 8)) 1) (window_read_bit s o n) undriven) (λ (n : ℕ). 1) (λ n h. rw q (pick_has (λ (y : ℕ). y ≡ 1) (eqb (bit l (n / 8)) 1) 1 undriven refl refl))

pub window_busy : WindowBusy
unfolding window_read_of window_write_of window_step_of
window_busy s q = (λ o l. rw (all_ones s o l q), λ o l v. rw q (go (bad_window o) (bad_lanes l)))
  where
    go : (a b : Bool) → (pick a (refused WINDOW_OFFSET s) (pick b (refused LANES s) (done s))).state ≡ s
    go true b = refl
    go false true = refl
    go false false = refl

-- ---- 7. lane by lane

window<2 : (s : State) (o n : ℕ) → window_read_bit s o n < 2
unfolding window_read_bit window_bit
window<2 s o n =
    let B : ℕ → Type 0 = λ y. y < 2 in
    let w = s.window in
    pick_has B (busy s) _ _ (omega arith)
    (pick_has B (eqb o FAULT_REG) _ _ (bit<2 w.fault n)
    (pick_has B (eqb o ASSRREQ) _ _ (pick_has B (ltb n 16) _ _ (bit<2 w.assrreq n) (omega arith))
    (pick_has B (eqb o MTOUUD) _ _ (bit<2 w.mtouud n)
    (pick_has B (eqb o MTOUUD_HIGH) _ _ (bit<2 w.mtouudh n)
    (pick_has B (eqb o MBDSM) _ _ (bit<2 w.mbdsm n)
    (pick_has B (eqb o DRAM_CYCLES) _ _ (bit<2 w.cycles n) (omega arith)))))))

-- the dword's bits by the bytes from o on
abbrev byte_bit : State → ℕ → Bits
byte_bit s o i j = window_read_bit s o (8 * (i - o) + j)

by_bytes : (s : State) (o l : ℕ) → lane_value (window_read_bit s o) l ≡ shown_value (byte_bit s o) o l
by_bytes s o l =
    number_ext 32 (λ (n : ℕ). pick (eqb (bit l (n / 8)) 1) (window_read_bit s o n) undriven) (λ (n : ℕ). pick (eqb (bit l (n / 8)) 1) (byte_bit s o (o + n / 8) (n % 8)) undriven)
    (λ n h.
    let whole : 8 * (o + n / 8 - o) + n % 8 ≡ n = omega arith in
    rw whole)

pub window_lanes : WindowLanes
window_lanes s o l k h =
    let here : o + k - o ≡ k = omega arith in
    ap (λ (v : ℕ). byte_for o v (o + k)) (by_bytes s o l)
    ∙ in_lanes (byte_bit s o) o l k (λ i j. window<2 s o (8 * (i - o) + j)) h
    ∙ ap (λ (y : ℕ). pick (enabled o l (o + k)) y 0xFF) (number_ext 8 (byte_bit s o (o + k)) (λ (j : ℕ). window_read_bit s o (8 * k + j)) (λ j g. ap (λ (x : ℕ). window_read_bit s o (8 * x + j)) here))

pub window_no_lanes : WindowNoLanes
window_no_lanes s o = by_bytes s o 0 ∙ no_lanes (byte_bit s o) o

-- lanes 0 ask for no request and clear no fault
none_asked : (v n : ℕ) → asks 0 v n ≡ false
none_asked v n = rw (bit_zero (n / 8), both_off (ltb n 4))

none_requested : (x v n : ℕ) → n < 32 → bit (requested x 0 v) n ≡ bit x n
none_requested x v n h = requested_bit x 0 v n h ∙ rw (none_asked v n)

pub window_no_change : WindowUnlaned
unfolding window_happens window_bit acknowledged
window_no_change s o v p n h =
    write_has s (λ (w : Mapped). window_bit w p n ≡ window_bit s.window p n) refl o 0 v
    (written_has (λ (w : Mapped). window_bit w p n ≡ window_bit s.window p n) s.window refl o 0 v (λ e. refl) (rw (none_requested s.window.assrreq v n h)))

-- ---- 8. how an address gets there

-- the offset of a translation claim
abbrev inside : Claimed → ℕ → Type 0
inside unclaimed o = ⊥
inside (claimed translation x) o = o ≡ x
inside (claimed aperture x) o = ⊥
inside (claimed io x) o = ⊥

aperture_no : (s : State) (code a o : ℕ) → inside (aperture_claim s code a) o → ⊥
unfolding aperture_claim
aperture_no s code a o = go (eqb code 2) (holds (aperture_base s) (exponent_of code) a)
  where
    go : (x y : Bool) → inside (pick x unclaimed (pick y (claimed aperture (a % 2 ^ exponent_of code)) unclaimed)) o → ⊥
    go true b h = h
    go false true h = h
    go false false h = h

claimed_inside : (s : State) (a o : ℕ) → inside (memory_claim_of s a) o → o ≡ a % 2 ^ translation_exponent
unfolding memory_claim_of
claimed_inside s a o = go (eqb (bit (byte s PCICMD2) 1) 0) (off s) (holds (translation_base s) translation_exponent a)
  where
    go : (x y z : Bool) → inside (pick x unclaimed (pick y unclaimed (pick z (claimed translation (a % 2 ^ translation_exponent)) (aperture_claim s (size_of (byte s MSAC)) a)))) o → o ≡ a % 2 ^ translation_exponent
    go true y z h = absurd h
    go false true z h = absurd h
    go false false true h = h
    go false false false h = absurd (aperture_no s (size_of (byte s MSAC)) a o h)

pub claimed_reached : ClaimedReached
claimed_reached s a o e four =
    let is : o ≡ a % 2 ^ translation_exponent = claimed_inside s a o (rw e refl) in
    let small : ltb 0x3FFFFF o ≡ false = le-ltb 0x3FFFFF o (omega (arith, is)) in
    let whole : eqb (o % 4) 0 ≡ true = eq-eqb (o % 4) 0 (omega (arith, is, four)) in
    rw (small, whole)
