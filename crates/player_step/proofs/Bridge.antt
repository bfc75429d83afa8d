-- What is asked of the player over lent bytes comes to the rules.
use Rattle.std.specs.Prelude.{Option, None, Some}
use mathlib.Core.Path.{◌≡◌, refl, ap}
use mathlib.Core.List.{List}
use Prim.Native.Nat.{ℕ}
use Rattle.answer.specs.Refusals.{no}
use Rattle.map.specs.Map.{guests, hosts}
use Rattle.rules.specs.declared.State.{State}
use Rattle.rules.specs.declared.Event.TheVariants.{Read, Write, PortRead, PortWrite, HostUpdate, EndSignal, PlatformReset, InWindow}
use Rattle.rules.specs.Access.{Outcome, done}
use Rattle.rules.specs.Fresh.{fresh_of}
use Rattle.rules.specs.Events.{happens}
use Rattle.rules.proofs.Good.{Good, event_good}
use Rattle.guest_write.specs.Bytes.{Lent, lent}
use Rattle.guest_write.proofs.Bridge.{write_is}
use Rattle.guest_read.proofs.Bridge.{read_is}
use Rattle.function_reset.proofs.Bridge.{end_is}
use Rattle.host_updates.proofs.Bridge.{update_is}
use Rattle.asked.specs.declared.Asked.{Asked}
use Rattle.asked.specs.declared.Asked.TheVariants as Q
use Rattle.line_table.specs.Table.{Players}
use Rattle.line_table.proofs.Rows.{player_only}
use Rattle.player_step.specs.Ask.{happens_in, asked_of}
use Rattle.player_step.specs.Player.{asked_in, asks}

-- ---- an outcome's bytes and flags

abbrev pub lent_of : Outcome → Lent
lent_of o = lent o.reply o.state.bytes o.state.flags

asked_is : (s : State) → Good s → (q : Option Asked) → Players q → asked_of guests hosts s.bytes s.flags q ≡ lent_of (asked_in q s)
unfolding asked_of happens_in happens fresh_of
asked_is s g (Some (Q.Event (Read o l))) p = ap (λ r. lent r s.bytes s.flags) (read_is s g.fits o l)
asked_is s g (Some (Q.Event (Write o l v))) p = ap lent_of (write_is s g.long g.fits o l v)
asked_is s g (Some (Q.Event (PortRead port w))) p = absurd p
asked_is s g (Some (Q.Event (PortWrite port w v))) p = absurd p
asked_is s g (Some (Q.Event (HostUpdate o m v))) p = ap lent_of (update_is s g.long g.fits o m v)
asked_is s g (Some (Q.Event EndSignal)) p = ap (λ (t : State). lent_of (done t)) (end_is s g.long)
asked_is s g (Some (Q.Event PlatformReset)) p = refl
asked_is s g (Some (Q.Event (InWindow e))) p = absurd p
asked_is s g (Some (Q.Look k)) p = absurd p
asked_is s g None p = refl

-- a line of the player's asks only what it takes
pub line_is : (s : State) → Good s → (l : List ℕ) → asked_of guests hosts s.bytes s.flags (asks l) ≡ lent_of (asked_in (asks l) s)
line_is s g l = asked_is s g (asks l) (player_only l)

pub asked_good : (q : Option Asked) (s : State) → Good s → Good (asked_in q s).state
asked_good (Some (Q.Event e)) s g = event_good e s g
asked_good (Some (Q.Look k)) s g = g
asked_good None s g = g

-- a line of no form is refused 9, and changes nothing: the paper's number
pub nothing_is_9 : (s : State) → asked_in None s ≡ record { reply = no 9; state = s }
nothing_is_9 s = refl
