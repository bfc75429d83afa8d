-- What is asked of the player, over lent bytes and flags, as the code does it; proofs/Bridge.antt shows that it comes to the rules.
use Rattle.std.specs.Prelude.{Option, None, Some, List, ℕ}
use Rattle.answer.specs.Refusals.{fine, no, LINE}
use Rattle.map.specs.Map.{defaults}
use Rattle.rules.specs.declared.Flags.{Flags}
use Rattle.rules.specs.declared.Event.{Event}
use Rattle.rules.specs.declared.Event.TheVariants.{Read, Write, PortRead, PortWrite, HostUpdate, EndSignal, PlatformReset, InWindow}
use Rattle.rules.specs.Access.{up}
use Rattle.rules.specs.Fresh.{fresh_flags}
use Rattle.guest_read.specs.Shown.{read_lanes}
use Rattle.guest_write.specs.Bytes.{Lent, lent, write_lanes}
use Rattle.function_reset.specs.Bytes.{end_bytes, end_flags}
use Rattle.host_updates.specs.Update.{update_bytes}
use Rattle.asked.specs.declared.Asked.{Asked}
use Rattle.asked.specs.declared.Asked.TheVariants as Q

-- under the guest and the host masks g and h, with the bytes m and the flags c
module _ (g h m : List ℕ) (c : Flags) where
  -- a line of no form
  abbrev pub none_in : Lent
  none_in = lent (no LINE) m c

  -- ports and window are not the player's
  unfoldable pub happens_in : Event → Lent
  happens_in (Read o l) = lent (read_lanes (up c.busy) m o l) m c
  happens_in (Write o l v) = write_lanes g c m o l v
  happens_in (HostUpdate o k v) = lent (update_bytes h m o k v).reply (update_bytes h m o k v).bytes c
  happens_in EndSignal = lent fine (end_bytes c m) (end_flags c)
  happens_in PlatformReset = lent fine defaults fresh_flags
  happens_in (PortRead p w) = none_in
  happens_in (PortWrite p w v) = none_in
  happens_in (InWindow e) = none_in

  unfoldable pub asked_of : Option Asked → Lent
  asked_of (Some (Q.Event e)) = happens_in e
  asked_of (Some (Q.Look k)) = none_in
  asked_of None = none_in
