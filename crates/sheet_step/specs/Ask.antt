-- What a line asks of a sheet's device, over lent bytes, as the code does it; proofs/Bridge.antt shows that it comes to the rules.
use Rattle.std.specs.Prelude.{Option, None, Some, List, ℕ}
use Rattle.answer.specs.Refusals.{fine, no, LINE}
use Rattle.plain.specs.Bytes.{returned_of}
use Rattle.host_updates.specs.Update.{Lent, lent, update_bytes}
use Rattle.plain_device.specs.declared.Event.{Event}
use Rattle.plain_device.specs.declared.Event.TheVariants.{Read, Write, HostUpdate, FunctionReset, PlatformReset}
use Rattle.plain_device.specs.Bytes.{read_bytes, write_bytes}

-- under the tables d, g, h and r: defaults, guest, host and reset masks; m are the bytes
module _ (d g h r m : List ℕ) where
  unfoldable pub happens_in : Event → Lent
  happens_in (Read o l) = lent (read_bytes m o l) m
  happens_in (Write o l v) = write_bytes g m o l v
  happens_in (HostUpdate o k v) = update_bytes h m o k v
  happens_in FunctionReset = lent fine (returned_of r d m)
  happens_in PlatformReset = lent fine d

  unfoldable pub meant_of : Option Event → Lent
  meant_of (Some e) = happens_in e
  meant_of None = lent (no LINE) m
