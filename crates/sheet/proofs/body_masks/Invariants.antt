-- A body, byte by byte: the first byte whose masks are not good decides.
use Rattle.std.proofs.Common.{◌≡◌, ◌-◌, ◌/◌, length, Ok, is_ok}
use Rattle.bits.specs.Choice.{first}
use Rattle.sheet.specs.Reads.{masks_at, body_is}
use Rattle.sheet.proofs.body_masks.Given as goal

abbrev pub invariant-loop-t : goal.invariant-loop-t
invariant-loop-t l = body_is l.b ≡ first is_ok (Ok tt) (masks_at l.b) (length l.b / 4 - l.t) l.t
