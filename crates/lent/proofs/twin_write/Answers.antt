-- What a write over the lent record leaves, by its number alone.
use Rattle.std.proofs.Common.{ap}
use Rattle.door_write.specs.Numbered.{numbered}
use Rattle.lent.proofs.twin_write.Goals as goal

pub returns : goal.returns
returns c = rw c.number.ensures (ap numbered c.put.ensures)
