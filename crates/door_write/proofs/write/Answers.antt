-- A guest write by value: its number alone, and the state.
use mathlib.Core.Path.{ap}
use Rattle.door_write.specs.Numbered.{numbered}
use Rattle.door_write.proofs.write.Goals as goal

pub returns : goal.returns
returns c = rw c.number.ensures (ap numbered c.put-w.ensures)
