-- Bytes taken out of a dword.
use Rattle.ports.proofs.Widths.{scaled}
use Rattle.ports.proofs.Part.of.Goals as goal

pub nonzero_div-d : goal.nonzero_div-d
nonzero_div-d c = rw c.scale.ensures (scaled c.args.self.first)
