-- Bytes put to their place in a dword.
use Rattle.ports.proofs.Widths.{placed<}
use Rattle.ports.proofs.Part.place.Goals as goal

pub overflow_mul-result : goal.overflow_mul-result
overflow_mul-result c =
    let a = c.args in
    record { fits = rw (c.low.ensures, c.scale.ensures) (placed< a.v a.self.first a.self.width a.self.within) }
