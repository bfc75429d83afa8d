-- A return to default, byte by byte.
use mathlib.Core.Path.{◌≡◌}
use native.Mathlib.Omega.{arith}
use native.Mathlib.Numerals.{add-one}
use native.Mathlib.Nat.{zero-add}
use Rattle.bits.proofs.Places.{map_n_step}
use Rattle.plain.specs.Bytes.{returned_byte, returned_of}
use Rattle.plain.proofs.reset.Goals as goal

pub loop-i-preserved : goal.loop-i-preserved
loop-i-preserved c =
    let i = c.loop-i.i in
    let a = c.args in
    rw (c.blend.ensures, add-one, c.loop-i.invariant) (rw zero-add at (map_n_step (returned_byte a.masks.now a.defaults.now) i 0 a.m.now))

pub returns : goal.returns
unfolding returned_of
returns c =
    let e : c.loop-i.i ≡ 256 = omega arith in
    rw e at c.loop-i.invariant
