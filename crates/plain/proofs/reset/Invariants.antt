-- A return to default, byte by byte.
use mathlib.Core.Path.{◌≡◌}
use Rattle.bits.specs.Places.{map_n}
use Rattle.plain.specs.Bytes.{returned_byte}
use Rattle.plain.proofs.reset.Given as goal

abbrev pub invariant-loop-i : goal.invariant-loop-i
invariant-loop-i l = l.m ≡ map_n l.i (returned_byte l.masks l.defaults) 0 l.initial.m
