-- A number of k digits: the rule from here is the rule from the start.
use mathlib.Core.Path.{◌≡◌}
use Prim.Native.Nat.{◌<◌, ◌-◌, ◌+◌, ◌^◌}
use Rattle.line_forms.specs.Read.{hex_from}
use Rattle.line_parse.proofs.number.Given as goal

abbrev pub invariant-loop-j : goal.invariant-loop-j
invariant-loop-j l = (l.v < 16 ^ l.j) × (hex_from (l.k - l.j) l.s (l.at + l.j) l.v ≡ hex_from l.k l.s l.at 0)
