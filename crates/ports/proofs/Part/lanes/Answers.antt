-- The lanes of w bytes from byte a, by the widths and places that there are.
use mathlib.Core.Path.{◌≡◌}
use native.Mathlib.Omega.{arith}
use Rattle.bits.specs.Bits.{number_of}
use Rattle.rules.specs.Ports.{port_lanes}
use Rattle.ports.proofs.Widths.{width_1, good_width}
use Rattle.ports.proofs.Part.lanes.Goals as goal

pub returns-then-w-eq4 : goal.returns-then-w-eq4
unfolding number_of port_lanes
returns-then-w-eq4 c =
    let e : c.args.self.first ≡ 0 = omega arith in
    rw (e, c.if-w-eq4.true)

pub returns-then-a-eq0 : goal.returns-then-a-eq0
unfolding number_of port_lanes
returns-then-a-eq0 c = rw (c.if-a-eq0.true, c.if-w-eq2.true)

pub returns-then-a-eq1 : goal.returns-then-a-eq1
unfolding number_of port_lanes
returns-then-a-eq1 c = rw (c.if-a-eq1.true, c.if-w-eq2.true)

pub returns-then-w-eq2 : goal.returns-then-w-eq2
unfolding number_of port_lanes
returns-then-w-eq2 c =
    let e : c.args.self.first ≡ 2 = omega arith in
    rw (e, c.if-w-eq2.true)

pub returns-then-a-eq0-2 : goal.returns-then-a-eq0-2
unfolding number_of port_lanes
returns-then-a-eq0-2 c = rw (c.if-a-eq0-2.true, width_1 c.args.self.width (good_width _ c.args.self.wide) c.if-w-eq4.false c.if-w-eq2.false)

pub returns-then-a-eq1-2 : goal.returns-then-a-eq1-2
unfolding number_of port_lanes
returns-then-a-eq1-2 c = rw (c.if-a-eq1-2.true, width_1 c.args.self.width (good_width _ c.args.self.wide) c.if-w-eq4.false c.if-w-eq2.false)

pub returns-then-a-eq2 : goal.returns-then-a-eq2
unfolding number_of port_lanes
returns-then-a-eq2 c = rw (c.if-a-eq2.true, width_1 c.args.self.width (good_width _ c.args.self.wide) c.if-w-eq4.false c.if-w-eq2.false)

pub returns : goal.returns
unfolding number_of port_lanes
returns c =
    let one = width_1 c.args.self.width (good_width _ c.args.self.wide) c.if-w-eq4.false c.if-w-eq2.false in
    let e : c.args.self.first ≡ 3 = omega arith in
    rw (e, one)
