-- A number of k digits: the rule from here is the rule from the start.
use mathlib.Core.Path.{◌≡◌, sym, ◌∙◌}
use Prim.Native.Nat.{suc, ◌<◌, ◌-◌, ◌+◌, ◌*◌, ◌^◌}
use native.Mathlib.Omega.{arith}
use native.Mathlib.Nat.{add_assoc}
use Rattle.line_forms.specs.Read.{hex_from}
use Rattle.line_forms.proofs.Digits.{stops, goes, grown, of_fewer}
use Rattle.line_parse.proofs.number.Goals as goal

-- what the number is after one more digit
fits : (c : goal.In_ok-d) → c.loop-j.v * 16 + c.in_ok-d.d < 2 ^ 64
fits c = of_fewer 16 (c.loop-j.j + 1) _ (omega arith) (grown c.loop-j.j c.loop-j.v c.in_ok-d.d c.loop-j.invariant.0 c.in_ok-d.ensures.digit.1)

pub returns-in_err-d : goal.returns-in_err-d
returns-in_err-d c =
    let a = c.args in
    let e : a.k - c.loop-j.j ≡ suc (a.k - (c.loop-j.j + 1)) = omega arith in
    rw c.from_residual.ensures (sym (stops _ _ _ _ c.in_err-d.ensures.other) ∙ rw e at c.loop-j.invariant.1)

pub overflow_mul-v : goal.overflow_mul-v
overflow_mul-v c = omega (arith, fits c)

pub overflow_add-v : goal.overflow_add-v
overflow_add-v c = omega (arith, fits c)

pub loop-j-preserved : goal.loop-j-preserved
loop-j-preserved c =
    let a = c.args in
    let d = c.in_ok-d.ensures.digit in
    let e : a.k - c.loop-j.j ≡ suc (a.k - (c.loop-j.j + 1)) = omega arith in (
      grown c.loop-j.j c.loop-j.v c.in_ok-d.d c.loop-j.invariant.0 d.1,
      rw (d.0, ← add_assoc) (sym (goes _ _ _ _ (rw d.0 at d.1)) ∙ rw e at c.loop-j.invariant.1),
    )

pub returns : goal.returns
unfolding hex_from
returns c =
    let e : c.args.k - c.loop-j.j ≡ 0 = omega arith in
    rw e at c.loop-j.invariant.1
