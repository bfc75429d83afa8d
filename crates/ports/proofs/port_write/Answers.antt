-- A port write: refusals 2, 3 and 4 in order, the latch, or a guest write to the dword that it names.
use mathlib.Core.Path.{sym, ap, ◌∙◌}
use Rattle.rules.specs.Access.{Outcome}
use Rattle.rules.specs.Ports.{port_write_of}
use Rattle.ports.proofs.Data.{data_access, port_step}
use Rattle.ports.proofs.port_write.Goals as goal

pub returns : goal.returns
unfolding port_write_of
returns c =
    let a = c.args in
    let s = a.s in
    let g = sym c.bad_width.ensures ∙ c.if-bad_width.false in
    let n = sym c.not_ours.ensures ∙ c.if-not_ours.false in
    let l = sym c.at_latch.ensures ∙ c.if-at_latch.false in
    let o = sym c.other_function.ensures ∙ c.if-other_function.false in
    let w = rw (c.lanes.ensures, c.place.ensures) at c.write-w.ensures in
    let st = ap (λ (x : Outcome). x.state) (w ∙ port_step s s.latch a.port a.width a.value (data_access s.latch a.port a.width g n l)) in
    rw (g, n, l, o, st)
