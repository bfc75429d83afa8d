-- A port read: refusals 2, 3 and 4 in order, the latch, or the bytes of the dword that it names.
use mathlib.Core.Path.{sym, ap, ◌∙◌}
use Prim.Native.Nat.{ℕ, ◌%◌}
use lib.ListN.{get_or}
use mir.Syntax.{w8}
use mir.Val.{Fits}
use Rattle.rules.specs.Ports.{port_read_of}
use Rattle.ports.specs.Part.{part_of}
use Rattle.ports.proofs.Data.{data_access, port_part}
use borrow.Author.Rules.{rules}
use Rattle.ports.proofs.port_read.Goals as goal

pub returns : goal.returns
unfolding port_read_of
returns c =
    let a = c.args in
    let s = a.s in
    let fits : (i : ℕ) → Fits w8 (get_or s.bytes i 0) = λ i. search rules in
    let g = sym c.bad_width.ensures ∙ c.if-bad_width.false in
    let n = sym c.not_ours.ensures ∙ c.if-not_ours.false in
    let l = sym c.at_latch.ensures ∙ c.if-at_latch.false in
    let o = sym c.other_function.ensures ∙ c.if-other_function.false in
    let v = c.of.ensures ∙ ap (λ (x : ℕ). part_of x (a.port % 4) a.width) c.dword-whole.ensures ∙ port_part s (λ i. (fits i).fits) s.latch a.port a.width (data_access s.latch a.port a.width g n l) in
    rw (g, n, l, o, v)
