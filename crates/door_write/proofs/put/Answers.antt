-- A guest write where the record lies: the write over its bytes comes to the rule.
use mathlib.Core.Path.{◌≡◌, ap, ◌∙◌}
use lib.ListN.{length}
use Rattle.std.proofs.Common.{rules}
use Rattle.std.proofs.lemmas.Result.{err_from_is_err_and}
use Rattle.map.specs.Map.{guests}
use Rattle.guest_write.proofs.Entry.{write_refused, write_made}
use Rattle.guest_write.proofs.Bridge.{whole, write_is}
use Rattle.door_write.proofs.put.Goals as goal

pub returns-in_err-a : goal.returns-in_err-a
returns-in_err-a c =
    let a = c.args in
    let s = a.s.now in
    let n : length s.bytes ≡ 256 = search rules in
    let fits = c.bytes_fit.ensures in
    let p = err_from_is_err_and c.from_residual.result c.from_residual.ensures.1 in
    rw (p.1, p.2) (ap (whole s n fits) (write_refused guests s.flags s.bytes _ _ a.value _ c.in_err-a.ensures.asked) ∙ write_is s n fits a.offset a.lanes a.value)

pub returns : goal.returns
returns c =
    let a = c.args in
    let s = a.s.now in
    let n : length s.bytes ≡ 256 = search rules in
    let fits = c.bytes_fit.ensures in
    let e = c.in_ok-a.ensures in
    let t = rw (e.made.0, e.made.1, c.all_guests-guest.ensures) at c.taken.ensures in
    ap (whole s n fits) (t ∙ write_made guests s.flags s.bytes _ _ a.value e.asked) ∙ write_is s n fits a.offset a.lanes a.value
