-- A body, byte by byte: the first byte whose masks are not good decides.
use Rattle.std.proofs.Common.{◌≡◌, ◌/◌, length, Ok, Err, sym, one-mul, arith}
use Rattle.std.proofs.lemmas.Result.{err_from_is_err_and}
use Rattle.sheet.specs.Reads.{masks_at, body_is}
use Rattle.sheet.proofs.First.{starts, goes_on, stops, ends}
use Rattle.sheet.proofs.body_masks.Goals as goal

pub loop-t-init : goal.loop-t-init
unfolding body_is
loop-t-init c = let b = c.args.b.now in starts (masks_at b) (length b / 4)

pub loop-t-preserved : goal.loop-t-preserved
loop-t-preserved c =
    let b = c.args.b.now in
    let good : masks_at b c.loop-t.t ≡ Ok tt = rw one-mul (sym c.in_ok-byte_masks.ensures) in
    goes_on (masks_at b) (length b / 4) c.loop-t.t (omega arith) c.loop-t.invariant good

pub returns-in_err-byte_masks : goal.returns-in_err-byte_masks
returns-in_err-byte_masks c =
    let b = c.args.b.now in
    let p = err_from_is_err_and c.from_residual.result c.from_residual.ensures.1 in
    let bad : masks_at b c.loop-t.t ≡ Err c.in_err-byte_masks.field-0.0 = rw one-mul (sym c.in_err-byte_masks.ensures) in
    rw (p.1, p.2) (sym (stops (masks_at b) (length b / 4) c.loop-t.t _ (omega arith) c.loop-t.invariant bad))

pub returns : goal.returns
returns c =
    let b = c.args.b.now in
    sym (ends (masks_at b) (length b / 4) c.loop-t.t (omega arith) c.loop-t.invariant)
