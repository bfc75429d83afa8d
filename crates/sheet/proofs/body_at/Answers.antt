-- The body of an entry, if there is one.
use Rattle.std.proofs.Common.{◌≡◌, Some, None, sym, ◌∙◌}
use Rattle.std.proofs.lemmas.Result.{err_from_is_err_and}
use Rattle.sheet.specs.declared.BodyFault.TheVariants.{Missing}
use Rattle.sheet.specs.Reads.{entry_at, body_at}
use Rattle.sheet.proofs.body_at.Goals as goal

pub returns-in_err-e : goal.returns-in_err-e
unfolding body_at
returns-in_err-e c =
    let p = err_from_is_err_and c.from_residual.result c.from_residual.ensures.1 in
    let none : entry_at c.args.s.now c.args.k ≡ None = sym c.entry_at.ensures ∙ c.in_err-e.ensures.ok_part in
    let told = rw c.in_err-e.ensures.ok_part at c.in_err-e.ensures.value in
    let missing : c.in_err-e.field-0.0 ≡ Missing = cc in
    rw (p.1, p.2, none, missing)

pub returns : goal.returns
unfolding body_at
returns c =
    let e : entry_at c.args.s.now c.args.k ≡ Some c.in_ok-e.e = sym c.entry_at.ensures ∙ c.in_ok-e.ensures.ok_part in
    rw (c.body_in.ensures, e)
