-- The bodies in order: the first that is not good decides.
use Rattle.std.proofs.Common.{◌≡◌, ℕ, Ok, Err, sym, arith}
use Rattle.std.proofs.lemmas.Result.{err_from_is_err_and}
use Rattle.sheet.specs.Reads.{body_at}
use Rattle.sheet.proofs.First.{goes_on, stops, ends}
use Rattle.sheet_rules.specs.Check.{SheetAnswer, named}
use Rattle.sheet_check.proofs.walk_bodies.Goals as goal

pub loop-k-preserved : goal.loop-k-preserved
loop-k-preserved c =
    let f : ℕ → SheetAnswer = λ (k : ℕ). named k (body_at c.args.s.now k) in
    let good : f c.loop-k.k ≡ Ok tt = rw (sym c.body_of.ensures) (sym c.in_ok-name.ensures) in
    goes_on f c.args.n c.loop-k.k (omega arith) c.loop-k.invariant good

pub returns-in_err-name : goal.returns-in_err-name
returns-in_err-name c =
    let f : ℕ → SheetAnswer = λ (k : ℕ). named k (body_at c.args.s.now k) in
    let p = err_from_is_err_and c.from_residual.result c.from_residual.ensures.1 in
    let bad : f c.loop-k.k ≡ Err c.in_err-name.field-0.0 = rw (sym c.body_of.ensures) (sym c.in_err-name.ensures) in
    rw (p.1, p.2) (sym (stops f c.args.n c.loop-k.k _ (omega arith) c.loop-k.invariant bad))

pub returns : goal.returns
returns c =
    let f : ℕ → SheetAnswer = λ (k : ℕ). named k (body_at c.args.s.now k) in
    sym (ends f c.args.n c.loop-k.k (omega arith) c.loop-k.invariant)
