-- The entries in order: the first that is not good decides; behind the last, where the bodies end.
use Rattle.std.proofs.Common.{◌≡◌, Ok, Err, Some, refl, sym, ◌∙◌, add-one, arith}
use Rattle.std.proofs.lemmas.Result.{err_from_is_err_and}
use Rattle.sheet.specs.Sheet.{end_before, belongs}
use Rattle.sheet.specs.Reads as R
use Rattle.sheet.proofs.First.{starts, goes_on, stops, ends}
use Rattle.sheet_rules.specs.Check.{entry_of}
use Rattle.sheet_rules.proofs.Entries.{listed_at}
use Rattle.sheet_check.proofs.walk_entries.Goals as goal

pub loop-k-init : goal.loop-k-init
unfolding end_before belongs
loop-k-init c =
    let a = c.args in
    record { before = refl; behind = rw c.requires.0; small = omega arith; first = starts (entry_of a.s.now) a.n }

-- no entry is missing
pub returns-in_err-e : goal.returns-in_err-e
returns-in_err-e c =
    let k = c.loop-k.k in
    let is = listed_at c.args.s.now k (omega (arith, c.requires.0)) c.requires.2 in
    let no = c.in_err-e.ensures.ok_part in
    let e = c.entry_of.ensures in
    cc

pub returns-in_err-judge : goal.returns-in_err-judge
returns-in_err-judge c =
    let s = c.args.s.now in
    let k = c.loop-k.k in
    let is : Some c.in_ok-e.e ≡ Some (R.entry_of s k) = sym c.in_ok-e.ensures.ok_part ∙ c.entry_of.ensures ∙ listed_at s k (omega (arith, c.requires.0)) c.requires.2 in
    let e : c.in_ok-e.e ≡ R.entry_of s k = cc in
    let p = err_from_is_err_and c.from_residual-in_err-judge.result c.from_residual-in_err-judge.ensures.1 in
    let bad : entry_of s k ≡ Err c.in_err-judge.field-0.0 = rw (sym c.loop-k.invariant.before, sym c.loop-k.invariant.behind) (rw e at (sym c.in_err-judge.ensures)) in
    rw (p.1, p.2, stops (entry_of s) c.args.n k _ (omega arith) c.loop-k.invariant.first bad)

pub loop-k-preserved : goal.loop-k-preserved
unfolding end_before belongs
loop-k-preserved c =
    let s = c.args.s.now in
    let k = c.loop-k.k in
    let is : Some c.in_ok-e.e ≡ Some (R.entry_of s k) = sym c.in_ok-e.ensures.ok_part ∙ c.entry_of.ensures ∙ listed_at s k (omega (arith, c.requires.0)) c.requires.2 in
    let e : c.in_ok-e.e ≡ R.entry_of s k = cc in
    let good : entry_of s k ≡ Ok tt = rw (sym c.loop-k.invariant.before, sym c.loop-k.invariant.behind) (rw e at (sym c.in_ok-judge.ensures)) in record {
      before = rw (c.end-end.ensures, e, add-one k);
      behind = rw (c.body_length-place.ensures, e, c.loop-k.invariant.behind, add-one k);
      small = omega (arith, c.body_length-place.ensures, c.loop-k.invariant.small);
      first = goes_on (entry_of s) c.args.n k (omega arith) c.loop-k.invariant.first good;
    }

pub returns : goal.returns
returns c =
    let s = c.args.s.now in
    let e : c.loop-k.k ≡ c.args.n = omega arith in
    rw (ends (entry_of s) c.args.n c.loop-k.k e c.loop-k.invariant.first, c.loop-k.invariant.behind, e)
