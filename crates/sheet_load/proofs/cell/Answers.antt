-- A byte of a part, from the last entry down to the first.
use Rattle.std.proofs.Common.{◌≡◌, ◌-◌, Some, true, false, sym, ◌∙◌, arith}
use Rattle.sheet.specs.Reads.{part_no, entry_of}
use Rattle.sheet_rules.specs.Tables.{has, raw_in}
use Rattle.sheet_rules.proofs.Entries.{listed_at, raw_step}
use Rattle.sheet_load.proofs.cell.Goals as goal

pub returns-then-holds : goal.returns-then-holds
returns-then-holds c =
    let s = c.args.s.now in
    let k = c.loop-k.k - 1 in
    let at : Some c.in-Some.e ≡ Some (entry_of s k) = c.in-Some.ensures ∙ listed_at s k (omega (arith, c.count-k.ensures.0)) c.requires.1 in
    let e : c.in-Some.e ≡ entry_of s k = cc in
    let yes : has s k c.args.i ≡ true = rw e at (sym c.holds.ensures ∙ c.if-holds.true) in
    rw (c.loop-k.invariant, raw_step s (part_no c.args.part) c.args.i c.loop-k.k (omega arith), yes, c.byte_at.ensures, c.place.ensures, e)

pub loop-k-preserved : goal.loop-k-preserved
loop-k-preserved c =
    let s = c.args.s.now in
    let k = c.loop-k.k - 1 in
    let at : Some c.in-Some.e ≡ Some (entry_of s k) = c.in-Some.ensures ∙ listed_at s k (omega (arith, c.count-k.ensures.0)) c.requires.1 in
    let e : c.in-Some.e ≡ entry_of s k = cc in
    let no : has s k c.args.i ≡ false = rw e at (sym c.holds.ensures ∙ c.if-holds.false) in
    c.loop-k.invariant ∙ rw (raw_step s (part_no c.args.part) c.args.i c.loop-k.k (omega arith), no)

pub returns : goal.returns
unfolding raw_in
returns c =
    let none : c.loop-k.k ≡ 0 = omega arith in
    rw (c.loop-k.invariant, none)

-- no entry is missing
pub loop-k-preserved-in_default : goal.loop-k-preserved-in_default
loop-k-preserved-in_default c =
    let s = c.args.s.now in
    let is = listed_at s (c.loop-k.k - 1) (omega (arith, c.count-k.ensures.0)) c.requires.1 in
    let no = c.in_default.is in
    let e = c.entry_of.ensures in
    absurd cc
