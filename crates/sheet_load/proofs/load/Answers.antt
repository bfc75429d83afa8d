-- The tables of a good sheet, and zeros of another.
use Rattle.std.proofs.Common.{◌≡◌, ℕ, ◌≤◌, List, length, Bool, true, false, is_ok, sym, ap, ◌∙◌, arith}
use Rattle.sheet.specs.Sheet.{DEFAULT, GUEST, HOST, RESET, contents}
use Rattle.sheet_rules.specs.Check.{SheetAnswer, check_of}
use Rattle.sheet_rules.specs.Tables.{tables_of}
use Rattle.sheet_rules.proofs.Checked.{check_good}
use Rattle.sheet_rules.proofs.Cells.{long_enough, table_is}
use Rattle.sheet_load.proofs.load.Goals as goal

-- the check's answer, and whether it is good, as the code has them
asked : (s : List ℕ) {a : SheetAnswer} {b x : Bool} → a ≡ check_of s → b ≡ is_ok a → b ≡ x → is_ok (check_of s) ≡ x
asked s told is so = ap is_ok (sym told) ∙ sym is ∙ so

room : (s : List ℕ) {a : SheetAnswer} {b : Bool} → a ≡ check_of s → b ≡ is_ok a → b ≡ true → contents s ≤ length s
room s told is so = long_enough s (sym (check_good s) ∙ asked s told is so)

pub table-requires : goal.table-requires
table-requires c = room c.args.s.now c.check-answer.ensures c.is_ok.ensures.value c.if-is_ok.true

pub table-requires-then-is_ok : goal.table-requires-then-is_ok
table-requires-then-is_ok c = room c.args.s.now c.check-answer.ensures c.is_ok.ensures.value c.if-is_ok.true

pub table-requires-then-is_ok-2 : goal.table-requires-then-is_ok-2
table-requires-then-is_ok-2 c = room c.args.s.now c.check-answer.ensures c.is_ok.ensures.value c.if-is_ok.true

pub table-requires-then-is_ok-3 : goal.table-requires-then-is_ok-3
table-requires-then-is_ok-3 c = room c.args.s.now c.check-answer.ensures c.is_ok.ensures.value c.if-is_ok.true

pub returns-then-is_ok : goal.returns-then-is_ok
unfolding tables_of
returns-then-is_ok c =
    let s = c.args.s.now in
    let ok = asked s c.check-answer.ensures c.is_ok.ensures.value c.if-is_ok.true in
    let well = sym (check_good s) ∙ ok in
    (c.check-answer.ensures, rw (ok, c.table.ensures, c.table-then-is_ok.ensures, c.table-then-is_ok-2.ensures, c.table-then-is_ok-3.ensures, table_is s well DEFAULT (omega arith), table_is s well GUEST (omega arith), table_is s well HOST (omega arith), table_is s well RESET (omega arith)))

pub returns-else-is_ok : goal.returns-else-is_ok
unfolding tables_of
returns-else-is_ok c =
    let bad : is_ok (check_of c.args.s.now) ≡ false = asked c.args.s.now c.check-answer.ensures c.is_ok.ensures.value c.if-is_ok.false in
    (c.check-answer.ensures, rw bad)
