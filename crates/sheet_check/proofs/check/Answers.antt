-- The check of a sheet, in the order in which it is refused.
use Rattle.std.proofs.Common.{◌≡◌, ℕ, List, Bool, eqb, true≢false, ◌<◌, ◌≤◌, length, true, false, Ok, Err, refl, sym, ◌∙◌, arith}
use Rattle.std.proofs.lemmas.Result.{err_from_is_err_and}
use borrow.Author.Tests.{eq-eqb, lt-ltb, lt-leb, le-leb}
use Rattle.bits.specs.Choice.{all_below}
use Rattle.bits.proofs.Below.{both_off}
use Rattle.sheet.specs.Sheet.{entries, contents, belongs, good_count, good_entry}
use Rattle.sheet_rules.specs.declared.SheetFault.{SheetFault}
use Rattle.sheet_rules.specs.Check.{SheetAnswer, ◌and_then◌, entry_of, body_answer, first_of, check_of}
use Rattle.sheet_rules.proofs.Checked.{entries_good, bodies_are, rest_of, ends_total, ends_bodies, ends_entries}
use Rattle.sheet_check.proofs.check.Goals as goal
use Rattle.sheet_check.proofs.check.Goals.{then-n-lt1-via-then-n-lt1, then-n-lt1-via-else-n-lt1+then-n-gt64}

-- ---- the contents' own length

pub returns-then-is_empty : goal.returns-then-is_empty
unfolding check_of
returns-then-is_empty c = rw (sym c.is_empty.ensures ∙ c.if-is_empty.true)

filled : (s : List ℕ) {b : Bool} → b ≡ eqb (length s) 0 → b ≡ false → length s ≡ 0 → ⊥
filled s b e z = absurd (true≢false (sym (eq-eqb (length s) 0 z) ∙ sym b ∙ e))

below_1 : (n : ℕ) → n < 1 → good_count n ≡ false
below_1 n h = rw (lt-leb 1 n h)

above_64 : (n : ℕ) → 64 < n → good_count n ≡ false
above_64 n h = rw (lt-leb n 64 h) (both_off _)

in_range : (n : ℕ) → 1 ≤ n → n ≤ 64 → good_count n ≡ true
in_range n l h = rw (le-leb 1 n l, le-leb n 64 h)

pub returns-then-n-lt1 : goal.returns-then-n-lt1
unfolding check_of
returns-then-n-lt1 c =
    let s = c.args.s.now in
    let n = c.count-n.ensures.0 in
    let out : good_count (entries s) ≡ false = elim c.then-n-lt1.branch [ then-n-lt1-via-then-n-lt1 w ↦ below_1 (entries s) (omega (arith, n)) | then-n-lt1-via-else-n-lt1+then-n-gt64 w ↦ above_64 (entries s) (omega (arith, n)) ] in
    rw (sym c.is_empty.ensures ∙ c.if-is_empty.false, out)

pub returns-then-s-n : goal.returns-then-s-n
unfolding check_of
returns-then-s-n c =
    let s = c.args.s.now in
    let n = c.count-n.ensures.0 in
    rw (sym c.is_empty.ensures ∙ c.if-is_empty.false, in_range (entries s) (omega (arith, n)) (omega (arith, n)), lt-ltb (length s) (contents s) (omega (arith, n)))

-- ---- behind it: the entries' answer, as the walk has it

fault_of : (a : SheetAnswer) (x : ℕ) (d : SheetFault) → Err d ≡ (a and_then Ok x) → a ≡ Err d
fault_of (Ok _) x d e = cc
fault_of (Err f) x d e = cc

place_of : (a : SheetAnswer) (x y : ℕ) → Ok y ≡ (a and_then Ok x) → (a ≡ Ok tt) × (y ≡ x)
place_of (Ok _) x y e = (refl, cc)
place_of (Err f) x y e = cc

pub returns-in_err-end : goal.returns-in_err-end
returns-in_err-end c =
    let s = c.args.s.now in
    let n = c.count-n.ensures.0 in
    let rest = rest_of s (filled s c.is_empty.ensures c.if-is_empty.false) (in_range (entries s) (omega (arith, n)) (omega (arith, n))) (omega (arith, n)) in
    let p = err_from_is_err_and c.from_residual.result c.from_residual.ensures.1 in
    let bad = fault_of (first_of (entry_of s) (entries s)) (belongs s (entries s)) _ (rw n at c.in_err-end.ensures) in
    rw (p.1, p.2) (sym (rest ∙ ends_entries s (first_of (entry_of s) (entries s)) (first_of (body_answer s) (entries s)) _ bad))

pub returns-then-s-end : goal.returns-then-s-end
returns-then-s-end c =
    let s = c.args.s.now in
    let n = c.count-n.ensures.0 in
    let rest = rest_of s (filled s c.is_empty.ensures c.if-is_empty.false) (in_range (entries s) (omega (arith, n)) (omega (arith, n))) (omega (arith, n)) in
    let fine = place_of (first_of (entry_of s) (entries s)) (belongs s (entries s)) _ (rw n at c.in_ok-end.ensures) in
    sym (rest ∙ ends_total s (first_of (entry_of s) (entries s)) (first_of (body_answer s) (entries s)) fine.0 (λ e. omega (arith, fine.1)))

pub returns : goal.returns
returns c =
    let s = c.args.s.now in
    let n = c.count-n.ensures.0 in
    let rest = rest_of s (filled s c.is_empty.ensures c.if-is_empty.false) (in_range (entries s) (omega (arith, n)) (omega (arith, n))) (omega (arith, n)) in
    let fine = place_of (first_of (entry_of s) (entries s)) (belongs s (entries s)) _ (rw n at c.in_ok-end.ensures) in
    let total : length s ≡ belongs s (entries s) = omega (arith, fine.1) in
    let all : all_below (entries s) (good_entry s) ≡ true = sym (entries_good s) ∙ rw fine.0 in
    c.walk_bodies.ensures ∙ rw n (bodies_are s (omega (arith, n)) all total) ∙ sym (rest ∙ ends_bodies s (first_of (entry_of s) (entries s)) (first_of (body_answer s) (entries s)) fine.0 total)
