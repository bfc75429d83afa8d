-- The check accepts exactly the well-formed sheets; and in a sheet whose entries and total length are good, the body that an entry names is the part that the format says.
use mathlib.Core.Path.{◌≡◌, refl, sym, subst, ◌∙◌}
use mathlib.Core.List.{List, [], ◌∷◌}
use mathlib.Core.Bool.{Bool, true, false, not}
use Prim.Native.Nat.{ℕ, zero, suc, ◌+◌, ◌-◌, ◌*◌, ◌/◌, ◌<◌, ◌≤◌}
use native.Mathlib.Omega.{arith}
use native.Mathlib.Nat.{zero-add}
use lib.Dec.{T, eqb, leb, ltb, leb→le, eqb→eq}
use lib.ListN.{length}
use Rattle.std.specs.Prelude.{Ok, Err, is_ok}
use borrow.Author.Tests.{eq-eqb, ne_eqb, eqb-true, le-ltb, le-leb, lt-leb, ltb-true, ltb-false}
use Rattle.bits.specs.Choice.{pick, both, ◌is◌, all_below}
use Rattle.bits.proofs.Below.{both_left, both_right, both_off, below, is_true, all_ext, first_all, first_ext}
use Rattle.sheet.specs.declared.BodyFault.TheVariants as B
use Rattle.sheet.specs.Sheet.{entries, contents, offset_of, length_of, start_of, end_before, belongs, body_of, part_of, GUEST, HOST, RESET, shares, strays, good_count, good_length, good_entry, good_body, good_sheet}
use Rattle.sheet.specs.Reads.{Body, byte_is, masks_at, body_is, body_at}
use Rattle.sheet_rules.specs.declared.SheetFault.{SheetFault}
use Rattle.sheet_rules.specs.declared.SheetFault.TheVariants.{Empty, Count, Cut, Length, Order, Past, Start, Total, Shared, Outside}
use Rattle.sheet_rules.specs.Check.{SheetAnswer, sheet_no, ◌and_then◌, placed, entry_of, named, body_answer, first_of, total_of, check_of}
use Rattle.sheet_rules.proofs.Entries.{listed_at}

-- ---- an entry

at_most : (a b : ℕ) → not (ltb a b) ≡ leb b a
at_most a b = go (ltb a b) refl
  where
    go : (x : Bool) → ltb a b ≡ x → not x ≡ leb b a
    go true e = sym (lt-leb b a (ltb-true a b e))
    go false e = sym (le-leb b a (ltb-false a b e))

entry_good : (s : List ℕ) (k : ℕ) → is_ok (entry_of s k) ≡ good_entry s k
unfolding placed good_entry
entry_good s k = rw (sym (at_most (offset_of s k) (end_before s k)), sym (at_most 256 (offset_of s k + length_of s k))) (go (good_length (length_of s k)) (ltb (offset_of s k) (end_before s k)) (ltb 256 (offset_of s k + length_of s k)) (eqb (start_of s k) (belongs s k)))
  where
    go : (a b c d : Bool) → is_ok (pick (not a) (Err (Length k)) (pick b (Err (Order k)) (pick c (Err (Past k)) (pick (not d) (Err (Start k)) (Ok (tt {0})))))) ≡ both a (both (not b) (both (not c) d))
    go true true c d = refl
    go true false true d = refl
    go true false false true = refl
    go true false false false = refl
    go false b c d = refl

pub entries_good : (s : List ℕ) → is_ok (first_of (entry_of s) (entries s)) ≡ all_below (entries s) (good_entry s)
entries_good s = first_all is_ok (Ok tt) (entry_of s) refl (entries s) ∙ all_ext (entries s) (λ (k : ℕ). is_ok (entry_of s k)) (good_entry s) (λ k h. entry_good s k)

-- ---- a body

byte_good : (g h r : ℕ) → is_ok (byte_is g h r) ≡ both (not (shares g h)) (not (strays r g))
unfolding byte_is
byte_good g h r = go (shares g h) (strays r g)
  where
    go : (a b : Bool) → is_ok (pick a (Err B.Shared) (pick b (Err B.Outside) (Ok (tt {0})))) ≡ both (not a) (not b)
    go true b = refl
    go false true = refl
    go false false = refl

named_good : (k : ℕ) (b : Body) → is_ok (named k b) ≡ is_ok b
named_good k (Ok _) = refl
named_good k (Err B.Shared) = refl
named_good k (Err B.Outside) = refl
named_good k (Err B.Missing) = refl

body_good : (b : List ℕ) → is_ok (body_is b) ≡ good_body b
unfolding body_is good_body
body_good b =
    first_all is_ok (Ok tt) (masks_at b) refl (length b / 4)
    ∙ all_ext (length b / 4) (λ (t : ℕ). is_ok (masks_at b t)) (λ (t : ℕ). both (not (shares (part_of b GUEST t) (part_of b HOST t))) (not (strays (part_of b RESET t) (part_of b GUEST t)))) (λ t h. byte_good (part_of b GUEST t) (part_of b HOST t) (part_of b RESET t))

bodies_good : (s : List ℕ) → is_ok (first_of (body_answer s) (entries s)) ≡ all_below (entries s) (λ (k : ℕ). good_body (body_of s k))
bodies_good s = first_all is_ok (Ok tt) (body_answer s) refl (entries s) ∙ all_ext (entries s) (λ (k : ℕ). is_ok (body_answer s k)) (λ (k : ℕ). good_body (body_of s k)) (λ k h. named_good k (body_is (body_of s k)) ∙ body_good (body_of s k))

-- ---- where bodies lie

belongs_next : (s : List ℕ) (k : ℕ) → belongs s (suc k) ≡ belongs s k + 4 * length_of s k
unfolding belongs
belongs_next s k = refl

belongs_more : (s : List ℕ) (d k : ℕ) → belongs s k ≤ belongs s (k + d)
belongs_more s zero k =
    let e : k + 0 ≡ k = omega arith in
    rw e (omega arith)
belongs_more s (suc d) k =
    let e : k + suc d ≡ suc (k + d) = omega arith in
    rw e (omega (arith, belongs_more s d k, belongs_next s (k + d)))

first_body : (s : List ℕ) → belongs s 0 ≡ contents s
unfolding belongs
first_body s = refl

-- the contents come before every body
pub contents_first : (s : List ℕ) (n : ℕ) → contents s ≤ belongs s n
contents_first s n =
    let more = belongs_more s n 0 in
    omega (arith, rw zero-add at more, first_body s)

-- a body that starts where it belongs ends within the bodies
pub within : (s : List ℕ) (n k : ℕ) → k < n → start_of s k ≡ belongs s k → start_of s k + 4 * length_of s k ≤ belongs s n
within s n k h e =
    let d : n ≡ suc k + (n - suc k) = omega arith in
    let more = belongs_more s (n - suc k) (suc k) in
    omega (arith, rw (← d) at more, belongs_next s k, e)

-- what a good entry is
pub entry_facts : (s : List ℕ) (k : ℕ) → good_entry s k ≡ true → (end_before s k ≤ offset_of s k) × (offset_of s k + length_of s k ≤ 256) × (start_of s k ≡ belongs s k)
unfolding good_entry
entry_facts s k e =
    let a = both_right (good_length (length_of s k)) _ (subst T (sym e) tt) in
    let b = both_right (leb (end_before s k) (offset_of s k)) _ a in
    (leb→le _ _ (both_left (leb (end_before s k) (offset_of s k)) _ a), leb→le _ _ (both_left (leb (offset_of s k + length_of s k) 256) _ b), eqb→eq _ _ (both_right (leb (offset_of s k + length_of s k) 256) _ b))

-- ---- the bodies that the code finds

module _ (s : List ℕ) (c : contents s ≤ length s) (all : all_below (entries s) (good_entry s) ≡ true) (total : length s ≡ belongs s (entries s)) where
  pub lies : (k : ℕ) → k < entries s → start_of s k + 4 * length_of s k ≤ length s
  lies k h = omega (arith, within s (entries s) k h (entry_facts s k (is_true _ (below (entries s) (good_entry s) (subst T (sym all) tt) k h))).2, total)

  body_at_lem : (k : ℕ) → k < entries s → body_at s k ≡ body_is (body_of s k)
  unfolding body_at
  body_at_lem k h = rw (listed_at s k h c, le-leb (start_of s k + 4 * length_of s k) (length s) (lies k h))

  pub bodies_are : first_of (λ (k : ℕ). named k (body_at s k)) (entries s) ≡ first_of (body_answer s) (entries s)
  bodies_are = first_ext is_ok (Ok tt) (λ (k : ℕ). named k (body_at s k)) (body_answer s) (entries s) 0 (λ i h. rw (zero-add, body_at_lem i h))

-- ---- the sheet

-- behind the tests of the contents' own length
pub rest_of : (s : List ℕ) → (length s ≡ 0 → ⊥) → good_count (entries s) ≡ true → contents s ≤ length s → check_of s ≡ (first_of (entry_of s) (entries s) and_then total_of s and_then first_of (body_answer s) (entries s))
unfolding check_of
rest_of s ne g c = rw (ne_eqb (length s) 0 ne, g, le-ltb (length s) (contents s) c)

-- where it ends, by the answer a of the entries
module _ (s : List ℕ) (a c : SheetAnswer) where
  pub ends_total : a ≡ Ok tt → (length s ≡ belongs s (entries s) → ⊥) → (a and_then total_of s and_then c) ≡ Err Total
  unfolding total_of
  ends_total e n = rw (e, ne_eqb (length s) (belongs s (entries s)) n)

  pub ends_bodies : a ≡ Ok tt → length s ≡ belongs s (entries s) → (a and_then total_of s and_then c) ≡ c
  unfolding total_of
  ends_bodies e t = rw (e, eq-eqb (length s) (belongs s (entries s)) t)

  pub ends_entries : (fault : SheetFault) → a ≡ Err fault → (a and_then total_of s and_then c) ≡ Err fault
  ends_entries fault e = rw e

then_good : (a b : SheetAnswer) → is_ok (a and_then b) ≡ both (is_ok a) (is_ok b)
then_good (Ok _) b = refl
then_good (Err fault) b = refl

-- an answer accepts exactly where its number is 0
pub numbered : (a : SheetAnswer) → is_ok a ≡ (sheet_no a is 0)
numbered (Ok _) = refl
numbered (Err Empty) = refl
numbered (Err Count) = refl
numbered (Err Cut) = refl
numbered (Err (Length k)) = refl
numbered (Err (Order k)) = refl
numbered (Err (Past k)) = refl
numbered (Err (Start k)) = refl
numbered (Err Total) = refl
numbered (Err (Shared k)) = refl
numbered (Err (Outside k)) = refl

total_good : (s : List ℕ) → is_ok (total_of s) ≡ eqb (length s) (belongs s (entries s))
unfolding total_of
total_good s = go (eqb (length s) (belongs s (entries s)))
  where
    go : (x : Bool) → is_ok (pick x (Ok (tt {0})) (Err Total)) ≡ x
    go true = refl
    go false = refl

-- what is asked besides the count
abbrev behind_count : List ℕ → Bool
behind_count s = both (all_below (entries s) (good_entry s)) (both (eqb (length s) (belongs s (entries s))) (all_below (entries s) (λ (k : ℕ). good_body (body_of s k))))

none : (s : List ℕ) → length s ≡ 0 → is_ok (check_of s) ≡ both (good_count (entries s)) (behind_count s)
unfolding check_of
none [] e = refl
none (x ∷ s) e = absurd (omega arith)

counted : (s : List ℕ) → eqb (length s) 0 ≡ false → good_count (entries s) ≡ false → is_ok (check_of s) ≡ false
unfolding check_of
counted s p q = rw (p, q)

cut : (s : List ℕ) → eqb (length s) 0 ≡ false → good_count (entries s) ≡ true → ltb (length s) (contents s) ≡ true → is_ok (check_of s) ≡ false
unfolding check_of
cut s p q r = rw (p, q, r)

-- the check accepts exactly the well-formed sheets
pub check_good : (s : List ℕ) → is_ok (check_of s) ≡ good_sheet s
unfolding good_sheet
check_good s = go (eqb (length s) 0) (good_count (entries s)) (ltb (length s) (contents s)) refl refl refl
  where
    go : (a b c : Bool) → eqb (length s) 0 ≡ a → good_count (entries s) ≡ b → ltb (length s) (contents s) ≡ c → is_ok (check_of s) ≡ both (good_count (entries s)) (behind_count s)
    go true b c p q r = none s (eqb-true (length s) 0 p)
    go false false c p q r = counted s p q ∙ rw q
    go false true true p q r =
        let off : eqb (length s) (belongs s (entries s)) ≡ false = ne_eqb (length s) (belongs s (entries s)) (λ e. omega (arith, contents_first s (entries s), ltb-true (length s) (contents s) r)) in
        cut s p q r ∙ rw (q, off, both_off (all_below (entries s) (good_entry s)))
    go false true false p q r =
        rw (rest_of s (λ e. absurd (subst T (sym (eq-eqb (length s) 0 e) ∙ p) tt)) q (ltb-false (length s) (contents s) r), q)
        (then_good (first_of (entry_of s) (entries s)) (total_of s and_then first_of (body_answer s) (entries s)) ∙ rw (then_good (total_of s) (first_of (body_answer s) (entries s)), entries_good s, total_good s, bodies_good s))
