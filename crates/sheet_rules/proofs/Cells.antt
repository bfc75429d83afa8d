-- The tables of a well-formed sheet: each byte is where the code finds it, the reset masks lie inside the guest masks, and a byte that no entry has is 0.
use mathlib.Core.Path.{◌≡◌, refl, sym, subst, ◌∙◌}
use mathlib.Core.List.{List}
use mathlib.Core.Bool.{Bool, true, false, not}
use Prim.Native.Nat.{ℕ, zero, suc, ◌+◌, ◌-◌, ◌*◌, ◌/◌, ◌^◌, ◌<◌, ◌≤◌}
use native.Mathlib.Omega.{arith}
use lib.Dec.{T, eqb, leb, leb→le, ltb→lt, eqb→eq}
use native.Mathlib.Decide.{dec_lt}
use lib.ListN.{length, get_or, take, drop, length-drop, length-take, get_or-eq_default}
use lib.Seq.{length-take-le, get_or-take, get_or-drop}
use Rattle.bits.specs.Choice.{pick, both, all_below}
use Rattle.bits.specs.Places.{bytes}
use Rattle.bits.proofs.Below.{both_left, both_right, below, is_true, is_false, pick_has}
use Rattle.bits.proofs.Places.{bytes_ext}
use Rattle.sheet.specs.Sheet.{at, entries, contents, offset_of, length_of, start_of, belongs, body_of, part_of, GUEST, HOST, RESET, shares, strays, good_count, good_entry, good_body, good_sheet}
use Rattle.sheet.proofs.Parts.{in_body}
use Rattle.sheet_rules.specs.Tables.{has, cell_in, table_of, raw_in}
use Rattle.sheet_rules.proofs.Checked.{contents_first, lies}

pub has_facts : (s : List ℕ) (k i : ℕ) → has s k i ≡ true → (offset_of s k ≤ i) × (i < offset_of s k + length_of s k)
has_facts s k i e =
    let t = subst T (sym e) tt in
    (leb→le _ _ (both_left (leb (offset_of s k) i) _ t), ltb→lt _ _ (both_right (leb (offset_of s k) i) _ t))

module _ (s : List ℕ) (g : good_sheet s ≡ true) where
  -- what is asked of the entries, the total length and the bodies
  unfolds : T (both (good_count (entries s)) (both (all_below (entries s) (good_entry s)) (both (eqb (length s) (belongs s (entries s))) (all_below (entries s) (λ (k : ℕ). good_body (body_of s k))))))
  unfolding good_sheet
  unfolds = subst T (sym g) tt

  asked : T (both (all_below (entries s) (good_entry s)) (both (eqb (length s) (belongs s (entries s))) (all_below (entries s) (λ (k : ℕ). good_body (body_of s k)))))
  asked = both_right (good_count (entries s)) _ unfolds

  all_entries : all_below (entries s) (good_entry s) ≡ true
  all_entries = is_true _ (both_left (all_below (entries s) (good_entry s)) _ asked)

  total : length s ≡ belongs s (entries s)
  total = eqb→eq _ _ (both_left (eqb (length s) (belongs s (entries s))) _ (both_right (all_below (entries s) (good_entry s)) _ asked))

  body_good : (k : ℕ) → k < entries s → T (good_body (body_of s k))
  body_good k h = below (entries s) (λ (k : ℕ). good_body (body_of s k)) (both_right (eqb (length s) (belongs s (entries s))) _ (both_right (all_below (entries s) (good_entry s)) _ asked)) k h

  pub long_enough : contents s ≤ length s
  long_enough = omega (arith, contents_first s (entries s), total)

  -- ---- where a byte of a part stands

  body_ends : (k : ℕ) → k < entries s → start_of s k + 4 * length_of s k ≤ length s
  body_ends k h = lies s long_enough all_entries total k h

  body_long : (k : ℕ) → k < entries s → length (body_of s k) ≡ 4 * length_of s k
  body_long k h = length-take-le (4 * length_of s k) (drop (start_of s k) s) (rw (length-drop (start_of s k) s) (omega (arith, body_ends k h)))

  quarter : (k : ℕ) → k < entries s → length (body_of s k) / 4 ≡ length_of s k
  quarter k h = omega (arith, body_long k h)

  part_at : (k p t : ℕ) → k < entries s → p < 4 → t < length_of s k → part_of (body_of s k) p t ≡ at s (start_of s k + p * length_of s k + t)
  part_at k p t h q l =
      let e : start_of s k + (p * length_of s k + t) ≡ start_of s k + p * length_of s k + t = omega arith in
      rw (quarter k h) (get_or-take (4 * length_of s k) (drop (start_of s k) s) (p * length_of s k + t) 0 (in_body p (length_of s k) t q l) ∙ get_or-drop (start_of s k) s (p * length_of s k + t) 0 ∙ rw e)

  raw_is : (p i n : ℕ) → p < 4 → n ≤ entries s → raw_in s p i n ≡ cell_in s p i n
  unfolding raw_in cell_in
  raw_is p i zero q h = refl
  raw_is p i (suc k) q h = go (has s k i) refl (raw_is p i k q (omega arith))
    where
      go : (b : Bool) → has s k i ≡ b → raw_in s p i k ≡ cell_in s p i k → pick b (at s (start_of s k + p * length_of s k + (i - offset_of s k))) (raw_in s p i k) ≡ pick b (part_of (body_of s k) p (i - offset_of s k)) (cell_in s p i k)
      go true e ih = sym (part_at k p (i - offset_of s k) (omega arith) q (omega (arith, (has_facts s k i e).0, (has_facts s k i e).1)))
      go false e ih = ih

  pub table_is : (p : ℕ) → p < 4 → bytes (λ (i : ℕ). raw_in s p i (entries s)) ≡ table_of s p
  table_is p q = bytes_ext (λ (i : ℕ). raw_in s p i (entries s)) (λ (i : ℕ). cell_in s p i (entries s)) (λ i h. raw_is p i (entries s) q (omega arith))

  -- ---- the masks

  -- no reset mask has a bit outside the guest mask
  body_inside : (k t : ℕ) → k < entries s → t < length_of s k → strays (part_of (body_of s k) RESET t) (part_of (body_of s k) GUEST t) ≡ false
  unfolding good_body
  body_inside k t h l =
      let b = below (length (body_of s k) / 4) (λ (t : ℕ). both (not (shares (part_of (body_of s k) GUEST t) (part_of (body_of s k) HOST t))) (not (strays (part_of (body_of s k) RESET t) (part_of (body_of s k) GUEST t)))) (body_good k h) t (rw (quarter k h) l) in
      is_false _ (both_right (not (shares (part_of (body_of s k) GUEST t) (part_of (body_of s k) HOST t))) _ b)

  pub cells_inside : (i n : ℕ) → n ≤ entries s → strays (cell_in s RESET i n) (cell_in s GUEST i n) ≡ false
  unfolding cell_in
  cells_inside i zero h = refl
  cells_inside i (suc k) h = go (has s k i) refl (cells_inside i k (omega arith))
    where
      go : (b : Bool) → has s k i ≡ b → strays (cell_in s RESET i k) (cell_in s GUEST i k) ≡ false → strays (pick b (part_of (body_of s k) RESET (i - offset_of s k)) (cell_in s RESET i k)) (pick b (part_of (body_of s k) GUEST (i - offset_of s k)) (cell_in s GUEST i k)) ≡ false
      go true e ih = body_inside k (i - offset_of s k) (omega arith) (omega (arith, (has_facts s k i e).0, (has_facts s k i e).1))
      go false e ih = ih

-- a byte that none of n entries has
pub unlisted_cell : (s : List ℕ) (p i n : ℕ) → ((k : ℕ) → k < n → has s k i ≡ false) → cell_in s p i n ≡ 0
unfolding cell_in
unlisted_cell s p i zero e = refl
unlisted_cell s p i (suc k) e = rw (e k (omega arith)) (unlisted_cell s p i k (λ j h. e j (omega arith)))

-- ---- bytes stay bytes

part_fits : (s : List ℕ) (n a j : ℕ) → ((i : ℕ) → get_or s i 0 < 2 ^ 8) → get_or (take n (drop a s)) j 0 < 2 ^ 8
part_fits s n a j b =
    elim (dec_lt j n) [
      | yes h ↦ rw (get_or-take n (drop a s) j 0 h, get_or-drop a s j 0) (b (a + j))
      | no h ↦ rw (get_or-eq_default (take n (drop a s)) 0 {n = j} (rw (length-take n (drop a s)) (omega arith))) (omega arith)
    ]

pub cell_fits : (s : List ℕ) (p i n : ℕ) → ((i : ℕ) → get_or s i 0 < 2 ^ 8) → cell_in s p i n < 2 ^ 8
unfolding cell_in
cell_fits s p i zero b = omega arith
cell_fits s p i (suc k) b = pick_has (λ (x : ℕ). x < 2 ^ 8) (has s k i) _ (cell_in s p i k) (part_fits s (4 * length_of s k) (start_of s k) _ b) (cell_fits s p i k b)
