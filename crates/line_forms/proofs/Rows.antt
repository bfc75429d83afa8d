-- The rows of any table: what a test of all of them says of the row of a letter, and that each is found by its own letter.
use mathlib.Core.Path.{◌≡◌, refl, ap, ◌∙◌}
use mathlib.Core.Bool.{Bool, true, false, not}
use mathlib.Core.List.{List, [], ◌∷◌}
use mathlib.Core.Logic.{inr, ⊎_elim}
use Prim.Native.Nat.{ℕ, zero, suc, ◌+◌, ◌≤◌}
use native.Mathlib.Omega.{arith}
use borrow.Author.Tests.{leb-true, eqb-true, eq-eqb, not-true}
use lib.Dec.{leb, eqb}
use Rattle.bits.specs.Choice.{both, pick}
use Rattle.std.specs.Prelude.{Option, None, Some}
use Rattle.line_forms.specs.declared.Row.{Row}
use Rattle.line_forms.specs.Table.{Form, find, wide, all_rows, unnamed, apart, fits}
use Rattle.line_forms.specs.Read.{columns, columns_of, Bounded}
use Rattle.line_forms.specs.Exactly.{In, here, there}
use Rattle.line_forms.proofs.Digits.{never}

-- ---- by a test: what holds on either side of it

pub picked {ℓ} : {A : Type ℓ} (P : A → Type 0) (b : Bool) (x y : A) → (b ≡ true → P x) → (b ≡ false → P y) → P (pick b x y)
picked P true x y f g = f refl
picked P false x y f g = g refl

pub picked_is {ℓ} : {A : Type ℓ} (P : A → Type 0) (m n : ℕ) (x y : A) → (m ≡ n → P x) → P y → P (pick (eqb m n) x y)
picked_is P m n x y f g = picked P (eqb m n) x y (λ t. f (eqb-true m n t)) (λ t. g)

both_left : (a b : Bool) → both a b ≡ true → a ≡ true
both_left true b e = refl
both_left false b e = e

both_right : (a b : Bool) → both a b ≡ true → b ≡ true
both_right true b e = e
both_right false b e = absurd (never cc)

module _ {A : Type 0} where
  not_some : (r : Form A) → None ≡ Some r → ⊥
  not_some r e = never cc

  -- ---- the row of a letter

  -- is one of the table
  pub is_in : (t : List (Form A)) (f : ℕ) (r : Form A) → find f t ≡ Some r → In r t
  is_in [] f r = λ e. absurd (not_some r e)
  is_in (q ∷ t) f r =
      picked (λ (x : Option (Form A)). x ≡ Some r → In r (q ∷ t)) (eqb f q.name) (Some q) (find f t)
      (λ _ e. let s : q ≡ r = cc in rw s here)
      (λ _ e. there (is_in t f r e))

  -- has that letter
  pub named : (t : List (Form A)) (f : ℕ) (r : Form A) → find f t ≡ Some r → f ≡ r.name
  named [] f r = λ e. absurd (not_some r e)
  named (q ∷ t) f r =
      picked (λ (x : Option (Form A)). x ≡ Some r → f ≡ r.name) (eqb f q.name) (Some q) (find f t)
      (λ h e. let s : q ≡ r = cc in eqb-true f q.name h ∙ ap (λ (x : Form A). x.name) s)
      (λ _ e. named t f r e)

  -- ---- what is tested of all rows holds of each

  pub each : (p : Form A → Bool) (r : Form A) (t : List (Form A)) → all_rows p t ≡ true → In r t → p r ≡ true
  each p r [] a x = elim x [ ]
  each p r (_ ∷ t) a here = both_left (p r) (all_rows p t) a
  each p r (q ∷ t) a (there i) = each p r t (both_right (p q) (all_rows p t) a) i

  -- where no letter stands twice, each row is found by its letter
  pub found : (r : Form A) (t : List (Form A)) → apart t ≡ true → In r t → find r.name t ≡ Some r
  found r [] a x = elim x [ ]
  found r (_ ∷ t) a here = rw (eq-eqb r.name r.name refl)
  found r (q ∷ t) a (there i) =
      let other = not-true (eqb r.name q.name) (each (λ (s : Form A). not (eqb s.name q.name)) r t (both_left (unnamed q.name t) (apart t) a) i) in
      rw other (found r t (both_right (unnamed q.name t) (apart t) a) i)

  -- ---- the digits of a row, where the code's numbers hold those of each

  row_bounded : (r : Form A) → fits r ≡ true → Bounded (columns r)
  row_bounded r e =
      let d = both_right (leb r.a 16) _ e in
      record { first = leb-true r.a 16 (both_left (leb r.a 16) _ e); second = leb-true r.b 8 (both_left (leb r.b 8) _ d); third = leb-true r.c 8 (both_right (leb r.b 8) _ d); whole = inr refl }

  by_found : (t : List (Form A)) (f : ℕ) (x : Option (Form A)) (r : Row) → all_rows fits t ≡ true → find f t ≡ x → columns_of x ≡ Some r → Bounded r
  unfolding columns_of
  by_found t f None r a e h = absurd (never cc)
  by_found t f (Some q) r a e h = let s : columns q ≡ r = cc in rw (← s) (row_bounded q (each fits q t a (is_in t f q e)))

  pub bounded : (t : List (Form A)) (f : ℕ) (r : Row) → all_rows fits t ≡ true → columns_of (find f t) ≡ Some r → Bounded r
  bounded t f r a = by_found t f (find f t) r a refl

-- ---- widths

pub wide_pos : (k : ℕ) → (k ≡ 0 → ⊥) → wide k ≡ k + 1
wide_pos zero n = absurd (n refl)
wide_pos (suc k) n = omega arith

pub wide_le : (k : ℕ) → wide k ≤ k + 1
wide_le zero = omega arith
wide_le (suc k) = omega arith

-- the length of a line that has the row's length
pub whole : (r : Row) → Bounded r → (n : ℕ) → n ≡ r.total → 1 ≤ n → n ≡ 1 + wide r.a + wide r.b + wide r.c
whole r b n e h = ⊎_elim (λ z. absurd (omega arith)) (λ s. e ∙ s) b.whole
