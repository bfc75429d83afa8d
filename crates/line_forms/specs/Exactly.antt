-- What holds of every table: a line is read exactly when it is of the form of a row, as what that row asks.
use Rattle.std.specs.Prelude.{◌≡◌, List, [], ◌∷◌, ◌↔◌, ◌⊎◌, ℕ, take}
use Rattle.line_forms.specs.Table.{Form, form_of, InRange}
use Rattle.line_forms.specs.Read.{read_by}

-- r is a row of the table
pub data In {A : Type 0} (r : Form A) : List (Form A) → Type 0 where
  here : {t : List (Form A)} → In r (r ∷ t)
  there : {q : Form A} {t : List (Form A)} → In r t → In r (q ∷ t)

-- the line l is of the form of a row of the table t, which asks q of its numbers
pub record Spelt {A : Type 0} (t : List (Form A)) (l : List ℕ) (q : A) : Type 0 where
  pub row : Form A
  pub x : ℕ
  pub y : ℕ
  pub z : ℕ
  pub found : In row t
  pub range : InRange row x y z
  pub form : l ≡ form_of row x y z
  pub asks : q ≡ row.asks x y z

-- what each row asks, of any numbers, is as P says
abbrev pub Every : {A : Type 0} → (A → Type 0) → List (Form A) → Type 0
Every P [] = Unit
Every P (r ∷ t) = ((x y z : ℕ) → P (r.asks x y z)) × Every P t

module _ {A : Type 0} (nothing : A) (t : List (Form A)) where
  -- the form of a row is read as what the row asks
  abbrev pub Formed : Type 0
  Formed = (r : Form A) (x y z : ℕ) → In r t → InRange r x y z → read_by nothing t (form_of r x y z) ≡ r.asks x y z

  -- a line asks nothing, or is of the form of a row
  abbrev pub OnlyForms : Type 0
  OnlyForms = (l : List ℕ) → (read_by nothing t l ≡ nothing) ⊎ Spelt t l (read_by nothing t l)

  -- a line asks q exactly when it is of the form of a row that asks q
  abbrev pub Exactly : Type 0
  Exactly = (l : List ℕ) (q : A) → (q ≡ nothing → ⊥) → (read_by nothing t l ≡ q) ↔ Spelt t l q

  -- and asks nothing exactly when it is of no row's form
  abbrev pub NoneExactly : Type 0
  NoneExactly = (l : List ℕ) → (read_by nothing t l ≡ nothing) ↔ ((q : A) → Spelt t l q → ⊥)

  -- the first n bytes of a line say all
  abbrev pub Alike : ℕ → Type 0
  Alike n = (l k : List ℕ) → take n l ≡ take n k → read_by nothing t l ≡ read_by nothing t k

  -- what a line asks is as P says
  abbrev pub AsksOnly : (A → Type 0) → Type 0
  AsksOnly P = (l : List ℕ) → P (read_by nothing t l)
