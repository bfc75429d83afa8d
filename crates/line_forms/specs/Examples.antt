-- Lines written out letter by letter, each with what it asks: a table is held to them.
use Rattle.std.specs.Prelude.{◌≡◌, List, [], ◌∷◌, map, ℕ}
use Prim.Native.String.{String}
use Rattle.line_forms.specs.Ascii.{ascii}
use Rattle.line_forms.specs.Table.{Form}
use Rattle.line_forms.specs.Read.{read_by}

pub record Line (A : Type 0) : Type 0 where
  pub text : List ℕ
  pub asked : A

infix 20 ◌asks◌
abbrev pub ◌asks◌ : {A : Type 0} → String → A → Line A
s asks q = record { text = ascii s; asked = q }

-- lower case, no space, two spaces, a space at the end, a digit less, a digit more, no digit, a number less, no letter, and nothing at all
abbrev pub no_lines : {A : Type 0} → A → List (Line A)
no_lines nothing =
    ("w 2C 3 00001234" asks nothing)
    ∷ ("W 2c 3 00001234" asks nothing)
    ∷ ("W2C 3 00001234" asks nothing)
    ∷ ("W  2C 3 00001234" asks nothing)
    ∷ ("W 2C 3 00001234 " asks nothing)
    ∷ ("W 2C 3 0001234" asks nothing)
    ∷ ("W 2C 3 000001234" asks nothing)
    ∷ ("W 2C 3 0000123G" asks nothing)
    ∷ ("W 2C 3" asks nothing)
    ∷ ("2C 3 00001234" asks nothing)
    ∷ ("" asks nothing)
    ∷ []

-- each is read as what it asks
abbrev pub AsRead : {A : Type 0} → A → List (Form A) → List (Line A) → Type 0
AsRead nothing t ls = map (λ s. read_by nothing t s.text) ls ≡ map (λ s. s.asked) ls
