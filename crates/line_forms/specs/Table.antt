-- A table of line forms, for any type A of what a line asks: a row is a letter, the digits of the up to three numbers behind it, and what the line asks.
use Rattle.std.specs.Prelude.{Option, None, Some, Bool, true, not, List, [], ◌∷◌, ◌++◌, ℕ, zero, suc, ◌+◌, ◌^◌, ◌<◌}
use Prim.Native.String.{String}
use Rattle.bits.specs.Choice.{when◌then◌else◌, ◌is◌, ◌≤?◌, ◌and◌}
use Rattle.line_forms.specs.Ascii.{letter}
use Rattle.line_forms.specs.Hex.{hex_of}

-- 0 digits: there is no such number, and it is taken as 0
pub record Form (A : Type 0) : Type 0 where
  pub name : ℕ
  pub a : ℕ
  pub b : ℕ
  pub c : ℕ
  pub asks : ℕ → ℕ → ℕ → A

-- as a table has it: `form "W" 2 1 8 (λ o l v. ..)` is `W oo l vvvvvvvv`
abbrev pub form : {A : Type 0} → String → ℕ → ℕ → ℕ → (ℕ → ℕ → ℕ → A) → Form A
form s a b c f = record { name = letter s; a = a; b = b; c = c; asks = f }

-- the row of a letter
abbrev pub find : {A : Type 0} → ℕ → List (Form A) → Option (Form A)
find f [] = None
find f (r ∷ t) = when f is r.name then Some r else find f t

-- ---- a line as it is printed

-- a space and k digits
abbrev pub field_form : ℕ → ℕ → List ℕ
field_form zero x = []
field_form (suc k) x = letter " " ∷ hex_of (suc k) x

unfoldable pub form_of : {A : Type 0} → Form A → ℕ → ℕ → ℕ → List ℕ
form_of r x y z = r.name ∷ (field_form r.a x ++ (field_form r.b y ++ field_form r.c z))

-- the numbers that the digits can say
abbrev pub InRange : {A : Type 0} → Form A → ℕ → ℕ → ℕ → Type 0
InRange r x y z = (x < 16 ^ r.a) × (y < 16 ^ r.b) × (z < 16 ^ r.c)

-- the bytes of a number of k digits, with its space, and of a row's line
abbrev pub wide : ℕ → ℕ
wide zero = 0
wide (suc k) = suc (suc k)

abbrev pub length_of : {A : Type 0} → Form A → ℕ
length_of r = 1 + wide r.a + wide r.b + wide r.c

-- ---- what can be tested of a table

abbrev pub all_rows : {A : Type 0} → (Form A → Bool) → List (Form A) → Bool
all_rows p [] = true
all_rows p (r ∷ t) = p r and all_rows p t

abbrev pub unnamed : {A : Type 0} → ℕ → List (Form A) → Bool
unnamed f t = all_rows (λ r. not (r.name is f)) t

-- no letter stands twice
abbrev pub apart : {A : Type 0} → List (Form A) → Bool
apart [] = true
apart (r ∷ t) = unnamed r.name t and apart t

-- a row's line has at most n bytes
abbrev pub within : {A : Type 0} → ℕ → Form A → Bool
within n r = length_of r ≤? n

-- the code's numbers hold a row's digits
abbrev pub fits : {A : Type 0} → Form A → Bool
fits r = r.a ≤? 16 and r.b ≤? 8 and r.c ≤? 8
