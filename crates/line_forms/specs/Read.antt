-- A line read at its places, by the row of its letter; Exactly.antt says of what form the lines are that are read.
use Rattle.std.specs.Prelude.{List, Option, None, Some, ◌≡◌, ◌⊎◌, ℕ, zero, suc, ◌+◌, ◌-◌, ◌*◌, ◌≤◌, get_or, length}
use Rattle.bits.specs.Choice.{when◌then◌else◌, ◌is◌, ◌<?◌}
use Rattle.line_forms.specs.declared.Row.{Row}
use Rattle.line_forms.specs.Ascii.{letter}
use Rattle.line_forms.specs.Table.{Form, find, InRange, wide}

-- ---- a number

-- the digit that a byte is in upper-case hex, or 16
unfoldable pub digit_of : ℕ → ℕ
digit_of b = when b <? 48 then 16 else when b <? 58 then b - 48 else when b <? 65 then 16 else when b <? 71 then b - 55 else 16

abbrev pub at : List ℕ → ℕ → ℕ
at l i = get_or l i 0

-- k digits from place i on, behind the number v
unfoldable pub hex_from : ℕ → List ℕ → ℕ → ℕ → Option ℕ
hex_from zero l i v = Some v
hex_from (suc k) l i v = when 15 <? digit_of (at l i) then None else hex_from k l (i + 1) (v * 16 + digit_of (at l i))

-- a space at place i, and k digits behind it
unfoldable pub field_of : List ℕ → ℕ → ℕ → Option ℕ
field_of l i zero = Some 0
field_of l i (suc k) = when at l i is letter " " then hex_from (suc k) l (i + 1) 0 else None

-- ---- the three numbers of a line

abbrev pub third : ℕ → ℕ → Option ℕ → Option (ℕ × ℕ × ℕ)
third x y None = None
third x y (Some z) = Some (x, y, z)

abbrev pub second : ℕ → Option ℕ → Option ℕ → Option (ℕ × ℕ × ℕ)
second x None h = None
second x (Some y) h = third x y h

abbrev pub joined : Option ℕ → Option ℕ → Option ℕ → Option (ℕ × ℕ × ℕ)
joined None g h = None
joined (Some x) g h = second x g h

unfoldable pub numbers_of : List ℕ → Row → Option (ℕ × ℕ × ℕ)
numbers_of l r =
    when length l is r.total then joined (field_of l 1 r.a) (field_of l (1 + wide r.a) r.b) (field_of l (1 + wide r.a + wide r.b) r.c)
    else None

-- ---- by a row

-- the code's row: the length of the line beside the digits
abbrev pub row_of : ℕ → ℕ → ℕ → Row
row_of a b c = record { total = 1 + wide a + wide b + wide c; a = a; b = b; c = c }

abbrev pub columns : {A : Type 0} → Form A → Row
columns r = row_of r.a r.b r.c

unfoldable pub columns_of : {A : Type 0} → Option (Form A) → Option Row
columns_of None = None
columns_of (Some r) = Some (columns r)

-- the numbers of a line by the row of its letter, where there is one
unfoldable pub numbers_by : List ℕ → Option Row → Option (ℕ × ℕ × ℕ)
numbers_by l None = None
numbers_by l (Some r) = numbers_of l r

-- the digits that the code's numbers hold; a line has its letter and its numbers
pub record Bounded (r : Row) : Type 0 where
  pub first : r.a ≤ 16
  pub second : r.b ≤ 8
  pub third : r.c ≤ 8
  pub whole : (r.total ≡ 0) ⊎ (r.total ≡ 1 + wide r.a + wide r.b + wide r.c)

unfoldable pub Fits : {A : Type 0} → Option (Form A) → ℕ → ℕ → ℕ → Type 0
Fits None x y z = Unit
Fits (Some r) x y z = InRange r x y z

-- ---- what a line asks; where it is of no row's form, `nothing`

module _ {A : Type 0} (nothing : A) where
  unfoldable pub asks_of : Option (Form A) → ℕ → ℕ → ℕ → A
  asks_of None x y z = nothing
  asks_of (Some r) x y z = r.asks x y z

  abbrev pub asked : Option (Form A) → Option (ℕ × ℕ × ℕ) → A
  asked o None = nothing
  asked o (Some n) = asks_of o n.0 n.1 n.2

  -- by any table
  unfoldable pub read_by : List (Form A) → List ℕ → A
  read_by t l = asked (find (at l 0) t) (numbers_by l (columns_of (find (at l 0) t)))
