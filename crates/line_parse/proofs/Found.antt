-- A line, where its letter f is known: there is no row of it, or the row's numbers are the line's.
use mathlib.Core.Path.{◌≡◌, sym, ap, ◌∙◌}
use mathlib.Core.Bool.{true}
use mathlib.Core.List.{List}
use Prim.Native.Nat.{ℕ}
use Rattle.std.specs.Prelude.{None, Some}
use Rattle.line_forms.specs.declared.Row.{Row}
use Rattle.line_forms.specs.Table.{Form, find, all_rows, fits}
use Rattle.line_forms.specs.Read.{at, columns_of, numbers_of, numbers_by, asks_of, read_by, Bounded, Fits}
use Rattle.line_forms.proofs.Rows.{bounded}
use Rattle.line_forms.proofs.Forms.{numbers_fit}
use Rattle.line_forms.proofs.Exactly.{read_bad, read_values}

module _ {A : Type 0} (nothing : A) (t : List (Form A)) (l : List ℕ) (f : ℕ) (h : f ≡ at l 0) where
  pub no_row : None ≡ columns_of (find f t) → nothing ≡ read_by nothing t l
  unfolding numbers_by
  no_row e = read_bad nothing t l (ap (numbers_by l) (sym (rw h at e)))

  module _ (r : Row) (e : Some r ≡ columns_of (find f t)) where
    by_row : numbers_by l (columns_of (find (at l 0) t)) ≡ numbers_of l r
    unfolding numbers_by
    by_row = ap (numbers_by l) (sym (rw h at e))

    pub row_bounded : all_rows fits t ≡ true → Bounded r
    row_bounded a = bounded t f r a (sym e)

    pub no_numbers : None ≡ numbers_of l r → nothing ≡ read_by nothing t l
    no_numbers n = read_bad nothing t l (by_row ∙ sym n)

    module _ (x y z : ℕ) (n : Some (x, y, z) ≡ numbers_of l r) where
      pub numbers_ask : asks_of nothing (find f t) x y z ≡ read_by nothing t l
      numbers_ask = rw h (read_values nothing t l x y z (by_row ∙ sym n))

      pub numbers_in_range : Fits (find f t) x y z
      numbers_in_range = rw h (numbers_fit (find (at l 0) t) l x y z (by_row ∙ sym n))
