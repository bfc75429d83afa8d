-- The columns of a line and the lines of a table, put one behind the other.
use mathlib.Core.Path.{◌≡◌, sym, ap, ◌∙◌}
use mathlib.Core.List.{List, [], ◌∷◌}
use Prim.Native.Nat.{ℕ, suc, ◌+◌, ◌-◌, ◌<◌, ◌≤◌}
use Rattle.std.specs.Prelude.{◌++◌}
use Rattle.std.proofs.lemmas.List.{append_assoc, append-nil}
use native.Mathlib.Omega.{arith}
use Rattle.bits.specs.Places.{from}
use Rattle.sheet_table.specs.Row.{row_text, rows_text}

one_more : (i : ℕ) → i + 1 ≡ suc i
one_more i = omega arith

one_left : (n i : ℕ) → i < n → n - i ≡ suc (n - (i + 1))
one_left n i h = omega (arith, h)

none_left : (n i : ℕ) → n ≤ i → n - i ≡ 0
none_left n i h = omega (arith, h)

-- behind what is put comes column i, and then those that are left
pub next_column : (put : List ℕ) (f : ℕ → ℕ) (n i : ℕ) → i < n → (put ++ f i ∷ []) ++ from (n - (i + 1)) f (i + 1) ≡ put ++ from (n - i) f i
next_column put f n i h =
    append_assoc put (f i ∷ []) _
    ∙ ap (λ m. put ++ f i ∷ from (n - (i + 1)) f m) (one_more i)
    ∙ ap (λ k. put ++ from k f i) (sym (one_left n i h))

-- and behind the last there is none
pub last_column : (put : List ℕ) (f : ℕ → ℕ) (n i : ℕ) → n ≤ i → put ++ from (n - i) f i ≡ put
last_column put f n i h = ap (λ k. put ++ from k f i) (none_left n i h) ∙ append-nil put

-- behind what is put comes the line of entry i, and then those that are left
pub next_line : (put s : List ℕ) (n i : ℕ) → i < n → (put ++ row_text s i) ++ rows_text s (i + 1) (n - (i + 1)) ≡ put ++ rows_text s i (n - i)
unfolding rows_text
next_line put s n i h =
    append_assoc put (row_text s i) _
    ∙ ap (λ m. put ++ (row_text s i ++ rows_text s m (n - (i + 1)))) (one_more i)
    ∙ ap (λ k. put ++ rows_text s i k) (sym (one_left n i h))

-- and behind the last there is none
pub last_line : (put s : List ℕ) (n i : ℕ) → n ≤ i → put ++ rows_text s i (n - i) ≡ put
unfolding rows_text
last_line put s n i h = ap (λ k. put ++ rows_text s i k) (none_left n i h) ∙ append-nil put
