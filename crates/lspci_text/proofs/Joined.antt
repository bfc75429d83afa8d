-- Pieces of text that are put one behind the other.
use mathlib.Core.Path.{◌≡◌, sym, ap, ◌∙◌}
use mathlib.Core.List.{List}
use Prim.Native.Nat.{ℕ, suc, ◌+◌, ◌-◌, ◌<◌, ◌≤◌}
use Rattle.std.specs.Prelude.{◌++◌}
use Rattle.std.proofs.lemmas.List.{append_assoc, append-nil}
use native.Mathlib.Omega.{arith}
use Rattle.lspci_text.specs.Dump.{join_from}

-- behind what is put comes piece i, and then those that are left
pub next_piece : (put : List ℕ) (f : ℕ → List ℕ) (n i : ℕ) → i < n → (put ++ f i) ++ join_from (n - (i + 1)) f (i + 1) ≡ put ++ join_from (n - i) f i
unfolding join_from
next_piece put f n i h =
    append_assoc put (f i) _
    ∙ ap (λ m. put ++ (f i ++ join_from (n - (i + 1)) f m)) one_more
    ∙ ap (λ k. put ++ join_from k f i) (sym left)
  where
    one_more : i + 1 ≡ suc i
    one_more = omega arith

    left : n - i ≡ suc (n - (i + 1))
    left = omega (arith, h)

-- and behind the last there is none
pub last_piece : (put : List ℕ) (f : ℕ → List ℕ) (n i : ℕ) → n ≤ i → put ++ join_from (n - i) f i ≡ put
unfolding join_from
last_piece put f n i h = ap (λ k. put ++ join_from k f i) none ∙ append-nil put
  where
    none : n - i ≡ 0
    none = omega (arith, h)
