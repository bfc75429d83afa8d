-- A number's digits, made one behind the other.
use mathlib.Core.Path.{◌≡◌, refl, sym, ap, ◌∙◌}
use mathlib.Core.List.{List, [], ◌∷◌}
use Prim.Native.Nat.{ℕ, zero, suc, ◌+◌, ◌-◌, ◌*◌, ◌/◌, ◌%◌, ◌^◌, ◌<◌, ◌≤◌}
use Rattle.std.specs.Prelude.{◌++◌, length, take, slice_set}
use Rattle.std.proofs.lemmas.Nat.{pow-add}
use Rattle.std.proofs.lemmas.List.{append_assoc, append-nil}
use native.Mathlib.Omega.{arith}
use native.Mathlib.Numerals.{add-one}
use lib.Seq.{take_all, take-suc-set}
use Rattle.line_forms.specs.Hex.{up_of, hex_of}

powers : (k : ℕ) → 2 ^ (4 * k) ≡ 16 ^ k
powers zero = refl
powers (suc k) = ap (λ n. 2 ^ n) (omega arith) ∙ pow-add 2 4 (4 * k) ∙ ap (λ n. 16 * n) (powers k) ∙ sym (pow-add 16 1 k) ∙ ap (λ n. 16 ^ n) one_more
  where
    one_more : 1 + k ≡ suc k
    one_more = omega arith

one_more_digit : (digits : List ℕ) (i d : ℕ) → i < length digits → take (i + 1) (slice_set digits i d) ≡ take i digits ++ d ∷ []
one_more_digit digits i d h = rw add-one (take-suc-set digits i d h)

-- behind the first i of K digits comes that of place K - 1 - i, and then those that are left
pub next_digit : (digits : List ℕ) (K i v d : ℕ) → i < K → length digits ≡ K → d ≡ up_of (v / 2 ^ (4 * (K - 1 - i)) % 16) → take (i + 1) (slice_set digits i d) ++ hex_of (K - (i + 1)) v ≡ take i digits ++ hex_of (K - i) v
unfolding hex_of
next_digit digits K i v d h e is =
    ap (λ t. t ++ hex_of (K - (i + 1)) v) (one_more_digit digits i d (omega (arith, h, e)))
    ∙ append_assoc (take i digits) _ _
    ∙ ap (λ x. take i digits ++ x ∷ hex_of (K - (i + 1)) v) is
    ∙ ap (λ n. take i digits ++ up_of (v / n % 16) ∷ hex_of (K - (i + 1)) v) (powers (K - 1 - i))
    ∙ ap (λ k. take i digits ++ up_of (v / 16 ^ k % 16) ∷ hex_of (K - (i + 1)) v) k_is
    ∙ ap (λ k. take i digits ++ hex_of k v) (sym left)
  where
    k_is : K - 1 - i ≡ K - (i + 1)
    k_is = omega arith

    left : K - i ≡ suc (K - (i + 1))
    left = omega (arith, h)

-- and behind the last there is none
pub last_digit : (digits : List ℕ) (K i v : ℕ) → K ≤ i → length digits ≡ K → take i digits ++ hex_of (K - i) v ≡ digits
unfolding hex_of
last_digit digits K i v h e = ap (λ k. take i digits ++ hex_of k v) none ∙ append-nil _ ∙ take_all i digits (omega (arith, h, e))
  where
    none : K - i ≡ 0
    none = omega (arith, h)
