-- w bytes from byte a of a dword: they fit, and they are what the rules place and take, once over the width.
use mathlib.Core.Path.{◌≡◌, refl, subst, sym}
use mathlib.Core.Logic.{⊎_elim, inl, inr}
use mathlib.Core.Bool.{Bool, true, false}
use Prim.Native.Nat.{ℕ, ◌+◌, ◌^◌, ◌<◌, ◌≤◌}
use native.Mathlib.Nat.{mod-lt, one-le-pow, mul-lt-mul_of_pos_right, lt_of_lt_of_le, pow-le-pow_right}
use native.Mathlib.Omega.{arith}
use lib.Dec.{T, eqb}
use lib.Pow.{pow-add}
use borrow.Author.Tests.{eqb-true, not-false}
use Rattle.bits.specs.Choice.{either}
use Rattle.ports.specs.Part.{Width}
use Rattle.rules.specs.Ports.{bad_width, placed}

pub some : (w : ℕ) → Width w → 1 ≤ w
some w h = ⊎_elim (λ e. omega arith) (λ k. ⊎_elim (λ e. omega arith) (λ e. omega arith) k) h

pub scaled : (a : ℕ) → 0 < 256 ^ a
scaled a = one-le-pow a 256 (omega arith)

pub placed< : (v a w : ℕ) → a + w ≤ 4 → placed v a w < 2 ^ 32
placed< v a w h =
    lt_of_lt_of_le (mul-lt-mul_of_pos_right (mod-lt v (scaled w)) (scaled a))
    (rw (← pow-add 256 w a) (pow-le-pow_right {n = 256} (omega arith) {j = 4} (omega arith)))

-- of the three widths, the one that is left
pub width_1 : (w : ℕ) → Width w → (w ≡ 4 → ⊥) → (w ≡ 2 → ⊥) → w ≡ 1
width_1 w h n m = ⊎_elim (λ e. e) (λ k. ⊎_elim (λ e. absurd (m e)) (λ e. absurd (n e)) k) h

pub width_4 : (w : ℕ) → Width w → (w ≡ 1 → ⊥) → (w ≡ 2 → ⊥) → w ≡ 4
width_4 w h n m = ⊎_elim (λ e. absurd (n e)) (λ k. ⊎_elim (λ e. absurd (m e)) (λ e. e) k) h

-- a width that is not refused
pub good_width : (w : ℕ) → bad_width w ≡ false → Width w
good_width w e = go (eqb w 1) (eqb w 2) (eqb w 4) refl refl refl (not-false _ e)
  where
    go : (x y z : Bool) → eqb w 1 ≡ x → eqb w 2 ≡ y → eqb w 4 ≡ z → either x (either y z) ≡ true → Width w
    go true y z p q r t = inl (eqb-true w 1 p)
    go false true z p q r t = inr (inl (eqb-true w 2 q))
    go false false true p q r t = inr (inr (eqb-true w 4 r))
    go false false false p q r t = absurd (subst T (sym t) tt)

-- the widest, where it is no other
pub wide_4 : (w : ℕ) → bad_width w ≡ false → (w ≡ 1 → ⊥) → (w ≡ 2 → ⊥) → w ≡ 4
wide_4 w e = width_4 w (good_width w e)
