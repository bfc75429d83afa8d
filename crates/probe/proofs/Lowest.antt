-- The number of trailing zeros is the place of the lowest one: the bit there is 1, and every bit below it is 0.
use mathlib.Core.Path.{◌≡◌, refl, sym, ◌∙◌}
use Prim.Native.Nat.{ℕ, zero, suc, ◌+◌, ◌*◌, ◌/◌, ◌%◌, ◌^◌, ◌<◌}
use native.Mathlib.Omega.{arith}
use native.Mathlib.Nat.{div-one, mod-one}
use native.Mathlib.Numerals.{add-one}
use lib.Pow.{mod-pow-add}
use lib.Count.{count_trailing_zeros, under}
use Rattle.bits.specs.Bits.{bit}
use Rattle.bits.proofs.Laws.{bit_half}

-- the k + 1 lowest bits: the k lowest of the half, and the lowest
mod_half : (k m : ℕ) → m % 2 ^ suc k ≡ m / 2 % 2 ^ k * 2 + m % 2
mod_half k m = rw add-one at (mod-pow-add m k 1)

-- where the lowest bit d is 0, the half tells; where it is 1, the place is 0
is_one : (d t m : ℕ) → d ≡ m % 2 → (m % 2 ≡ 0 → bit (m / 2) t ≡ 1) → bit m (under d t) ≡ 1
is_one zero t m e half = sym (bit_half m t) ∙ half (sym e)
is_one (suc d) t m e half = rw div-one (omega arith)

is_zero : (d t m : ℕ) → d ≡ m % 2 → ((i : ℕ) → i < t → bit (m / 2) i ≡ 0) → (j : ℕ) → j < under d t → bit m j ≡ 0
is_zero zero t m e half zero h = rw div-one (sym e)
is_zero zero t m e half (suc j) h = sym (bit_half m j) ∙ half j (omega arith)
is_zero (suc d) t m e half j h = absurd (omega arith)

-- one of the k lowest bits is 1: so is that at the place
pub lowest_is_one : (k m : ℕ) → (m % 2 ^ k ≡ 0 → ⊥) → bit m (count_trailing_zeros k m) ≡ 1
unfolding count_trailing_zeros
lowest_is_one zero m some = absurd (some (mod-one m))
lowest_is_one (suc k) m some = is_one (m % 2) (count_trailing_zeros k (m / 2)) m refl (λ e. lowest_is_one k (m / 2) (λ none. some (mod_half k m ∙ omega arith)))

pub below_lowest : (k m j : ℕ) → j < count_trailing_zeros k m → bit m j ≡ 0
unfolding count_trailing_zeros
below_lowest zero m j h = absurd (omega arith)
below_lowest (suc k) m j h = is_zero (m % 2) (count_trailing_zeros k (m / 2)) m refl (λ i l. below_lowest k (m / 2) i l) j h
