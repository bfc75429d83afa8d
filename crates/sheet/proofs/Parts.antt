-- Where a part of a body lies: the numbers stay small.
use Prim.Native.Nat.{ℕ, zero, suc, ◌+◌, ◌*◌, ◌<◌}
use native.Mathlib.Omega.{arith}

-- a byte of a part lies within the body; by cases, since `omega` has no products
pub in_body : (p l t : ℕ) → p < 4 → t < l → p * l + t < 4 * l
in_body zero l t h g = omega arith
in_body (suc zero) l t h g = omega arith
in_body (suc (suc zero)) l t h g = omega arith
in_body (suc (suc (suc zero))) l t h g = omega arith
in_body (suc (suc (suc (suc p)))) l t h g = absurd (omega arith)
