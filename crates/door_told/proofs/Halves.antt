-- A number above a value, in one number: both are heard, and one number only says them.
use mathlib.Core.Path.{◌≡◌, ap}
use Prim.Native.Nat.{ℕ, ◌+◌, ◌*◌, ◌/◌, ◌%◌, ◌<◌, ◌^◌}
use native.Mathlib.Omega.{arith}
use Rattle.door_told.specs.Heard.{Heard, heard}

pub unpacks : (n h l : ℕ) → h < 2 ^ 16 → l < 2 ^ 32 → heard (n * 2 ^ 48 + h * 2 ^ 32 + l) ≡ record { number = n; value = h * 2 ^ 32 + l }
unpacks n h l p q =
    let e : (n * 2 ^ 48 + h * 2 ^ 32 + l) / 2 ^ 48 ≡ n = omega arith in
    let f : (n * 2 ^ 48 + h * 2 ^ 32 + l) % 2 ^ 48 ≡ h * 2 ^ 32 + l = omega arith in
    rw (e, f)

-- two numbers of which the same is heard are one
pub one_number : (r t : ℕ) → heard r ≡ heard t → r ≡ t
one_number r t e =
    let n : r / 2 ^ 48 ≡ t / 2 ^ 48 = ap (λ (x : Heard). x.number) e in
    let v : r % 2 ^ 48 ≡ t % 2 ^ 48 = ap (λ (x : Heard). x.value) e in
    omega arith
