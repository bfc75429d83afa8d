-- The first of n results that is an error, where a loop has come to the one at k.
use Rattle.std.proofs.Common.{◌≡◌, ℕ, ◌+◌, ◌-◌, ◌<◌, Result, Ok, Err, is_ok, ◌∙◌, add-one}
use Rattle.bits.specs.Choice.{first}
use Rattle.bits.proofs.Below.{first_step, first_start, first_end}

module _ {E : Type 0} (f : ℕ → Result (Unit {0}) E) where
  pub starts : (n : ℕ) → first is_ok (Ok tt) f n 0 ≡ first is_ok (Ok tt) f (n - 0) 0
  starts n = first_start is_ok (Ok tt) f n

  pub goes_on : {x : Result (Unit {0}) E} (n k : ℕ) → k < n → x ≡ first is_ok (Ok tt) f (n - k) k → f k ≡ Ok tt → x ≡ first is_ok (Ok tt) f (n - (k + 1)) (k + 1)
  goes_on n k h i e = i ∙ first_step is_ok (Ok tt) f n k h ∙ rw (e, add-one k)

  pub stops : {x : Result (Unit {0}) E} (n k : ℕ) (d : E) → k < n → x ≡ first is_ok (Ok tt) f (n - k) k → f k ≡ Err d → x ≡ Err d
  stops n k d h i e = i ∙ first_step is_ok (Ok tt) f n k h ∙ rw e

  pub ends : {x : Result (Unit {0}) E} (n k : ℕ) → k ≡ n → x ≡ first is_ok (Ok tt) f (n - k) k → x ≡ Ok tt
  ends n k e i = i ∙ rw e (first_end is_ok (Ok tt) f n)
