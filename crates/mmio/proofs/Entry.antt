-- An access in the window, where it is known whether it is admitted.
use mathlib.Core.Path.{◌≡◌}
use Prim.Native.Nat.{ℕ}
use Rattle.answer.specs.Refusals.{fine, ok, no, WINDOW_OFFSET}
use Rattle.rules.specs.declared.State.{State}
use Rattle.access.specs.Access.{admit}
use Rattle.rules.specs.Access.{done, refused}
use Rattle.plain.specs.Plain.{lane_value}
use Rattle.rules.specs.Window.{bad_window, window_read_bit, window_read_of, window_step_of, window_write_of}
use Rattle.access.proofs.Access.{not_admitted, admitted}

module _ (s : State) (o l : ℕ) where
  pub read_refused : (r : ℕ) → no r ≡ admit (bad_window o) WINDOW_OFFSET l no fine → no r ≡ window_read_of s o l
  unfolding window_read_of
  read_refused r e = not_admitted (bad_window o) WINDOW_OFFSET l no (ok (lane_value (window_read_bit s o) l)) r e

  pub read_made : fine ≡ admit (bad_window o) WINDOW_OFFSET l no fine → ok (lane_value (window_read_bit s o) l) ≡ window_read_of s o l
  unfolding window_read_of
  read_made e = admitted (bad_window o) WINDOW_OFFSET l no (ok (lane_value (window_read_bit s o) l)) e

  pub write_refused : (v r : ℕ) → no r ≡ admit (bad_window o) WINDOW_OFFSET l no fine → refused r s ≡ window_write_of s o l v
  unfolding window_write_of
  write_refused v r e = not_admitted (bad_window o) WINDOW_OFFSET l (λ (n : ℕ). refused n s) (done (window_step_of s o l v)) r e

  pub write_made : (v : ℕ) → fine ≡ admit (bad_window o) WINDOW_OFFSET l no fine → done (window_step_of s o l v) ≡ window_write_of s o l v
  unfolding window_write_of
  write_made v e = admitted (bad_window o) WINDOW_OFFSET l (λ (n : ℕ). refused n s) (done (window_step_of s o l v)) e
