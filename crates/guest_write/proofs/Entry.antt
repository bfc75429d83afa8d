-- The entry, where it is known whether the access is admitted.
use mathlib.Core.Path.{◌≡◌}
use mathlib.Core.List.{List}
use Prim.Native.Nat.{ℕ}
use Rattle.answer.specs.Refusals.{fine, no, OFFSET}
use Rattle.rules.specs.declared.Flags.{Flags}
use Rattle.access.specs.Access.{bad_offset, admit}
use Rattle.access.proofs.Access.{not_admitted, admitted}
use Rattle.guest_write.specs.Bytes.{lent, taken_bytes, write_lanes}

module _ (guest : List ℕ) (c : Flags) (m : List ℕ) (o l v : ℕ) where
  pub write_refused : (r : ℕ) → no r ≡ admit (bad_offset o) OFFSET l no fine → lent (no r) m c ≡ write_lanes guest c m o l v
  unfolding write_lanes
  write_refused r e = not_admitted (bad_offset o) OFFSET l (λ (n : ℕ). lent (no n) m c) (taken_bytes guest c m o l v) r e

  pub write_made : fine ≡ admit (bad_offset o) OFFSET l no fine → taken_bytes guest c m o l v ≡ write_lanes guest c m o l v
  unfolding write_lanes
  write_made e = admitted (bad_offset o) OFFSET l (λ (n : ℕ). lent (no n) m c) (taken_bytes guest c m o l v) e
