-- The entry, where it is known whether the access is admitted.
use mathlib.Core.Path.{◌≡◌}
use mathlib.Core.Bool.{Bool}
use mathlib.Core.List.{List}
use Prim.Native.Nat.{ℕ}
use Rattle.answer.specs.Refusals.{fine, ok, no, OFFSET}
use Rattle.access.specs.Access.{bad_offset, admit}
use Rattle.access.proofs.Access.{not_admitted, admitted}
use Rattle.plain.specs.Bytes.{driven_of}
use Rattle.guest_read.specs.Shown.{read_dword, read_lanes}

module _ (busy : Bool) (m : List ℕ) (o l : ℕ) where
  pub read_refused : (r : ℕ) → no r ≡ admit (bad_offset o) OFFSET l no fine → no r ≡ read_lanes busy m o l
  unfolding read_lanes
  read_refused r e = not_admitted (bad_offset o) OFFSET l no (ok (driven_of l (read_dword busy m o))) r e

  pub read_made : fine ≡ admit (bad_offset o) OFFSET l no fine → ok (driven_of l (read_dword busy m o)) ≡ read_lanes busy m o l
  unfolding read_lanes
  read_made e = admitted (bad_offset o) OFFSET l no (ok (driven_of l (read_dword busy m o))) e
