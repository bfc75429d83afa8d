-- The entries over lent bytes, where it is known whether the access is admitted.
use mathlib.Core.Path.{◌≡◌}
use mathlib.Core.List.{List}
use Prim.Native.Nat.{ℕ}
use Rattle.answer.specs.Refusals.{fine, ok, no, OFFSET}
use Rattle.access.specs.Access.{bad_offset, admit}
use Rattle.access.proofs.Access.{not_admitted, admitted}
use Rattle.plain.specs.Bytes.{driven_of}
use Rattle.host_updates.specs.Update.{lent}
use Rattle.plain_device.specs.Bytes.{dword_of, read_bytes, stored_bytes, write_bytes}

module _ (m : List ℕ) (o l : ℕ) where
  pub read_refused : (r : ℕ) → no r ≡ admit (bad_offset o) OFFSET l no fine → no r ≡ read_bytes m o l
  unfolding read_bytes
  read_refused r e = not_admitted (bad_offset o) OFFSET l no (ok (driven_of l (dword_of m o))) r e

  pub read_made : fine ≡ admit (bad_offset o) OFFSET l no fine → ok (driven_of l (dword_of m o)) ≡ read_bytes m o l
  unfolding read_bytes
  read_made e = admitted (bad_offset o) OFFSET l no (ok (driven_of l (dword_of m o))) e

  pub write_refused : (guests : List ℕ) (v r : ℕ) → no r ≡ admit (bad_offset o) OFFSET l no fine → lent (no r) m ≡ write_bytes guests m o l v
  unfolding write_bytes
  write_refused guests v r e = not_admitted (bad_offset o) OFFSET l (λ (n : ℕ). lent (no n) m) (lent fine (stored_bytes guests m o l v)) r e

  pub write_made : (guests : List ℕ) (v : ℕ) → fine ≡ admit (bad_offset o) OFFSET l no fine → lent fine (stored_bytes guests m o l v) ≡ write_bytes guests m o l v
  unfolding write_bytes
  write_made guests v e = admitted (bad_offset o) OFFSET l (λ (n : ℕ). lent (no n) m) (lent fine (stored_bytes guests m o l v)) e
