-- The same a byte at a time, as the code makes it; proofs/Bridge.antt shows that it comes to the rule.
use Rattle.std.specs.Prelude.{List, ℕ, ◌+◌, get_or}
use Rattle.bits.specs.Bits.{joined}
use Rattle.answer.specs.Refusals.{Reply, fine, no, OFFSET}
use Rattle.answer.specs.Said.{Answer, says}
use Rattle.access.specs.Access.{bad_offset, admit}
use Rattle.plain.specs.Plain.{read_reply}
use Rattle.plain.specs.Bytes.{driven_of, stored_of}
use Rattle.host_updates.specs.Update.{Lent, lent}

unfoldable pub dword_of : List ℕ → ℕ → ℕ
dword_of m o = joined (get_or m o 0) (get_or m (o + 1) 0) (get_or m (o + 2) 0) (get_or m (o + 3) 0)

unfoldable pub read_bytes : List ℕ → ℕ → ℕ → Reply
read_bytes m o l = read_reply o l (driven_of l (dword_of m o))

unfoldable pub stored_bytes : List ℕ → List ℕ → ℕ → ℕ → ℕ → List ℕ
stored_bytes guests m o l v = stored_of m o l v (get_or guests o 0) (get_or guests (o + 1) 0) (get_or guests (o + 2) 0) (get_or guests (o + 3) 0)

unfoldable pub write_bytes : List ℕ → List ℕ → ℕ → ℕ → ℕ → Lent
write_bytes guests m o l v = admit (bad_offset o) OFFSET l (λ (n : ℕ). lent (no n) m) (lent fine (stored_bytes guests m o l v))

abbrev pub answered : Answer → List ℕ → Lent
answered a m = lent (says a) m
