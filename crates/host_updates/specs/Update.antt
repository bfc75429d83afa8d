-- A host update of one byte, as the code makes it; proofs/Bridge.antt shows that it comes to the rule.
use Rattle.std.specs.Prelude.{List, not, ℕ, get_or, set}
use Rattle.bits.specs.Bits.{blend_k}
use Rattle.bits.specs.Choice.{when◌then◌else◌, ◌is◌, ◌<?◌}
use Rattle.answer.specs.Refusals.{fine, Reply, no, OFFSET, NOT_HOST}
use Rattle.answer.specs.Said.{Answer, says}

-- the mask's bits outside the host mask
abbrev pub outside : List ℕ → ℕ → ℕ → ℕ
outside host o mask = blend_k 8 (get_or host o 0) mask 0

-- masked bits take the value's bits
unfoldable pub hosted_bytes : List ℕ → ℕ → ℕ → ℕ → List ℕ
hosted_bytes m i mask v = set m i (blend_k 8 mask (get_or m i 0) v)

-- what is said, and the bytes afterwards
pub record Lent : Type 0 where
  pub reply : Reply
  pub bytes : List ℕ

abbrev pub lent : Reply → List ℕ → Lent
lent r m = record { reply = r; bytes = m }

abbrev pub updated : Answer → List ℕ → Lent
updated a m = lent (says a) m

unfoldable pub update_bytes : List ℕ → List ℕ → ℕ → ℕ → ℕ → Lent
update_bytes host m o mask v =
    when 255 <? o then lent (no OFFSET) m
    else when not (outside host o mask is 0) then lent (no NOT_HOST) m
    else lent fine (hosted_bytes m o mask v)
