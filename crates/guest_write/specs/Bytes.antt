-- A guest write a byte at a time, as the code makes it; proofs/Bridge.antt shows that it comes to the rules.
use Rattle.std.specs.Prelude.{List, Bool, true, false, ℕ, ◌+◌, ◌/◌, ◌%◌, get_or, set}
use Rattle.bits.specs.Bits.{blend_k}
use Rattle.bits.specs.Choice.{when◌then◌else◌, ◌is◌}
use Rattle.answer.specs.Refusals.{fine, Reply, no, OFFSET}
use Rattle.map.specs.Registers.{GMADR, MSAC}
use Rattle.rules.specs.declared.Flags.{Flags}
use Rattle.rules.specs.Access.{up}
use Rattle.access.specs.Access.{enabled, bad_offset, admit}
use Rattle.rules.specs.Device.{size_of}
use Rattle.rules.specs.Guest.{flags_after}
use Rattle.plain.specs.Bytes.{stored_of}
use Rattle.guest_lanes.specs.Lane.{taken_mask, reach_of}

-- ---- the store

-- the guest bits of byte i that take the byte written
abbrev pub reach_at : List ℕ → Flags → List ℕ → ℕ → ℕ → ℕ
reach_at guest c m i w = reach_of c (size_of (get_or m MSAC 0)) i (get_or guest i 0) w

unfoldable pub stored_bytes : List ℕ → Flags → List ℕ → ℕ → ℕ → ℕ → List ℕ
stored_bytes guest c m o l v =
    stored_of m o l v
    (reach_at guest c m o (v % 256))
    (reach_at guest c m (o + 1) (v / 256 % 256))
    (reach_at guest c m (o + 2) (v / 65536 % 256))
    (reach_at guest c m (o + 3) (v / 16777216 % 256))

-- ---- MSAC's clearing

unfoldable pub cleared_bytes : List ℕ → List ℕ
cleared_bytes m = set m (GMADR + 3) (blend_k 8 (taken_mask (size_of (get_or m MSAC 0))) (get_or m (GMADR + 3) 0) 0)

unfoldable pub clear_if : Bool → List ℕ → List ℕ
clear_if true m = cleared_bytes m
clear_if false m = m

unfoldable pub step_bytes : List ℕ → Flags → List ℕ → ℕ → ℕ → ℕ → List ℕ
step_bytes guest c m o l v = clear_if (enabled o l MSAC) (stored_bytes guest c m o l v)

-- ---- the flags

-- a flag after a write at o, where one at `at` raises it unless hit is 0
unfoldable pub raised_of : ℕ → ℕ → ℕ → ℕ → ℕ
raised_of was o at hit = when o is at then (when hit is 0 then was else when was is 0 then 1 else was) else was

-- ---- the entry

-- what is said, and bytes and flags afterwards
pub record Lent : Type 0 where
  pub reply : Reply
  pub bytes : List ℕ
  pub flags : Flags

abbrev pub lent : Reply → List ℕ → Flags → Lent
lent r m c = record { reply = r; bytes = m; flags = c }

-- dropped while busy
abbrev pub taken_bytes : List ℕ → Flags → List ℕ → ℕ → ℕ → ℕ → Lent
taken_bytes guest c m o l v = when up c.busy then lent fine m c else lent fine (step_bytes guest c m o l v) (flags_after o l v c)

unfoldable pub write_lanes : List ℕ → Flags → List ℕ → ℕ → ℕ → ℕ → Lent
write_lanes guest c m o l v = admit (bad_offset o) OFFSET l (λ (n : ℕ). lent (no n) m c) (taken_bytes guest c m o l v)
