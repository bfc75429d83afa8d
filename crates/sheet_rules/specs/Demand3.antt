-- Demand 3's read-only clause for the device of a sheet, and what a byte that no entry lists holds and reads: over every sequence of guest accesses, host updates, function resets and platform resets.
use Rattle.std.specs.Prelude.{◌≡◌, List, true, false, ℕ, ◌+◌, ◌<◌}
use Rattle.answer.specs.Refusals.{ok}
use Rattle.access.specs.Access.{enabled, byte_for}
use Rattle.plain.specs.Plain.{held}
use Rattle.plain_device.specs.Device.{read_of}
use Rattle.plain_device.specs.declared.Event.{Event}
use Rattle.plain_device.specs.ReadOnly as D
use Rattle.sheet.specs.Sheet.{entries, good_sheet}
use Rattle.sheet_rules.specs.Tables.{has, tables_of}

-- 1. Read-only bits hold their default, or what the last accepted host update since then that masked them gave. (Read-only: no guest mask has the bit.)
abbrev pub ReadOnly : Type 0
ReadOnly = (s : List ℕ) → D.ReadOnly (tables_of s)

-- 2. Unlisted bytes hold 0.
abbrev pub Unlisted : Type 0
Unlisted = (s : List ℕ) → good_sheet s ≡ true → (es : List Event) (i j : ℕ) → i < 256 → j < 8 → ((k : ℕ) → k < entries s → has s k i ≡ false) → held (D.run (tables_of s) es) i j ≡ 0

-- 3. Unlisted bytes read 0: an accepted guest read has 00 in the lane of such a byte, where that lane is enabled.
abbrev pub UnlistedRead : Type 0
UnlistedRead = (s : List ℕ) → good_sheet s ≡ true → (es : List Event) (o l v k : ℕ) → read_of (D.run (tables_of s) es) o l ≡ ok v → k < 4 → enabled o l (o + k) ≡ true → ((n : ℕ) → n < entries s → has s n (o + k) ≡ false) → byte_for o v (o + k) ≡ 0
