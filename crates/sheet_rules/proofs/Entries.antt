-- Entries that lie within the contents, and bytes of a part from the last entry down.
use Rattle.std.proofs.Common.{◌≡◌, ℕ, zero, suc, ◌+◌, ◌-◌, ◌*◌, ◌<◌, ◌≤◌, List, length, Some, arith}
use borrow.Author.Tests.{lt-ltb}
use Rattle.bits.specs.Choice.{pick}
use Rattle.sheet.specs.Sheet.{at, entries, contents, offset_of, length_of, start_of}
use Rattle.sheet.specs.Reads.{entry_of, entry_at}
use Rattle.sheet_rules.specs.Tables.{has, raw_in}

pub listed_at : (s : List ℕ) (k : ℕ) → k < entries s → contents s ≤ length s → entry_at s k ≡ Some (entry_of s k)
unfolding entry_at
listed_at s k h c = rw (lt-ltb k (entries s) h, lt-ltb (4 * k + 4) (length s) (omega arith))

-- the byte of the entry below k, where it has the byte, else that of those below
pub raw_step : (s : List ℕ) (p i k : ℕ) → 0 < k → raw_in s p i k ≡ pick (has s (k - 1) i) (at s (start_of s (k - 1) + p * length_of s (k - 1) + (i - offset_of s (k - 1)))) (raw_in s p i (k - 1))
unfolding raw_in
raw_step s p i zero h = absurd (omega arith)
raw_step s p i (suc k) h = let e : suc k - 1 ≡ k = omega arith in rw e
