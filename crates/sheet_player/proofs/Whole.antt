-- What the sheet's player says of a whole session, in whatever blocks it comes: the answers that the rules give, line by line, on the device of the sheet. And what it then holds: demand 3's read-only clause.
use mathlib.Core.Path.{◌≡◌}
use mathlib.Core.List.{List, []}
use mathlib.Core.Bool.{Bool, true, false}
use Prim.Native.Nat.{ℕ, ◌^◌, ◌<◌}
use native.Mathlib.Omega.{arith}
use lib.ListN.{get_or}
use Rattle.std.specs.Prelude.{is_ok}
use Rattle.bits.specs.Choice.{pick}
use Rattle.bits.specs.Places.{bytes}
use Rattle.bits.proofs.Places.{length_bytes, at_each}
use Rattle.plain_device.specs.ReadOnly.{ReadOnlyAfter}
use Rattle.plain_device.proofs.ReadOnly as D
use Rattle.session.specs.Session.{all_lines, joins, blocks_text, blocks_state}
use Rattle.sheet.specs.Sheet.{entries, DEFAULT}
use Rattle.sheet_rules.specs.Check.{check_of}
use Rattle.sheet_rules.specs.Tables.{cell_in, table_of, tables, tables_of}
use Rattle.sheet_rules.proofs.Cells.{cell_fits}
use Rattle.sheet_rules.proofs.Demand3.{inside}
use Rattle.sheet_step.specs.Player.{events_of, sheet_player_of}
use Rattle.sheet_step.proofs.Bridge.{Good}
use Rattle.sheet_step.proofs.Events as E
use Rattle.rules.specs.declared.Flags.{Flags}
use Rattle.player_line.specs.Box.{line_box, line_text}
use Rattle.player_line.specs.Boxed.{boxed_with}
use Rattle.player_line.proofs.Sheet.{sheet_player_is, sheet_player_leaves}
use Rattle.sheet_player.specs.Demand3.{ReadOnly}

-- bytes by place
of_places : (f : ℕ → ℕ) → ((i : ℕ) → f i < 2 ^ 8) → Good (bytes f)
of_places f b = record { long = length_bytes f; fits = λ i. at_each (λ (x : ℕ). x < 2 ^ 8) 256 f 0 i (omega arith) b }

-- the defaults of a sheet's device are 256 bytes
defaults_good : (s : List ℕ) → ((i : ℕ) → get_or s i 0 < 2 ^ 8) → Good (tables_of s).defaults
unfolding tables_of
defaults_good s b = go (is_ok (check_of s))
  where
    go : (x : Bool) → Good (pick x (tables (table_of s)) (tables (λ (p : ℕ). bytes (λ (i : ℕ). 0)))).defaults
    go true = of_places (λ (i : ℕ). cell_in s DEFAULT i (entries s)) (λ i. cell_fits s DEFAULT i (entries s) b)
    go false = of_places (λ (i : ℕ). 0) (λ i. omega arith)

pub session_is : (s : List ℕ) → ((i : ℕ) → get_or s i 0 < 2 ^ 8) → (c : Flags) (xs : List (List ℕ)) → blocks_text line_box line_text 16 (boxed_with (tables_of s) c (tables_of s).defaults) [] xs ≡ sheet_player_of (tables_of s) (joins xs)
session_is s b c xs = sheet_player_is (tables_of s) c (defaults_good s b) xs

-- after any session on a sheet's device, by the rules
pub session_read_only : ReadOnly
session_read_only s = E.session_read_only (tables_of s) (inside s)

-- and of the bytes that the machine holds
pub session_holds : (s : List ℕ) → ((i : ℕ) → get_or s i 0 < 2 ^ 8) → (c : Flags) (xs : List (List ℕ)) → ReadOnlyAfter (tables_of s) (events_of (all_lines (joins xs))) (blocks_state line_box line_text 16 (boxed_with (tables_of s) c (tables_of s).defaults) [] xs).bytes
session_holds s b c xs i j h k fixed = rw (sheet_player_leaves (tables_of s) c (defaults_good s b) xs) (D.read_only_lem (tables_of s) (inside s) (events_of (all_lines (joins xs))) i j h k fixed)
