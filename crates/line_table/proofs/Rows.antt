-- What holds of the two tables: a line is read exactly when it is of the form of a row, and its first bytes say all.
use Rattle.std.specs.Prelude.{Option, None, Some}
use mathlib.Core.Path.{◌≡◌, refl}
use mathlib.Core.List.{◌++◌}
use Rattle.rules.specs.declared.Event.{Event}
use Rattle.asked.specs.declared.Look.{Look}
use Rattle.asked.specs.declared.Asked.{Asked}
use Rattle.asked.specs.declared.Asked.TheVariants as Q
use Rattle.line_forms.specs.Read.{digit_of, hex_from, field_of, columns_of, numbers_of, numbers_by, asks_of, read_by}
use Rattle.line_forms.specs.Exactly.{Every, Formed, OnlyForms, Exactly, NoneExactly, Alike, AsksOnly}
use Rattle.line_forms.specs.Examples.{AsRead, no_lines}
use Rattle.line_forms.proofs.Digits.{never}
use Rattle.line_forms.proofs.Exactly as X
use Rattle.line_forms.proofs.Exactly.{◌&◌}
use Rattle.line_table.specs.Table.{player_rows, rows, Players}
use Rattle.line_table.specs.Examples.{player_lines, console_lines}

-- ---- a line of each form, read

pub as_read : AsRead None rows (console_lines ++ player_lines ++ no_lines None)
unfolding read_by columns_of numbers_by numbers_of field_of hex_from digit_of asks_of
as_read = refl

pub player_as_read : AsRead None player_rows (player_lines ++ no_lines None)
unfolding read_by columns_of numbers_by numbers_of field_of hex_from digit_of asks_of
player_as_read = refl

-- ---- each row asks something

abbrev Something : Option Asked → Type 0
Something q = q ≡ None → ⊥

event : (e : Event) → Something (Some (Q.Event e))
event e n = never cc

look : (k : Look) → Something (Some (Q.Look k))
look k n = never cc

player_asks : Every Something player_rows
player_asks = (λ _ _ _. event _) & (λ _ _ _. event _) & (λ _ _ _. event _) & (λ _ _ _. event _) & (λ _ _ _. event _) & tt

console_asks : Every Something rows
console_asks = (λ _ _ _. event _) & (λ _ _ _. event _) & (λ _ _ _. look _) & (λ _ _ _. look _) & (λ _ _ _. look _) & (λ _ _ _. look _) & (λ _ _ _. event _) & (λ _ _ _. event _) & (λ _ _ _. event _) & (λ _ _ _. event _) & (λ _ _ _. event _) & (λ _ _ _. event _) & player_asks

-- ---- the console's rows

pub console_formed : Formed None rows
console_formed = X.formed None rows refl

pub console_only_forms : OnlyForms None rows
console_only_forms = X.only_forms None rows

pub console_exactly : Exactly None rows
console_exactly = X.exactly None rows refl

pub console_none_exactly : NoneExactly None rows
console_none_exactly = X.none_exactly None rows refl console_asks

-- the first 27 bytes of a console line say all
pub console_alike : Alike None rows 27
console_alike = X.alike None 26 rows refl

-- ---- the player's

pub player_formed : Formed None player_rows
player_formed = X.formed None player_rows refl

pub player_only_forms : OnlyForms None player_rows
player_only_forms = X.only_forms None player_rows

pub player_exactly : Exactly None player_rows
player_exactly = X.exactly None player_rows refl

pub player_none_exactly : NoneExactly None player_rows
player_none_exactly = X.none_exactly None player_rows refl player_asks

-- the first 16 bytes of a player's line say all
pub player_alike : Alike None player_rows 16
player_alike = X.alike None 15 player_rows refl

-- a line asks of the player only what the player takes
pub player_only : AsksOnly None player_rows Players
player_only = X.by_rows None Players player_rows tt ((λ _ _ _. tt) & (λ _ _ _. tt) & (λ _ _ _. tt) & (λ _ _ _. tt) & (λ _ _ _. tt) & tt)
