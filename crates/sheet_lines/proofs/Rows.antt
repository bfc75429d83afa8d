-- What holds of the sheet player's rows: a line is read exactly when it is of the form of a row, and its first bytes say all.
use Rattle.std.specs.Prelude.{Option, None, Some}
use mathlib.Core.Path.{◌≡◌, refl}
use mathlib.Core.List.{◌++◌}
use Rattle.plain_device.specs.declared.Event.{Event}
use Rattle.line_forms.specs.Read.{digit_of, hex_from, field_of, columns_of, numbers_of, numbers_by, asks_of, read_by}
use Rattle.line_forms.specs.Exactly.{Every, Formed, OnlyForms, Exactly, NoneExactly, Alike}
use Rattle.line_forms.specs.Examples.{AsRead, no_lines}
use Rattle.line_forms.proofs.Digits.{never}
use Rattle.line_forms.proofs.Exactly as X
use Rattle.line_forms.proofs.Exactly.{◌&◌}
use Rattle.sheet_lines.specs.Table.{sheet_rows}
use Rattle.sheet_lines.specs.Examples.{sheet_lines}

-- a line of each form, read
pub as_read : AsRead None sheet_rows (sheet_lines ++ no_lines None)
unfolding read_by columns_of numbers_by numbers_of field_of hex_from digit_of asks_of
as_read = refl

pub sheet_formed : Formed None sheet_rows
sheet_formed = X.formed None sheet_rows refl

pub sheet_only_forms : OnlyForms None sheet_rows
sheet_only_forms = X.only_forms None sheet_rows

pub sheet_exactly : Exactly None sheet_rows
sheet_exactly = X.exactly None sheet_rows refl

-- each row asks something
abbrev Something : Option Event → Type 0
Something q = q ≡ None → ⊥

event : (e : Event) → Something (Some e)
event e n = never cc

sheet_asks : Every Something sheet_rows
sheet_asks = (λ _ _ _. event _) & (λ _ _ _. event _) & (λ _ _ _. event _) & (λ _ _ _. event _) & (λ _ _ _. event _) & tt

pub sheet_none_exactly : NoneExactly None sheet_rows
sheet_none_exactly = X.none_exactly None sheet_rows refl sheet_asks

-- the first 16 bytes of a line say all
pub sheet_alike : Alike None sheet_rows 16
sheet_alike = X.alike None 15 sheet_rows refl
