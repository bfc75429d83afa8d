-- The lines of the sheet player: a letter, the digits of the numbers behind it, and what the line asks.
use Rattle.std.specs.Prelude.{Option, Some, List, [], ◌∷◌}
use Rattle.plain_device.specs.declared.Event.{Event}
use Rattle.plain_device.specs.declared.Event.TheVariants as E
use Rattle.line_forms.specs.Table.{Form, form}

-- the session player's `W oo l vvvvvvvv`, `R oo l`, `H oo mm vv`, `P`, and `Z` for the host's function reset
abbrev pub sheet_rows : List (Form (Option Event))
sheet_rows =
    form "W" 2 1 8 (λ o l v. Some (E.Write o l v))
    ∷ form "R" 2 1 0 (λ o l _. Some (E.Read o l))
    ∷ form "H" 2 2 2 (λ o m v. Some (E.HostUpdate o m v))
    ∷ form "P" 0 0 0 (λ _ _ _. Some E.PlatformReset)
    ∷ form "Z" 0 0 0 (λ _ _ _. Some E.FunctionReset)
    ∷ []
