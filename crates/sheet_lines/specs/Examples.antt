-- A line of each form, and what it asks: written from the paper's forms, and not from the table.
use Rattle.std.specs.Prelude.{Option, None, Some, List, [], ◌∷◌}
use Rattle.plain_device.specs.declared.Event.{Event}
use Rattle.plain_device.specs.declared.Event.TheVariants as E
use Rattle.line_forms.specs.Examples.{Line, ◌asks◌}

-- the session player's end signal is none of them
abbrev pub sheet_lines : List (Line (Option Event))
sheet_lines =
    ("W 2C 3 00001234" asks Some (E.Write 0x2C 3 0x1234))
    ∷ ("R 2C F" asks Some (E.Read 0x2C 0xF))
    ∷ ("H 08 FF 09" asks Some (E.HostUpdate 0x08 0xFF 0x09))
    ∷ ("P" asks Some E.PlatformReset)
    ∷ ("Z" asks Some E.FunctionReset)
    ∷ ("E" asks None)
    ∷ []
