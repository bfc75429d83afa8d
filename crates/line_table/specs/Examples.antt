-- A line of each form, and what it asks: written from the papers' forms, and not from the table.
use Rattle.std.specs.Prelude.{Option, Some, List, [], ◌∷◌}
use Rattle.rules.specs.declared.Event.TheVariants as E
use Rattle.rules.specs.declared.WindowEvent.TheVariants as W
use Rattle.asked.specs.declared.Asked.{Asked}
use Rattle.asked.specs.declared.Asked.TheVariants as Q
use Rattle.asked.specs.declared.Look.TheVariants as L
use Rattle.line_forms.specs.Examples.{Line, ◌asks◌}

abbrev pub player_lines : List (Line (Option Asked))
player_lines =
    ("W 2C 3 00001234" asks Some (Q.Event (E.Write 0x2C 3 0x1234)))
    ∷ ("R 2C F" asks Some (Q.Event (E.Read 0x2C 0xF)))
    ∷ ("H 08 FF 09" asks Some (Q.Event (E.HostUpdate 0x08 0xFF 0x09)))
    ∷ ("E" asks Some (Q.Event E.EndSignal))
    ∷ ("P" asks Some (Q.Event E.PlatformReset))
    ∷ []

abbrev pub console_lines : List (Line (Option Asked))
console_lines =
    ("O 0CFC 4 00001234" asks Some (Q.Event (E.PortWrite 0xCFC 4 0x1234)))
    ∷ ("I 0CF8 2" asks Some (Q.Event (E.PortRead 0xCF8 2)))
    ∷ ("A 00000000FEDCBA98" asks Some (Q.Look (L.Memory 0xFEDCBA98)))
    ∷ ("N 03C0" asks Some (Q.Look (L.Port 0x03C0)))
    ∷ ("S F000000C FFFFFFFF" asks Some (Q.Look (L.Probe 0xF000000C 0xFFFFFFFF)))
    ∷ ("K 0D" asks Some (Q.Look (L.Walk 0xD)))
    ∷ ("V 002030 F 00001234" asks Some (Q.Event (E.InWindow (W.WindowWrite 0x2030 0xF 0x1234))))
    ∷ ("U 002030 3" asks Some (Q.Event (E.InWindow (W.WindowRead 0x2030 3))))
    ∷ ("C 00000010" asks Some (Q.Event (E.InWindow (W.Complete 0x10))))
    ∷ ("F 00000089" asks Some (Q.Event (E.InWindow (W.Fault 0x89))))
    ∷ ("T 000003E8" asks Some (Q.Event (E.InWindow (W.AddCycles 0x3E8))))
    ∷ ("Y 070008 000000FF 00000012" asks Some (Q.Event (E.InWindow (W.MirrorUpdate 0x70008 0xFF 0x12))))
    ∷ []
