-- The lines of the session player ('The session player') and of the console: a letter, the digits of the numbers behind it, and what the line asks.
use Rattle.std.specs.Prelude.{Option, None, Some, List, [], ◌∷◌}
use Rattle.rules.specs.declared.Event.TheVariants as E
use Rattle.rules.specs.declared.WindowEvent.TheVariants as W
use Rattle.asked.specs.declared.Asked.{Asked}
use Rattle.asked.specs.declared.Asked.TheVariants as Q
use Rattle.asked.specs.declared.Look.TheVariants as L
use Rattle.line_forms.specs.Table.{Form, form}

-- the player's: `W oo l vvvvvvvv`, `R oo l`, `H oo mm vv`, `E`, `P`
abbrev pub player_rows : List (Form (Option Asked))
player_rows =
    form "W" 2 1 8 (λ o l v. Some (Q.Event (E.Write o l v)))
    ∷ form "R" 2 1 0 (λ o l _. Some (Q.Event (E.Read o l)))
    ∷ form "H" 2 2 2 (λ o m v. Some (Q.Event (E.HostUpdate o m v)))
    ∷ form "E" 0 0 0 (λ _ _ _. Some (Q.Event E.EndSignal))
    ∷ form "P" 0 0 0 (λ _ _ _. Some (Q.Event E.PlatformReset))
    ∷ []

-- the console's: these too
abbrev pub rows : List (Form (Option Asked))
rows =
    form "O" 4 1 8 (λ p w v. Some (Q.Event (E.PortWrite p w v)))
    ∷ form "I" 4 1 0 (λ p w _. Some (Q.Event (E.PortRead p w)))
    ∷ form "A" 16 0 0 (λ a _ _. Some (Q.Look (L.Memory a)))
    ∷ form "N" 4 0 0 (λ p _ _. Some (Q.Look (L.Port p)))
    ∷ form "S" 8 8 0 (λ a b _. Some (Q.Look (L.Probe a b)))
    ∷ form "K" 2 0 0 (λ i _ _. Some (Q.Look (L.Walk i)))
    ∷ form "V" 6 1 8 (λ o l v. Some (Q.Event (E.InWindow (W.WindowWrite o l v))))
    ∷ form "U" 6 1 0 (λ o l _. Some (Q.Event (E.InWindow (W.WindowRead o l))))
    ∷ form "C" 8 0 0 (λ m _ _. Some (Q.Event (E.InWindow (W.Complete m))))
    ∷ form "F" 8 0 0 (λ v _ _. Some (Q.Event (E.InWindow (W.Fault v))))
    ∷ form "T" 8 0 0 (λ n _ _. Some (Q.Event (E.InWindow (W.AddCycles n))))
    ∷ form "Y" 6 8 8 (λ o m v. Some (Q.Event (E.InWindow (W.MirrorUpdate o m v))))
    ∷ player_rows

-- what the player takes: no look, and of what happens neither port nor window
abbrev pub Players : Option Asked → Type 0
Players (Some (Q.Event (E.Write o l v))) = Unit
Players (Some (Q.Event (E.Read o l))) = Unit
Players (Some (Q.Event (E.HostUpdate o m v))) = Unit
Players (Some (Q.Event E.EndSignal)) = Unit
Players (Some (Q.Event E.PlatformReset)) = Unit
Players (Some (Q.Event (E.PortWrite p w v))) = ⊥
Players (Some (Q.Event (E.PortRead p w))) = ⊥
Players (Some (Q.Event (E.InWindow e))) = ⊥
Players (Some (Q.Look k)) = ⊥
Players None = Unit
