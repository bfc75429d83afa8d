-- The door's numbers as a table: a number, which arguments it takes, and what it asks.
use Rattle.std.specs.Prelude.{Option, None, Some, Bool, true, List, [], ◌∷◌, ℕ, ◌+◌, ◌*◌, ◌^◌}
use Rattle.bits.specs.Choice.{when◌then◌else◌, ◌and◌, ◌is◌, ◌≤?◌}
use Rattle.rules.specs.declared.Event.TheVariants as E
use Rattle.rules.specs.declared.WindowEvent.{WindowEvent}
use Rattle.rules.specs.declared.WindowEvent.TheVariants as W
use Rattle.asked.specs.declared.Asked.{Asked}
use Rattle.asked.specs.declared.Asked.TheVariants as Q
use Rattle.asked.specs.declared.Look.TheVariants as L

pub record Door : Type 0 where
  pub number : ℕ
  pub takes : ℕ → ℕ → ℕ → Bool
  pub asks : ℕ → ℕ → ℕ → Asked

abbrev door : ℕ → (ℕ → ℕ → ℕ → Bool) → (ℕ → ℕ → ℕ → Asked) → Door
door n t f = record { number = n; takes = t; asks = f }

abbrev any : ℕ → ℕ → ℕ → Bool
any a b c = true

-- a port has 16 bits
abbrev port : ℕ → ℕ → ℕ → Bool
port a b c = a ≤? 65535

-- an ID is a byte
abbrev id : ℕ → ℕ → ℕ → Bool
id a b c = a ≤? 255

-- a host update's mask and value are bytes
abbrev masked : ℕ → ℕ → ℕ → Bool
masked a b c = b ≤? 255 and c ≤? 255

abbrev in_window : WindowEvent → Asked
in_window e = Q.Event (E.InWindow e)

-- arguments that an operation has no use for have no say
abbrev pub doors : List Door
doors =
    door 0 any (λ _ _ _. Q.Event E.PlatformReset)
    ∷ door 1 any (λ a b c. Q.Event (E.Write a b c))
    ∷ door 2 any (λ a b _. Q.Event (E.Read a b))
    ∷ door 3 masked (λ a b c. Q.Event (E.HostUpdate a b c))
    ∷ door 4 port (λ a b c. Q.Event (E.PortWrite a b c))
    ∷ door 5 port (λ a b _. Q.Event (E.PortRead a b))
    ∷ door 6 any (λ a b _. Q.Look (L.Memory (b * 2 ^ 32 + a)))
    ∷ door 7 port (λ a _ _. Q.Look (L.Port a))
    ∷ door 8 any (λ a b _. Q.Look (L.Probe a b))
    ∷ door 9 id (λ a _ _. Q.Look (L.Walk a))
    ∷ door 10 any (λ _ _ _. Q.Event E.EndSignal)
    ∷ door 11 any (λ a b c. in_window (W.WindowWrite a b c))
    ∷ door 12 any (λ a b _. in_window (W.WindowRead a b))
    ∷ door 13 any (λ a _ _. in_window (W.Complete a))
    ∷ door 14 any (λ a _ _. in_window (W.Fault a))
    ∷ door 15 any (λ a _ _. in_window (W.AddCycles a))
    ∷ door 16 any (λ a b c. in_window (W.MirrorUpdate a b c))
    ∷ []

-- what the operation of that number asks; an argument that it does not take, or a number of no door, asks nothing
abbrev pub asked_at : List Door → ℕ → ℕ → ℕ → ℕ → Option Asked
asked_at [] op a b c = None
asked_at (d ∷ ds) op a b c =
    when op is d.number then (when d.takes a b c then Some (d.asks a b c) else None)
    else asked_at ds op a b c
