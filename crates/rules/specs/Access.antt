-- What a state holds, and what an entry that changes it gives.
use Rattle.std.specs.Prelude.{List, Bool, not, ℕ, get_or}
use Rattle.bits.specs.Choice.{◌is◌}
use Rattle.answer.specs.Refusals.{Reply, fine, no}
use Rattle.access.specs.Access.{admit}
use Rattle.rules.specs.declared.State.{State}
use Rattle.rules.specs.declared.Flags.{Flags}

-- the state with other bytes and flags
abbrev pub holding : State → List ℕ → Flags → State
holding s m c = record { bytes = m; latch = s.latch; flags = c; window = s.window }

abbrev pub byte : State → ℕ → ℕ
byte s i = get_or s.bytes i 0

-- a flag is up: any number but 0
abbrev pub up : ℕ → Bool
up flag = not (flag is 0)

-- a function reset is under way
abbrev pub busy : State → Bool
busy s = up s.flags.busy

-- ---- what is said, and the state afterwards

pub record Outcome : Type 0 where
  pub reply : Reply
  pub state : State

abbrev pub done : State → Outcome
done s = record { reply = fine; state = s }

-- a refusal leaves the state unchanged
abbrev pub refused : ℕ → State → Outcome
refused n s = record { reply = no n; state = s }

-- an access with lanes l: refused, or made
abbrev pub outcome_at : Bool → ℕ → ℕ → State → State → Outcome
outcome_at bad n l s after = admit bad n l (λ (n : ℕ). refused n s) (done after)
