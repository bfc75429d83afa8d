-- The one door to every operation: what is heard outside, and the state afterwards.
use Rattle.std.specs.Prelude.{ℕ}
use Rattle.rules.specs.declared.State.{State}
use Rattle.asked.specs.Asked.{response_of}
use Rattle.door_table.specs.Door.{doors, asked_at}
use Rattle.door_write.specs.Outside.{Outside, outside_of}

unfoldable pub door_of : State → ℕ → ℕ → ℕ → ℕ → Outside
door_of s op a b c = outside_of (response_of (asked_at doors op a b c) s)
