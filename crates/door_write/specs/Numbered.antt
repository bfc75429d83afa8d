-- A guest write for the lent record: of what is said the number alone, and what is left.
use Rattle.std.specs.Prelude.{ℕ}
use Rattle.answer.specs.Refusals as R
use Rattle.rules.specs.declared.State.{State}
use Rattle.rules.specs.Access.{Outcome}
use Rattle.door_write.specs.declared.Numbered.{Numbered}

-- the refusal's number, or 0, and the state afterwards
abbrev pub leaves : ℕ → State → Numbered
leaves n s = record { number = n; state = s }

abbrev pub numbered : Outcome → Numbered
numbered o = leaves (R.number o.reply) o.state
