-- What is told of each kind of asking, in the paper's numbers: a line of no form, or a number of no door, is refused 9 and changes nothing; a look changes nothing.
use mathlib.Core.Path.{◌≡◌, refl}
use Rattle.std.specs.Prelude.{None, Some}
use Rattle.answer.specs.Refusals.{no}
use Rattle.rules.specs.declared.State.{State}
use Rattle.asked.specs.declared.Look.{Look}
use Rattle.asked.specs.declared.Asked.TheVariants as Q
use Rattle.asked.specs.Asked.{answer, response_of}

pub nothing_is_9 : (s : State) → response_of None s ≡ record { said = answer (no 9); state = s }
nothing_is_9 s = refl

pub looks_leave : (k : Look) (s : State) → (response_of (Some (Q.Look k)) s).state ≡ s
looks_leave k s = refl
