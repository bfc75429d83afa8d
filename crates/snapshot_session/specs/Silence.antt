-- What a silent console says.
use Rattle.std.specs.Prelude.{◌≡◌, List, [], ℕ, take, refl}
use Rattle.rules.specs.declared.State.{State}

abbrev pub silence : State → List ℕ → List ℕ
silence s l = []

pub silence_alike : (s : State) (l k : List ℕ) → take 27 l ≡ take 27 k → silence s l ≡ silence s k
silence_alike s l k e = refl
