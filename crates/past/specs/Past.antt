-- Any machine: what a run of events leaves, what the events so far tell, and what the last of them that gives a bit anything gave.
use Rattle.std.specs.Prelude.{List, [], ◌∷◌, ℕ}

-- what an event gives a bit, if anything
pub data Given : Type 0 where
  nothing : Given
  given : ℕ → Given

infixr 20 ◌or_else◌
abbrev pub ◌or_else◌ : Given → Given → Given
nothing or_else b = b
(given x) or_else b = given x

-- the bit that was given; x where none was
abbrev pub or_held : Given → ℕ → ℕ
or_held nothing x = x
or_held (given y) x = y

-- one after another: of a state by `next`, of what is told by `tell`
module _ {E S : Type 0} (next : E → S → S) where
  unfoldable pub ran : S → List E → S
  ran s [] = s
  ran s (e ∷ es) = ran (next e s) es

-- what an event gives may depend on what the events before it told
module _ {E X : Type 0} (tell : E → X → X) where
  unfoldable pub last_given : (X → E → Given) → X → List E → Given
  last_given gives x [] = nothing
  last_given gives x (e ∷ es) = last_given gives (tell e x) es or_else gives x e

  -- the events in other words, each by what was told before it
  unfoldable pub retold : {D : Type 0} → (X → E → D) → X → List E → List D
  retold word x [] = []
  retold word x (e ∷ es) = word x e ∷ retold word (tell e x) es
