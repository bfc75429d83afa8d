-- A quoted text as its bytes, and a letter as its byte.
use mathlib.Core.List as L
use Rattle.std.specs.Prelude.{ℕ}
use Prim.Native.Char.{code}
use Prim.Native.String.{String, [], ◌∷◌}

abbrev pub ascii : String → L.List ℕ
ascii [] = L.[]
ascii (c ∷ s) = L.◌∷◌ (code c) (ascii s)

-- the byte of the first letter
abbrev pub letter : String → ℕ
letter [] = 0
letter (c ∷ s) = code c
