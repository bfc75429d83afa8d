-- What the turns of a program that hears lines come to, for any machine: each is one step of `blocks_text` and `blocks_state`, with the bytes k kept of an unfinished line.
use Rattle.std.specs.Prelude.{◌≡◌, List, [], ◌∷◌, ◌++◌, ℕ, take, Result, Ok, Err}
use Rattle.session.specs.Session.{Played, played, follow, play_text, blocks_state}

module _ {S : Type 0} (next : S → List ℕ → S) (say : S → List ℕ → List ℕ) (most : ℕ) where
  -- bytes x come behind those that are kept
  abbrev pub played_of : S → List ℕ → List ℕ → Played S
  played_of s k x = play_text next say s [] (k ++ x)

  -- after some blocks, while more may come: the state and the answers, and what is kept of the unfinished line
  unfoldable pub heard : S → List ℕ → List (List ℕ) → Played S
  heard s k [] = played s [] k
  heard s k (x ∷ xs) = follow (played_of s k x).text (heard (played_of s k x).state (take most (played_of s k x).rest) xs)

  -- what turns come to. Done: the state after all of some input, a last line without its LF among it. An error: a read or a write failed: after the complete lines of what was read, and no unfinished one
  abbrev pub Led : {A E : Type 0} → Result A E → S → S → Type 0
  Led (Ok a) s after = (xs : List (List ℕ)) × (blocks_state next say most s [] xs ≡ after)
  Led (Err e) s after = (xs : List (List ℕ)) × ((heard s [] xs).state ≡ after)
