-- A session, for any machine that answers lines: `next` is its state after a line, `say` its answer. The input is split at LF, and each line is played in turn.
use Rattle.std.specs.Prelude.{List, [], ◌∷◌, ◌++◌, ℕ, suc, take}
use Rattle.bits.specs.Choice.{when◌then◌else◌, ◌is◌}

abbrev pub LF : ℕ
LF = 10

-- ---- lines

-- the lines that a text completes, when l stands before it
unfoldable pub lines_of : List ℕ → List ℕ → List (List ℕ)
lines_of l [] = []
lines_of l (x ∷ xs) = when x is LF then l ∷ lines_of [] xs else lines_of (l ++ (x ∷ [])) xs

-- what stands behind the last LF
unfoldable pub rest_of : List ℕ → List ℕ → List ℕ
rest_of l [] = l
rest_of l (x ∷ xs) = when x is LF then rest_of [] xs else rest_of (l ++ (x ∷ [])) xs

-- a last line may lack its LF; where nothing stands behind the last LF there is no further line
abbrev pub last_of : List ℕ → List (List ℕ)
last_of [] = []
last_of (x ∷ xs) = (x ∷ xs) ∷ []

-- the lines of an input
abbrev pub all_lines : List ℕ → List (List ℕ)
all_lines xs = lines_of [] xs ++ last_of (rest_of [] xs)

-- how many bytes stand before the first LF
unfoldable pub run_of : List ℕ → ℕ
run_of [] = 0
run_of (x ∷ xs) = when x is LF then 0 else suc (run_of xs)

-- the blocks that an input comes in, one behind the other
abbrev pub joins : List (List ℕ) → List ℕ
joins [] = []
joins (x ∷ xs) = x ++ joins xs

-- ---- a text played: the state and the answers after its complete lines, and the unfinished line

pub record Played (S : Type 0) : Type 0 where
  pub state : S
  pub text : List ℕ
  pub rest : List ℕ

abbrev pub played : {S : Type 0} → S → List ℕ → List ℕ → Played S
played s t r = record { state = s; text = t; rest = r }

abbrev pub follow : {S : Type 0} → List ℕ → Played S → Played S
follow t p = played p.state (t ++ p.text) p.rest

module _ {S : Type 0} (next : S → List ℕ → S) (say : S → List ℕ → List ℕ) where
  -- each line answered in turn
  unfoldable pub answers : S → List (List ℕ) → List ℕ
  answers s [] = []
  answers s (l ∷ ls) = say s l ++ answers (next s l) ls

  unfoldable pub play_text : S → List ℕ → List ℕ → Played S
  play_text s l [] = played s [] l
  play_text s l (x ∷ xs) = when x is LF then follow (say s l) (play_text (next s l) [] xs) else play_text s (l ++ (x ∷ [])) xs

  -- the line that lacks its LF
  abbrev pub last_text : S → List ℕ → List ℕ
  last_text s [] = []
  last_text s (x ∷ xs) = say s (x ∷ xs)

  -- an input that comes in blocks: of the unfinished line the first `most` bytes are kept, and stand before the next block
  unfoldable pub blocks_text : ℕ → S → List ℕ → List (List ℕ) → List ℕ
  blocks_text most s k [] = last_text s k
  blocks_text most s k (x ∷ xs) = (play_text s [] (k ++ x)).text ++ blocks_text most (play_text s [] (k ++ x)).state (take most (play_text s [] (k ++ x)).rest) xs

  -- ---- the state afterwards

  -- after each line in turn
  unfoldable pub after : S → List (List ℕ) → S
  after s [] = s
  after s (l ∷ ls) = after (next s l) ls

  -- the line that lacks its LF
  abbrev pub last_state : S → List ℕ → S
  last_state s [] = s
  last_state s (x ∷ xs) = next s (x ∷ xs)

  -- after an input that comes in blocks, kept as above
  unfoldable pub blocks_state : ℕ → S → List ℕ → List (List ℕ) → S
  blocks_state most s k [] = last_state s k
  blocks_state most s k (x ∷ xs) = blocks_state most (play_text s [] (k ++ x)).state (take most (play_text s [] (k ++ x)).rest) xs
