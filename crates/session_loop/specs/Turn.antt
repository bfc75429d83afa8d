-- One turn of a session, for any machine, with the bytes k kept of an unfinished line: one step of `blocks_text` and `blocks_state`.
use Rattle.std.specs.Prelude.{◌≡◌, List, [], ℕ, ◌≤◌, take, Result, Ok, Err}
use Rattle.session.specs.Session.{last_text, last_state}
use Rattle.session.specs.Turn.{played_of}
use Rattle.session_loop.specs.declared.Heard.{Heard}
use Rattle.session_loop.specs.declared.Heard.TheVariants.{More, Over}

-- of an unfinished line at most so many bytes are kept
abbrev pub Kept : ℕ → Heard → Type 0
Kept most (More n) = n ≤ most
Kept most Over = Unit {0}

-- the input has ended: the line k, which lacks its LF, is played, where there is one
abbrev pub Ended : {S : Type 0} → (S → List ℕ → S) → (S → List ℕ → List ℕ) → S → List ℕ → S → List ℕ → Type 0
Ended next say s k after text = (last_state next say s k ≡ after) × (last_text next say s k ≡ text)

module _ {S : Type 0} (next : S → List ℕ → S) (say : S → List ℕ → List ℕ) (most : ℕ) where
  -- one turn. More: bytes were read, the lines that they complete are played, and the first `most` bytes of the unfinished line are kept, at the start of the buffer b.
  -- Over: the input has ended, and the last line is played. An error: the read failed, and nothing is played
  abbrev pub Turned : {E : Type 0} → Result Heard E → S → List ℕ → S → List ℕ → List ℕ → Type 0
  Turned (Ok (More n)) s k after text b = (x : List ℕ) × ((played_of next say most s k x).state ≡ after) × ((played_of next say most s k x).text ≡ text) × (take most (played_of next say most s k x).rest ≡ take n b)
  Turned (Ok Over) s k after text b = Ended next say s k after text
  Turned (Err e) s k after text b = (s ≡ after) × ([] ≡ text)
