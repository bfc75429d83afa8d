-- What a snapshot shows of an input: the 256 bytes as a guest reads them after its lines, played from the fresh state, as lspci prints them.
use Rattle.std.specs.Prelude.{◌≡◌, List, [], ℕ}
use Rattle.rules.specs.declared.State.{State}
use Rattle.rules.specs.Fresh.{fresh_of}
use Rattle.rules.specs.Read.{image_of}
use Rattle.session.specs.Session.{all_lines, after, blocks_state}
use Rattle.console_lines.specs.Console.{line_next, line_say}
use Rattle.lspci_text.specs.Dump.{dump_text}

abbrev pub snapshot_of : List ℕ → List ℕ
snapshot_of xs = dump_text (image_of (after line_next line_say fresh_of (all_lines xs)))

-- the state after some input
abbrev pub Played : State → Type 0
Played s = (xs : List ℕ) × (after line_next line_say fresh_of (all_lines xs) ≡ s)

-- the same of an input that comes in blocks
abbrev pub PlayedInBlocks : State → Type 0
PlayedInBlocks s = (xs : List (List ℕ)) × (blocks_state line_next line_say 27 fresh_of [] xs ≡ s)

-- the text that is written shows some input
abbrev pub Shown : List ℕ → Type 0
Shown text = (xs : List ℕ) × (snapshot_of xs ≡ text)
