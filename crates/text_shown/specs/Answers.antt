-- The text of the console's answers: the player's, and those of claims, probes and walks.
use Rattle.std.specs.Prelude.{List, [], ◌++◌, ℕ}
use Rattle.bits.specs.Choice.{when◌then◌else◌, ◌is◌}
use Rattle.rules.specs.Claims.{Claimed, unclaimed, claimed, Window, translation, aperture, io}
use Rattle.probe.specs.Probe as P
use Rattle.text_answer.specs.Text.{no_text, reply_text}
use Rattle.asked.specs.Asked.{Said, answer, claim, range, item}
use Rattle.line_forms.specs.Ascii.{ascii}
use Rattle.line_forms.specs.Hex.{hex_of}
use Rattle.text_pieces.specs.Pieces.{end}
use Rattle.text_walk.specs.Walk.{walk_text}

-- `OK NONE`
abbrev pub none_text : List ℕ
none_text = ascii "OK NONE\n"

-- `OK TRANSLATION `, `OK APERTURE `, `OK IO `
abbrev pub window_text : Window → List ℕ
window_text translation = ascii "OK TRANSLATION "
window_text aperture = ascii "OK APERTURE "
window_text io = ascii "OK IO "

-- a claim: the window and the offset inside, or none
abbrev pub claim_text : Claimed → List ℕ
claim_text unclaimed = none_text
claim_text (claimed w o) = window_text w ++ (hex_of 8 o ++ end)

-- `OK IO `, `OK MEM32 `, `OK MEM64 `
abbrev pub kind_text : P.Kind → List ℕ
kind_text P.none = []
kind_text P.io = ascii "OK IO "
kind_text P.memory32 = ascii "OK MEM32 "
kind_text P.memory64 = ascii "OK MEM64 "

-- a probe: the kind and the exponent, or `NO 8`
abbrev pub probe_text : P.Reply → List ℕ
probe_text r = when r.number is 0 then kind_text r.kind ++ (hex_of 2 r.exponent ++ end) else no_text r.number

-- whatever is told
unfoldable pub said_text : Said → List ℕ
said_text (answer r) = reply_text r
said_text (claim c) = claim_text c
said_text (range r) = probe_text r
said_text (item r) = walk_text r
