-- What a caller outside is told, in one 64-bit number: a refusal's number, 0 where it is accepted, and a value.
use Rattle.std.specs.Prelude.{ℕ, ◌+◌, ◌*◌, ◌/◌, ◌%◌, ◌^◌}
use Rattle.bits.specs.Choice.{mark}
use Rattle.answer.specs.Refusals as R
use Rattle.rules.specs.Claims.{Window, translation, aperture, io, Claimed, unclaimed, claimed}
use Rattle.probe.specs.Probe as P
use Rattle.walk.specs.Walk as W
use Rattle.asked.specs.Asked.{Said, answer, claim, range, item}
use Rattle.door_told.specs.declared.Parts.{Parts}

pub record Heard : Type 0 where
  pub number : ℕ
  pub value : ℕ

-- of the 64-bit number: bits 63:48 are the number, bits 47:0 the value
abbrev pub heard : ℕ → Heard
heard r = record { number = r / 2 ^ 48; value = r % 2 ^ 48 }

abbrev pub refused : ℕ → ℕ → Heard
refused n v = record { number = n; value = v }

abbrev pub accepted : ℕ → Heard
accepted v = refused 0 v

-- ---- of each kind of answer; an access has its dword in bits 31:0

-- a claim: the window in bits 47:32, 0 for none, and the offset inside in bits 31:0
abbrev pub window_number : Window → ℕ
window_number translation = 1
window_number aperture = 2
window_number io = 3

abbrev pub claim_heard : Claimed → Heard
claim_heard unclaimed = accepted 0
claim_heard (claimed w o) = accepted (window_number w * 2 ^ 32 + o)

-- a probe: the kind in bits 47:32, and the exponent in bits 31:0
abbrev pub kind_number : P.Kind → ℕ
kind_number P.none = 0
kind_number P.io = 1
kind_number P.memory32 = 2
kind_number P.memory64 = 3

abbrev pub range_heard : P.Reply → Heard
range_heard r = record { number = r.number; value = kind_number r.kind * 2 ^ 32 + r.exponent }

-- a walk: bit 40 is set where the item is found, bits 39:32 are its offset, bits 31:0 the count; the count stands beside a refusal too, the one exception to zero
abbrev pub item_heard : W.Reply → Heard
item_heard r = record { number = r.number; value = (mark r.found * 256 + r.offset) * 2 ^ 32 + r.count }

unfoldable pub heard_of : Said → Heard
heard_of (answer r) = record { number = R.number r; value = R.value r }
heard_of (claim c) = claim_heard c
heard_of (range r) = range_heard r
heard_of (item r) = item_heard r

-- ---- of the code's record

abbrev pub parts : Parts → Heard
parts p = record { number = p.number; value = p.high * 2 ^ 32 + p.low }
