-- What is heard of each kind of answer, once more, by example: what the header of the library says.
use mathlib.Core.Path.{◌≡◌, refl}
use Rattle.answer.specs.Refusals.{fine, ok, no}
use Rattle.rules.specs.Claims.{translation, aperture, io, unclaimed, claimed}
use Rattle.probe.specs.Probe as P
use Rattle.walk.specs.Walk as W
use Rattle.asked.specs.Asked.{answer, claim, range, item}
use Rattle.door_told.specs.Heard.{heard, heard_of}

-- ---- an access: the refusal's number in bits 63:48, the dword in bits 31:0

accepted_write_lem : heard_of (answer fine) ≡ heard 0
unfolding heard_of
accepted_write_lem = refl

accepted_read : heard_of (answer (ok 0xFFFFFFFF)) ≡ heard 0x00000000FFFFFFFF
unfolding heard_of
accepted_read = refl

refused_offset : heard_of (answer (no 5)) ≡ heard 0x0005000000000000
unfolding heard_of
refused_offset = refl

-- ---- a claim: the window in bits 47:32, the offset inside in bits 31:0

claims_none : heard_of (claim unclaimed) ≡ heard 0
unfolding heard_of
claims_none = refl

claims_translation : heard_of (claim (claimed translation 0x4094)) ≡ heard 0x0000000100004094
unfolding heard_of
claims_translation = refl

claims_aperture : heard_of (claim (claimed aperture 0)) ≡ heard 0x0000000200000000
unfolding heard_of
claims_aperture = refl

claims_io : heard_of (claim (claimed io 0x3F)) ≡ heard 0x000000030000003F
unfolding heard_of
claims_io = refl

-- ---- a size probe: the kind in bits 47:32, the exponent in bits 31:0

range_io : heard_of (range (P.range P.io 6)) ≡ heard 0x0000000100000006
unfolding heard_of
range_io = refl

range_memory32 : heard_of (range (P.range P.memory32 20)) ≡ heard 0x0000000200000014
unfolding heard_of
range_memory32 = refl

range_memory64 : heard_of (range (P.range P.memory64 28)) ≡ heard 0x000000030000001C
unfolding heard_of
range_memory64 = refl

no_range : heard_of (range P.refused) ≡ heard 0x0008000000000000
unfolding heard_of
no_range = refl

-- ---- a walk: bit 40 set where the item is found, its offset in bits 39:32, the count in bits 31:0, beside a refusal too

found : heard_of (item (W.found_at 0xD0 2)) ≡ heard 0x000001D000000002
unfolding heard_of
found = refl

absent : heard_of (item (W.absent 3)) ≡ heard 3
unfolding heard_of
absent = refl

endless : heard_of (item (W.refused 11 48)) ≡ heard 0x000B000000000030
unfolding heard_of
endless = refl
