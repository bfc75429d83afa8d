-- What is asked of an access, by example, in the paper's numbers: the offset before the lanes, and zero beside a refusal.
use mathlib.Core.Path.{◌≡◌, refl}
use mathlib.Core.Bool.{true, false}
use Rattle.answer.specs.Refusals.{fine, ok, no, OFFSET}
use Rattle.access.specs.Access.{enabled, byte_for, bad_offset, admit, reply_at}

offset_first : admit (bad_offset 0x2D) OFFSET 16 no fine ≡ no 5
offset_first = refl

past_the_bytes : admit (bad_offset 256) OFFSET 15 no fine ≡ no 5
past_the_bytes = refl

lanes_then : (admit (bad_offset 0x2C) OFFSET 16 no fine ≡ no 6) × (admit (bad_offset 0xFC) OFFSET 15 no fine ≡ fine) × (admit (bad_offset 0) OFFSET 0 no fine ≡ fine)
lanes_then = (refl, refl, refl)

refused_read : (reply_at (bad_offset 0x2D) OFFSET 15 0xFFFFFFFF ≡ no 5) × (reply_at (bad_offset 0x2C) OFFSET 15 0xFFFFFFFF ≡ ok 0xFFFFFFFF)
refused_read = (refl, refl)

-- lanes 6 are bytes 1 and 2 of the dword
lanes : (enabled 0x10 6 0x10 ≡ false) × (enabled 0x10 6 0x11 ≡ true) × (enabled 0x10 6 0x12 ≡ true) × (enabled 0x10 6 0x13 ≡ false) × (enabled 0x10 6 0x15 ≡ false)
unfolding enabled
lanes = (refl, refl, refl, refl, refl)

value_bytes : (byte_for 0x10 0x44332211 0x10 ≡ 0x11) × (byte_for 0x10 0x44332211 0x13 ≡ 0x44)
unfolding byte_for
value_bytes = (refl, refl)
