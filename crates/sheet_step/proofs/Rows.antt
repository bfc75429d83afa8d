-- A session on a small device, computed: its answers and its bytes, as W-201 and 'The session player' have them.
use mathlib.Core.Path.{◌≡◌, refl}
use mathlib.Core.List.{List, [], ◌∷◌, ◌++◌}
use Prim.Native.Nat.{ℕ}
use Rattle.bits.specs.Bits.{number_of}
use Rattle.bits.specs.Places.{from}
use Rattle.access.specs.Access.{enabled, byte_for}
use Rattle.line_forms.specs.Ascii.{ascii}
use Rattle.line_forms.specs.Hex.{up_of, hex_of}
use Rattle.line_forms.specs.Read.{digit_of, hex_from, field_of, columns_of, numbers_by, numbers_of, asks_of, read_by}
use Rattle.text_answer.specs.Text.{ok_text, no_text, value_text, reply_text}
use Rattle.session.specs.Session.{lines_of, rest_of, all_lines, answers, after}
use Rattle.plain_device.specs.declared.Tables.{Tables}
use Rattle.plain_device.specs.Device.{read_of, write_of, host_of, function_reset_of, happens}
use Rattle.sheet_step.specs.Player.{sheet_player_of}
use Rattle.sheet_step.specs.Events.{bytes_after}

-- one register of two bytes at 00: byte 00 is the guest's, and a function reset returns its low half; of byte 01 the low half is the guest's and the high half the host's, and none is reset
abbrev small : Tables
small = record {
  defaults = 0x34 ∷ 0x12 ∷ [];
  guests = 0xFF ∷ 0x0F ∷ [];
  hosts = 0x00 ∷ 0xF0 ∷ [];
  resets = 0x0F ∷ 0x00 ∷ [];
}

-- two bytes, and no other is listed
abbrev two : ℕ → ℕ → List ℕ
two a b = a ∷ b ∷ from 254 (λ (i : ℕ). 0) 2

abbrev before_z : List ℕ
before_z = ascii "R 00 F\nW 00 F FFFFABCD\nH 01 F0 A0\nR 00 3\n"

-- refused: a host update outside the host mask, an offset, an end signal, which a sheet's device has not, a lower-case letter, a `Z` with more behind it, an empty line
abbrev refused : List ℕ
refused = ascii "H 01 0F 00\nR 01 F\nE\nz\nZ \n\n"

pub record Played : Type 0 where
  pub said : sheet_player_of small (before_z ++ (ascii "Z\nR 00 F\n" ++ (refused ++ ascii "R 00 F\nP\nR 00 F\nW 00 1 FFFFFF56"))) ≡ ascii "OK 00001234\nOK\nOK\nOK FFFFABCD\nOK\nOK 0000ABC4\nNO 7\nNO 5\nNO 9\nNO 9\nNO 9\nNO 9\nOK 0000ABC4\nOK\nOK 00001234\nOK\n"
  -- the bytes
  pub before : bytes_after small (all_lines before_z) ≡ two 0xCD 0xAB
  pub reset : bytes_after small (all_lines (before_z ++ ascii "Z\n")) ≡ two 0xC4 0xAB
  pub kept : bytes_after small (all_lines (before_z ++ (ascii "Z\n" ++ refused))) ≡ two 0xC4 0xAB
  pub anew : bytes_after small (all_lines (before_z ++ ascii "Z\nP\nW 00 1 FFFFFF56")) ≡ two 0x56 0x12

pub played : Played
unfolding number_of enabled byte_for up_of hex_of digit_of hex_from field_of columns_of numbers_by numbers_of asks_of read_by ok_text no_text value_text reply_text lines_of rest_of answers after read_of write_of host_of function_reset_of happens
played = record { said = refl; before = refl; reset = refl; kept = refl; anew = refl }
