-- A machine over lent bytes that answers lines: the session player, or a sheet's. proofs/Player.antt and proofs/Sheet.antt show that each comes to its rules.
use Rattle.std.specs.Prelude.{List, Bool, ℕ}
use Rattle.bits.specs.Choice.{when◌then◌else◌}
use Rattle.rules.specs.declared.Flags.{Flags}
use Rattle.guest_write.specs.Bytes.{Lent, lent}
use Rattle.host_updates.specs.Update as U
use Rattle.text_answer.specs.Text.{reply_text}
use Rattle.player_step.specs.Ask.{asked_of}
use Rattle.player_step.specs.Player.{asks}
use Rattle.sheet_step.specs.Ask.{meant_of}
use Rattle.sheet_step.specs.Player.{means}

-- whose lines it takes, and the four tables, which stay; bytes and flags, which change
pub record Box : Type 0 where
  pub sheet : Bool
  pub defaults : List ℕ
  pub guests : List ℕ
  pub hosts : List ℕ
  pub resets : List ℕ
  pub bytes : List ℕ
  pub flags : Flags

abbrev pub box : Bool → List ℕ → List ℕ → List ℕ → List ℕ → List ℕ → Flags → Box
box s d g h r m c = record { sheet = s; defaults = d; guests = g; hosts = h; resets = r; bytes = m; flags = c }

abbrev pub with : Box → List ℕ → Flags → Box
with b m c = box b.sheet b.defaults b.guests b.hosts b.resets m c

-- a sheet's device has no flags: they stay
abbrev pub beside : Flags → U.Lent → Lent
beside c r = lent r.reply r.bytes c

abbrev pub answer_in : Box → List ℕ → Lent
answer_in b l =
    when b.sheet then beside b.flags (meant_of b.defaults b.guests b.hosts b.resets b.bytes (means l))
    else asked_of b.guests b.hosts b.bytes b.flags (asks l)

abbrev pub line_box : Box → List ℕ → Box
line_box b l = with b (answer_in b l).bytes (answer_in b l).flags

abbrev pub line_text : Box → List ℕ → List ℕ
line_text b l = reply_text (answer_in b l).reply
