-- A session's bytes are those of the device's events, so demand 3's read-only clause holds of them.
use Rattle.std.specs.Prelude.{◌≡◌, List, ℕ}
use Rattle.session.specs.Session.{after}
use Rattle.plain_device.specs.declared.Tables.{Tables}
use Rattle.plain_device.specs.ReadOnly.{run, ReadOnlyAfter}
use Rattle.sheet_step.specs.Player.{events_of, line_next, line_say}

module _ (t : Tables) where
  -- the bytes after the lines of a session, from the defaults
  abbrev pub bytes_after : List (List ℕ) → List ℕ
  bytes_after ls = after (line_next t) (line_say t) t.defaults ls

  -- 1. They are what the run of the lines' events leaves.
  abbrev pub Runs : Type 0
  Runs = (ls : List (List ℕ)) → bytes_after ls ≡ run t (events_of ls)

  -- 2. Read-only bits hold their default, or what the last accepted host update since the last platform reset that masked them gave. (Read-only: no guest mask has the bit.)
  abbrev pub ReadOnly : Type 0
  ReadOnly = (ls : List (List ℕ)) → ReadOnlyAfter t (events_of ls) (bytes_after ls)
