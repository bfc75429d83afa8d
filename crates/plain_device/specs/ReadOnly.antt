-- Demand 3's read-only clause for a plain device: over every sequence of guest accesses, host updates, function resets and platform resets.
use Rattle.std.specs.Prelude.{◌≡◌, List, false, ℕ, ◌<◌}
use Rattle.plain.specs.Plain.{under, held, update_gives}
use Rattle.past.specs.Past.{Given, nothing, given, or_held, ran, last_given}
use Rattle.plain_device.specs.declared.Tables.{Tables}
use Rattle.plain_device.specs.declared.Event.{Event}
use Rattle.plain_device.specs.declared.Event.TheVariants.{Read, Write, HostUpdate, FunctionReset, PlatformReset}
use Rattle.plain_device.specs.Device.{happens}

module _ (t : Tables) where
  -- the bytes that an event leaves
  abbrev pub next : Event → List ℕ → List ℕ
  next e m = (happens t e m).bytes

  -- a run starts from the defaults
  abbrev pub run : List Event → List ℕ
  run es = ran next t.defaults es

  -- what an event gives bit j of byte i: an accepted host update that masks it its bit, a platform reset the default
  unfoldable pub gives : ℕ → ℕ → Event → Given
  gives i j (Read o l) = nothing
  gives i j (Write o l v) = nothing
  gives i j (HostUpdate o k v) = update_gives (under t.hosts) o k v i j
  gives i j FunctionReset = nothing
  gives i j PlatformReset = given (held t.defaults i j)

  -- the last that was given
  abbrev pub last_update : ℕ → ℕ → List Event → Given
  last_update i j es = last_given (λ (e : Event) (x : Unit {0}). x) (λ (x : Unit {0}). gives i j) tt es

  -- no reset mask has a bit outside the guest mask: what a sheet is checked for
  abbrev pub Inside : Type 0
  Inside = (i j : ℕ) → i < 256 → j < 8 → under t.guests i j ≡ false → under t.resets i j ≡ false

  -- of the bytes m after events es: a bit that no guest mask has holds its default, or what the last accepted host update since then that masked it gave
  abbrev pub ReadOnlyAfter : List Event → List ℕ → Type 0
  ReadOnlyAfter es m = (i j : ℕ) → i < 256 → j < 8 → under t.guests i j ≡ false → held m i j ≡ or_held (last_update i j es) (held t.defaults i j)

  abbrev pub ReadOnly : Type 0
  ReadOnly = (es : List Event) → ReadOnlyAfter es (run es)
