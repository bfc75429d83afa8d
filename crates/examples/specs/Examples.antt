-- The twelve starred examples of the paper ('Checked examples, from a fresh state', as amended: a function reset is ended, and lanes that are not enabled read FF), in its order: one table, and what a row claims.
use Rattle.std.specs.Prelude.{◌≡◌, List, [], ◌∷◌, ℕ}
use Rattle.answer.specs.Refusals.{Reply, fine, ok}
use Rattle.rules.specs.declared.State.{State}
use Rattle.rules.specs.declared.Event.{Event}
use Rattle.rules.specs.declared.Event.TheVariants.{Read, Write, EndSignal}
use Rattle.rules.specs.Events.{happens}
use Rattle.rules.specs.Fresh.{fresh_of}
use Rattle.probe.specs.Probe.{Reply as Probed, memory64, range, probe_of}

-- ---- how a row is written

-- what happens, and what is said to it
pub record Step : Type 0 where
  pub event : Event
  pub reply : Reply

infix 70 ◌gives◌
abbrev pub ◌gives◌ : Event → ℕ → Step
e gives v = record { event = e; reply = ok v }

-- a guest write is accepted: offset, lanes, value
abbrev pub W : ℕ → ℕ → ℕ → Step
W o l v = record { event = Write o l v; reply = fine }

-- the end signal
abbrev pub E : Step
E = record { event = EndSignal; reply = fine }

-- offset, lanes
abbrev pub R : ℕ → ℕ → Event
R o l = Read o l

pub data Example : Type 0 where
  -- from a fresh state
  session : List Step → Example
  -- low and high dword read back, and what the probe gives
  probe : ℕ → ℕ → Probed → Example

-- ---- the table: one row a star

unfoldable pub examples : List Example
examples =
    session (R 0x00 0xF gives 0x01528086 ∷ []) ∷
    session (W 0x04 0xF 0xFFFFFFFF ∷ R 0x04 0xF gives 0x00900407 ∷ []) ∷
    session (W 0x10 0xF 0xFFFFFFFF ∷ R 0x10 0xF gives 0xFFC00004 ∷ []) ∷
    session (W 0x18 0xF 0xFFFFFFFF ∷ R 0x18 0xF gives 0xF000000C ∷ []) ∷
    -- then: the row before, and on from there
    session (W 0x18 0xF 0xFFFFFFFF ∷ W 0x60 0x4 0x00060000 ∷ R 0x18 0xF gives 0xE000000C ∷ []) ∷
    session (W 0x60 0x4 0x00F40000 ∷ R 0x60 0x4 gives 0xFFF2FFFF ∷ []) ∷
    session (W 0x20 0xF 0xFFFFFFFF ∷ R 0x20 0xF gives 0x0000FFC1 ∷ []) ∷
    session (W 0x7C 0x8 0x01000000 ∷ R 0x34 0xF gives 0x000000D0 ∷ []) ∷
    session (W 0xD4 0x1 0x00000001 ∷ R 0xD4 0x1 gives 0xFFFFFF00 ∷ W 0xD4 0x1 3 ∷ R 0xD4 0x1 gives 0xFFFFFF03 ∷ []) ∷
    session (W 0xE8 0x2 0 ∷ W 0xE8 0xF 0x00008001 ∷ R 0xE8 0xF gives 0x00000001 ∷ []) ∷
    session (W 0x2C 0x3 0x00001234 ∷ W 0xA8 0x1 1 ∷ E ∷ W 0x2C 0x3 0x0000FFFF ∷ R 0x2C 0x3 gives 0xFFFF1234 ∷ []) ∷
    probe 0xF000000C 0xFFFFFFFF (range memory64 28) ∷
    []

-- ---- what a row claims

-- each step in turn is answered as it says
unfoldable pub Answered : State → List Step → Type 0
Answered s [] = Unit {0}
Answered s (t ∷ ts) = ((happens t.event s).reply ≡ t.reply) × Answered (happens t.event s).state ts

unfoldable pub Holds : Example → Type 0
Holds (session ts) = Answered fresh_of ts
Holds (probe low high r) = probe_of low high ≡ r

-- the claim at every row
unfoldable pub Each : (Example → Type 0) → List Example → Type 0
Each P [] = Unit {0}
Each P (r ∷ rs) = P r × Each P rs
