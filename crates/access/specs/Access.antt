-- An access of the dword at offset o with lanes l: which bytes it enables, and what is asked of it before it is made.
use Rattle.std.specs.Prelude.{Result, Ok, Err, Bool, not, ℕ, ◌+◌, ◌-◌, ◌/◌, ◌%◌, ◌^◌}
use Rattle.bits.specs.Bits.{bit}
use Rattle.bits.specs.Choice.{when◌then◌else◌, ◌and◌, ◌or◌, ◌is◌, ◌≤?◌, ◌<?◌}
use Rattle.answer.specs.Refusals.{Reply, fine, ok, no, LANES}
use Rattle.answer.specs.Said.{number_of}
use Rattle.answer.specs.declared.Refusal.{Refusal}

-- bit i of the lanes is for byte offset + i
unfoldable pub enabled : ℕ → ℕ → ℕ → Bool
enabled o l i = o ≤? i and i <? o + 4 and bit l (i - o) is 1

-- what the value has for byte i
unfoldable pub byte_for : ℕ → ℕ → ℕ → ℕ
byte_for o v i = v / 256 ^ (i - o) % 256

-- ---- refusals 5 and 6 of a direct access

-- the offset is above 255 or not a multiple of 4
abbrev pub bad_offset : ℕ → Bool
bad_offset o = 255 <? o or not (o % 4 is 0)

-- the lanes are above 15
abbrev pub bad_lanes : ℕ → Bool
bad_lanes l = 15 <? l

-- ---- an access with lanes l: refused with n where its offset is bad, and then for its lanes; else it is made

abbrev pub admit : {A : Type 0} → Bool → ℕ → ℕ → (ℕ → A) → A → A
admit bad n l refuse made =
    when bad then refuse n
    else when bad_lanes l then refuse LANES
    else made

abbrev pub reply_at : Bool → ℕ → ℕ → ℕ → Reply
reply_at bad n l value = admit bad n l no (ok value)

-- what the code asks first
abbrev pub admits : {A : Type 0} → Result A Refusal → Reply
admits (Ok _) = fine
admits (Err r) = no (number_of r)
