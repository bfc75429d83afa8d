-- A register sheet: the twin of a plain device, from a file. The contents come first, then the bodies.
use Rattle.std.specs.Prelude.{List, Bool, not, ℕ, zero, suc, ◌+◌, ◌*◌, ◌/◌, length, get_or, take, drop}
use Rattle.bits.specs.Bits.{bit}
use Rattle.bits.specs.Choice.{◌and◌, ◌is◌, ◌≤?◌, all_below, any_below}

-- byte i; 0 past the end
abbrev pub at : List ℕ → ℕ → ℕ
at s i = get_or s i 0

-- ---- the contents: byte 0 is the number n of entries; then n entries of four bytes

abbrev pub entries : List ℕ → ℕ
entries s = at s 0

-- how long the contents are
abbrev pub contents : List ℕ → ℕ
contents s = 4 * entries s + 1

-- entry k, counted from 0: config offset, length, and body start as two bytes, low first
abbrev pub offset_of : List ℕ → ℕ → ℕ
offset_of s k = at s (4 * k + 1)

abbrev pub length_of : List ℕ → ℕ → ℕ
length_of s k = at s (4 * k + 2)

abbrev pub start_of : List ℕ → ℕ → ℕ
start_of s k = at s (4 * k + 3) + at s (4 * k + 4) * 256

-- where the register before entry k ends; nothing stands before the first
unfoldable pub end_before : List ℕ → ℕ → ℕ
end_before s zero = 0
end_before s (suc k) = offset_of s k + length_of s k

-- where the body of entry k belongs: behind the contents and the bodies before it, in order without gaps
unfoldable pub belongs : List ℕ → ℕ → ℕ
belongs s zero = contents s
belongs s (suc k) = belongs s k + 4 * length_of s k

-- ---- a body of 4L bytes: L default, L guest mask, L host mask, L function-reset mask

abbrev pub body_of : List ℕ → ℕ → List ℕ
body_of s k = take (4 * length_of s k) (drop (start_of s k) s)

-- its parts, by number
abbrev pub DEFAULT : ℕ
DEFAULT = 0

abbrev pub GUEST : ℕ
GUEST = 1

abbrev pub HOST : ℕ
HOST = 2

abbrev pub RESET : ℕ
RESET = 3

-- byte t of part p of a body
abbrev pub part_of : List ℕ → ℕ → ℕ → ℕ
part_of b p t = at b (p * (length b / 4) + t)

-- a guest and a host mask share a bit
abbrev pub shares : ℕ → ℕ → Bool
shares guest host = any_below 8 (λ (j : ℕ). bit guest j is 1 and bit host j is 1)

-- a reset mask has a bit outside the guest mask
abbrev pub strays : ℕ → ℕ → Bool
strays reset guest = any_below 8 (λ (j : ℕ). bit reset j is 1 and not (bit guest j is 1))

-- ---- a sheet is well-formed

abbrev pub good_count : ℕ → Bool
good_count n = 1 ≤? n and n ≤? 64

abbrev pub good_length : ℕ → Bool
good_length l = 1 ≤? l and l ≤? 8

-- entries ascend, registers don't overlap or pass byte 255, and the body starts where it belongs
unfoldable pub good_entry : List ℕ → ℕ → Bool
good_entry s k =
    good_length (length_of s k)
    and end_before s k ≤? offset_of s k
    and offset_of s k + length_of s k ≤? 256
    and start_of s k is belongs s k

-- guest and host masks share no bit, and the reset mask lies inside the guest mask
unfoldable pub good_body : List ℕ → Bool
good_body b = all_below (length b / 4) (λ (t : ℕ). not (shares (part_of b GUEST t) (part_of b HOST t)) and not (strays (part_of b RESET t) (part_of b GUEST t)))

unfoldable pub good_sheet : List ℕ → Bool
good_sheet s =
    good_count (entries s)
    and all_below (entries s) (good_entry s)
    and length s is belongs s (entries s)
    and all_below (entries s) (λ (k : ℕ). good_body (body_of s k))
