-- w bytes of a dword, from byte a, as the code takes them.
use Rattle.std.specs.Prelude.{◌≡◌, ◌⊎◌, ℕ, ◌/◌, ◌%◌, ◌^◌}

-- the three widths of a port access
abbrev pub Width : ℕ → Type 0
Width w = (w ≡ 1) ⊎ ((w ≡ 2) ⊎ (w ≡ 4))

abbrev pub part_of : ℕ → ℕ → ℕ → ℕ
part_of d a w = d / 256 ^ a % 256 ^ w
