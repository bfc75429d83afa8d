-- The end of a function reset a byte at a time, as the code makes it; proofs/Bridge.antt shows that it comes to the rule.
use Rattle.std.specs.Prelude.{List, ℕ}
use Rattle.bits.specs.Choice.{when◌then◌else◌}
use Rattle.map.specs.Map.{resets, defaults}
use Rattle.rules.specs.declared.Flags.{Flags}
use Rattle.rules.specs.Access.{up}
use Rattle.rules.specs.Reset.{idle}
use Rattle.plain.specs.Bytes.{returned_of}

abbrev pub reset_bytes : List ℕ → List ℕ
reset_bytes m = returned_of resets defaults m

unfoldable pub end_bytes : Flags → List ℕ → List ℕ
end_bytes c m = when up c.busy then reset_bytes m else m

unfoldable pub end_flags : Flags → Flags
end_flags c = when up c.busy then idle c else c
