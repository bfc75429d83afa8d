-- The size probe ('Claims, probe, walk').
use Rattle.std.specs.Prelude.{Option, None, Some, ℕ, ◌+◌, ◌*◌, ◌/◌, ◌^◌}
use Rattle.std.specs.Int.Count.{count_trailing_zeros}
use Rattle.bits.specs.Bits.{bit, field}
use Rattle.bits.specs.Choice.{when◌then◌else◌, ◌is◌}
use Rattle.answer.specs.Refusals.{NO_RANGE}
use Rattle.probe.specs.declared.Range.{Range}
use Rattle.probe.specs.declared.Range.TheVariants.{Io, Memory32, Memory64}

-- ---- what a probe gives

pub data Kind : Type 0 where
  none io memory32 memory64 : Kind

pub record Reply : Type 0 where
  pub number : ℕ
  pub kind : Kind
  pub exponent : ℕ

abbrev pub range : Kind → ℕ → Reply
range k e = record { number = 0; kind = k; exponent = e }

abbrev pub refused : Reply
refused = record { number = NO_RANGE; kind = none; exponent = 0 }

-- the paper's number and values of each answer
abbrev pub probe_says : Option Range → Reply
probe_says (Some (Io e)) = range io e
probe_says (Some (Memory32 e)) = range memory32 e
probe_says (Some (Memory64 e)) = range memory64 e
probe_says None = refused

-- ---- the rule

-- bits from b up count; the others are taken as 0
abbrev pub counted_from : ℕ → ℕ → ℕ
counted_from b x = x / 2 ^ b * 2 ^ b

-- the size is 2 to the number of zero bits below the lowest one that counts; refusal 8 where no counted bit is 1
abbrev pub ranged : Kind → ℕ → ℕ → Reply
ranged k width m = when m is 0 then refused else range k (count_trailing_zeros width m)

unfoldable pub probe_of : ℕ → ℕ → Reply
probe_of low high =
    when bit low 0 is 1 then ranged io 32 (counted_from 2 low)
    else when field low 2 0 is 0 then ranged memory32 32 (counted_from 4 low)
    else when field low 2 0 is 4 then ranged memory64 64 (counted_from 4 (high * 2 ^ 32 + low))
    else refused
