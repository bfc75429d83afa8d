-- Every refusal's number fits 16 bits.
use Prim.Native.Nat.{◌<◌, ◌^◌}
use native.Mathlib.Omega.{arith}
use Rattle.answer.specs.Said.{number_of}
use Rattle.answer.specs.declared.Refusal.{Refusal}
use Rattle.answer.specs.declared.Refusal.TheVariants as R

pub number_fits : (r : Refusal) → number_of r < 2 ^ 16
number_fits R.Length = omega arith
number_fits R.Width = omega arith
number_fits R.NotOurs = omega arith
number_fits R.OtherFunction = omega arith
number_fits R.Offset = omega arith
number_fits R.Lanes = omega arith
number_fits R.NotHost = omega arith
number_fits R.NoRange = omega arith
number_fits R.Line = omega arith
number_fits R.Pointer = omega arith
number_fits R.Endless = omega arith
number_fits R.SheetLength = omega arith
number_fits R.SheetContents = omega arith
number_fits R.SheetBody = omega arith
number_fits R.WindowOffset = omega arith
