-- The code's host masks are the classes': antt computes them and compares.
use mathlib.Core.Path.{refl}
use Rattle.bits.specs.Bits.{number_of}
use Rattle.any_map.specs.Map.{row_at, class_at, table_of}
use Rattle.map.specs.Map.{rows}
use Rattle.map.proofs.all_hosts.Goals as goal

pub returns : goal.returns
unfolding number_of rows row_at class_at table_of
returns c = refl
