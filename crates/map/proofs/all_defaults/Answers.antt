-- The code's defaults are the rows': antt computes them and compares.
use mathlib.Core.Path.{refl}
use Rattle.any_map.specs.Map.{row_at, defaults}
use Rattle.map.specs.Map.{rows}
use Rattle.map.proofs.all_defaults.Goals as goal

pub returns : goal.returns
unfolding rows row_at defaults
returns c = refl
