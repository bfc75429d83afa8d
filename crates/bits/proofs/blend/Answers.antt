-- The operators are the blend of 8 bits.
use native.Mathlib.Omega.{arith}
use Rattle.bits.proofs.Laws.{is_blend}
use Rattle.bits.proofs.blend.Goals as goal

pub returns : goal.returns
returns c = is_blend 8 c.args.mask c.args.old c.args.new (omega arith) (omega arith) (omega arith)
