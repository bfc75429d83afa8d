-- The operators are the blend of 32 bits.
use native.Mathlib.Omega.{arith}
use Rattle.bits.proofs.Laws.{is_blend}
use Rattle.bits.proofs.blend32.Goals as goal

pub returns : goal.returns
returns c = is_blend 32 c.args.mask c.args.old c.args.new (omega arith) (omega arith) (omega arith)
