use Rattle.std.proofs.Common.{◌∙◌}
use lib.ListN.{length-set}
use Rattle.text_pieces.proofs.Hexed.{next_digit}
use Rattle.text_pieces.proofs.Text.put_hex.Goals as goal

pub loop-i-preserved : goal.loop-i-preserved
loop-i-preserved g c = record {
  so_far = next_digit c.loop-i.digits g.row.K c.loop-i.i c.args.v c.digit.result c.loop-i-test.true c.loop-i.invariant.long c.digit.ensures
      ∙ c.loop-i.invariant.so_far;
  long = simp length-set c.loop-i.invariant.long;
}
