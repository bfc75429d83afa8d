-- What a read of the lent bytes is told is what a read of the record is told.
use Rattle.std.proofs.Common.{ap, ◌∙◌}
use Rattle.answer.specs.Refusals.{Reply}
use Rattle.guest_read.proofs.Bridge.{read_is}
use Rattle.asked.specs.Asked.{answer}
use Rattle.door_told.specs.Heard.{heard_of}
use Rattle.lent.proofs.twin_read.Goals as goal

pub returns : goal.returns
returns c =
    let s = c.args.s.now in
    c.read.ensures ∙ ap (λ (r : Reply). heard_of (answer r)) (read_is s c.bytes_fit.ensures c.args.offset c.args.lanes)
