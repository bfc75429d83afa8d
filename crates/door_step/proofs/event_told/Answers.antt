-- A read over the record's bytes comes to the rule, and so does the end of a function reset over bytes and flags.
use mathlib.Core.Path.{◌≡◌, ap, ◌∙◌}
use lib.ListN.{length}
use Rattle.std.proofs.Common.{rules}
use Rattle.answer.specs.Refusals.{Reply, fine}
use Rattle.rules.specs.declared.State.{State}
use Rattle.rules.specs.Events.{happens}
use Rattle.function_reset.proofs.Bridge.{end_is}
use Rattle.guest_read.proofs.Bridge.{read_is}
use Rattle.asked.specs.Asked.{answer}
use Rattle.door_told.specs.Heard.{Heard, heard_of}
use Rattle.door_write.specs.Outside.{outside}
use Rattle.door_step.proofs.event_told.Goals as goal

pub returns-in-Read : goal.returns-in-Read
unfolding happens
returns-in-Read c =
    let s = c.args.s.now in
    rw c.in-Read.is (ap (λ (h : Heard). outside h s) (c.read.ensures ∙ ap (λ (r : Reply). heard_of (answer r)) (read_is s c.bytes_fit.ensures _ _)))

pub returns-in-EndSignal : goal.returns-in-EndSignal
unfolding happens
returns-in-EndSignal c =
    let s = c.args.s.now in
    let n : length s.bytes ≡ 256 = search rules in
    rw (c.in-EndSignal.is, c.answered.ensures, c.end.ensures.m_after, c.end.ensures.c_after) (ap (λ (t : State). outside (heard_of (answer fine)) t) (end_is s n))
