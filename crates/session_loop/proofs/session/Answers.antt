-- What the turns lead to.
use Rattle.std.proofs.Common.{◌≡◌, take, sym, refl, ◌∙◌, arith, Ok, Err}
use Rattle.session_loop.specs.declared.Heard.TheVariants.{More, Over}
use Rattle.session_loop.proofs.Turns.{end_is_not_more, err_is_not_more, at_first, goes_on, is_over, breaks_off, breaks_off_behind, stopped, over_lines}
use Rattle.session_loop.proofs.session.Goals as goal

pub loop-init : goal.loop-init
loop-init g c = record {
  within = omega arith;
  long = refl;
  so_far = at_first g.M.Machine.next g.M.Machine.say g.M.Machine.most _;
}

pub returns-in_err-heard-clause-led : goal.returns-in_err-heard-clause-led
returns-in_err-heard-clause-led g c =
    let l = is_over g.M.Machine.next g.M.Machine.say g.M.Machine.most (Err c.in_err-heard.field-0.0) c.args.machine.now c.loop.machine c.turn.new.machine (take c.loop.kept c.loop.buf) c.turn.new.out c.turn.new.buf (err_is_not_more c.in_err-heard.field-0.0) c.loop.invariant.so_far c.in_err-heard.ensures.turned in
    stopped g.M.Machine.next g.M.Machine.say g.M.Machine.most c.from_residual.result c.args.machine.now c.turn.new.machine c.from_residual.ensures.0 l

pub returns-in_err-n-clause-led : goal.returns-in_err-n-clause-led
returns-in_err-n-clause-led g c =
    breaks_off_behind g.M.Machine.next g.M.Machine.say g.M.Machine.most c.from_residual-in_err-n.result c.in_ok-heard.heard c.args.machine.now c.loop.machine c.turn.new.machine (take c.loop.kept c.loop.buf) c.turn.new.out c.turn.new.buf c.from_residual-in_err-n.ensures.0 c.in_err-n.ensures.end c.loop.invariant.so_far c.in_ok-heard.ensures.turned

pub returns-in-Over-clause-led : goal.returns-in-Over-clause-led
returns-in-Over-clause-led g c =
    let e : c.in_ok-heard.heard ≡ Over = sym c.in_ok-n.ensures.same ∙ c.in-Over.is in
    is_over g.M.Machine.next g.M.Machine.say g.M.Machine.most {E = ⊥} (Ok Over) c.args.machine.now c.loop.machine c.turn.new.machine (take c.loop.kept c.loop.buf) c.turn.new.out c.turn.new.buf end_is_not_more c.loop.invariant.so_far (rw e at c.in_ok-heard.ensures.turned)

pub returns-in-Over-clause-lines : goal.returns-in-Over-clause-lines
returns-in-Over-clause-lines g c =
    let m = g.met.M.Machine in
    over_lines g.M.Machine.next g.M.Machine.say g.M.Machine.most m.some m.next_alike m.say_alike c.args.machine.now c.turn.new.machine (returns-in-Over-clause-led g c)

pub loop-preserved : goal.loop-preserved
loop-preserved g c =
    let e : c.in_ok-heard.heard ≡ More c.in-More.n = sym c.in_ok-n.ensures.same ∙ c.in-More.is in
    record {
      within = rw e at c.in_ok-heard.ensures.kept.0;
      long = c.in_ok-heard.ensures.kept.1 ∙ c.loop.invariant.long;
      so_far = goes_on g.M.Machine.next g.M.Machine.say g.M.Machine.most c.in-More.n c.args.machine.now c.loop.machine c.turn.new.machine (take c.loop.kept c.loop.buf) c.turn.new.out c.turn.new.buf c.loop.invariant.so_far (rw e at c.in_ok-heard.ensures.turned);
    }

pub returns-clause-led : goal.returns-clause-led
returns-clause-led g c = breaks_off g.M.Machine.next g.M.Machine.say g.M.Machine.most {A = Unit {0}} (Err c.from.result) c.args.machine.now c.loop.machine (take c.loop.kept c.loop.buf) refl c.loop.invariant.so_far
