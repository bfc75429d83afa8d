-- While a function reset is under way, in every state: what a guest reads, that its writes are dropped, and that nothing is claimed; and that an end signal changes nothing when none is.
use mathlib.Core.Path.{◌≡◌, refl}
use mathlib.Core.Bool.{Bool, true, false, not}
use lib.Dec.{eqb}
use Rattle.bits.specs.Bits.{bit}
use Rattle.bits.specs.Choice.{pick, either}
use Rattle.bits.proofs.Below.{pick_has}
use Rattle.answer.specs.Refusals.{WIDTH, NOT_OURS, OTHER_FUNCTION}
use Rattle.map.specs.Registers.{PCICMD2}
use Rattle.rules.specs.declared.State.{State}
use Rattle.rules.specs.Access.{byte, done, refused}
use Rattle.access.specs.Access.{bad_offset, bad_lanes}
use Rattle.rules.specs.Guest.{step_of}
use Rattle.rules.specs.Read.{read_bit, read_value, read_of}
use Rattle.rules.specs.Reset.{end_of}
use Rattle.rules.specs.Ports.{bad_width, not_ours, other_function, here, port_value, port_write_of}
use Rattle.rules.specs.Claims.{Claimed, unclaimed, memory_claim_of, io_claim_of}
use Rattle.rules.specs.Demand3.{Ones, Dropped, Unclaimed, Unended}
use Rattle.rules.proofs.EachBit.{write_state}

pub reads_ones : Ones
unfolding read_of read_value port_value read_bit
reads_ones s e = (λ o l. rw e, λ i w. rw e)

pub drops_writes : Dropped
unfolding step_of port_write_of
drops_writes s e = (
  λ o l v. rw (write_state s o l v, e) (pick_has (λ (t : State). t ≡ s) (not (either (bad_offset o) (bad_lanes l))) s s refl refl),
  λ p w v n. rw (e, n) (go (bad_width w) (not_ours s.latch p w) (other_function here s.latch)),
)
  where
    go : (a b c : Bool) → (pick a (refused WIDTH s) (pick b (refused NOT_OURS s) (pick c (refused OTHER_FUNCTION s) (done s)))).state ≡ s
    go true b c = refl
    go false true c = refl
    go false false true = refl
    go false false false = refl

pub claims_nothing : Unclaimed
unfolding memory_claim_of io_claim_of
claims_nothing s a e = (rw e (none (eqb (bit (byte s PCICMD2) 1) 0)), rw e (none (eqb (bit (byte s PCICMD2) 0) 0)))
  where
    none : (b : Bool) → pick b unclaimed unclaimed ≡ unclaimed
    none b = pick_has (λ (x : Claimed). x ≡ unclaimed) b unclaimed unclaimed refl refl

pub no_end : Unended
unfolding end_of
no_end s e = rw e
