-- The flags after a write: each field by its dword and lanes, busy by AFCTL's bit.
use Rattle.map.specs.Class.{svid2, sid2, swsci15}
use Rattle.rules.specs.Guest.{flags_after}
use Rattle.guest_write.proofs.Tested.{closed_is, busy_is}
use Rattle.guest_write.proofs.raises.Goals as goal

pub returns : goal.returns
unfolding flags_after
returns c =
    let a = c.args in
    rw (c.raise-4.ensures, c.raise-3.ensures, c.raise-2.ensures, c.raise.ensures, closed_is svid2 a.c.svid2 a.a.offset a.a.lanes a.a.within a.a.aligned a.a.laned, closed_is sid2 a.c.sid2 a.a.offset a.a.lanes a.a.within a.a.aligned a.a.laned, closed_is swsci15 a.c.swsci15 a.a.offset a.a.lanes a.a.within a.a.aligned a.a.laned, busy_is a.c.busy a.a.offset a.a.lanes a.value a.a.aligned)
