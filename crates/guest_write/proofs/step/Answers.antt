-- A write where the bytes lie: stored, then cleared by MSAC.
use mathlib.Core.Path.{sym}
use Rattle.guest_write.proofs.Tested.{clears, clears_not, only_stores}
use Rattle.guest_write.proofs.step.Goals as goal

pub returns-then-lanes-eq1 : goal.returns-then-lanes-eq1
returns-then-lanes-eq1 c =
    let a = c.args in
    rw (c.clear.ensures, c.store.ensures) (sym (clears a.guest.now a.c a.m.now a.a.offset a.a.lanes a.value a.a.aligned c.if-o-eq-MSAC_DWORD.true c.if-lanes-eq1.true))

pub returns-else-lanes-eq1 : goal.returns-else-lanes-eq1
returns-else-lanes-eq1 c =
    let a = c.args in
    rw c.store.ensures (sym (clears_not a.guest.now a.c a.m.now a.a.offset a.a.lanes a.value a.a.aligned c.if-o-eq-MSAC_DWORD.true c.if-lanes-eq1.false))

pub returns-else-o-eq-MSAC_DWORD : goal.returns-else-o-eq-MSAC_DWORD
returns-else-o-eq-MSAC_DWORD c =
    let a = c.args in
    rw c.store.ensures (sym (only_stores a.guest.now a.c a.m.now a.a.offset a.a.lanes a.value a.a.aligned c.if-o-eq-MSAC_DWORD.false))
