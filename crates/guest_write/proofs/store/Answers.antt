-- The four bytes of a dword, each under the guest bits that a write reaches.
use mathlib.Core.Path.{refl}
use Rattle.guest_write.specs.Bytes.{stored_bytes}
use Rattle.guest_write.proofs.store.Goals as goal

pub returns : goal.returns
unfolding stored_bytes
returns c = rw (c.store.ensures, c.reach-k3.ensures, c.reach-k2.ensures, c.reach-k1.ensures, c.reach-k0.ensures, c.to_le_bytes-w.ensures) refl
