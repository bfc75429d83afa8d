-- Each promise fixes one answer and one state: any two results that meet it agree. A read's answer alone is fixed in the crate answer.
use mathlib.Core.Path.{◌≡◌, refl}
use mathlib.Core.List.{List}
use Prim.Native.Nat.{ℕ}
use Rattle.answer.proofs.Agree.{one_answer}
use Rattle.answer.proofs.One as A
use Rattle.host_updates.specs.Update.{Lent}
use Rattle.plain_device.specs.declared.Registers.{Registers}
use Rattle.answer.specs.declared.Stepped.{Stepped}
use Rattle.plain_device.specs.Device.{stepped}

abbrev of : List ℕ → Registers
of m = record { bytes = m }

abbrev hears : Lent → Stepped Registers
hears r = record { answer = A.hears r.reply; state = of r.bytes }

heard : (a : Stepped Registers) → hears (stepped a) ≡ a
heard a = rw (A.heard a.answer)

-- a write and a host update: whichever outcome is promised
pub one_step : {r : Lent} (p q : Stepped Registers) → stepped p ≡ r → stepped q ≡ r → p ≡ q
one_step p q e f = one_answer stepped hears heard p q e f

-- both resets say which bytes the device then holds
pub one_reset : (x : List ℕ) (p q : Registers) → p.bytes ≡ x → q.bytes ≡ x → p ≡ q
one_reset x p q = one_answer (λ (r : Registers). r.bytes) of (λ r. refl) p q
