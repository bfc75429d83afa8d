-- The probe's promise fixes its answer: what is said of one can be heard again.
use mathlib.Core.Path.{◌≡◌, refl}
use Prim.Native.Nat.{ℕ}
use Rattle.answer.proofs.Agree.{one_answer}
use Rattle.std.specs.Prelude.{Option, None, Some}
use Rattle.probe.specs.declared.Range.{Range}
use Rattle.probe.specs.declared.Range.TheVariants.{Io, Memory32, Memory64}
use Rattle.probe.specs.Probe.{Kind, none, io, memory32, memory64, Reply, probe_of, probe_says}

abbrev answers : Kind → ℕ → Option Range
answers none e = None
answers io e = Some (Io e)
answers memory32 e = Some (Memory32 e)
answers memory64 e = Some (Memory64 e)

-- the answer of which a reply is said
abbrev pub probe_hears : Reply → Option Range
probe_hears r = answers r.kind r.exponent

pub heard : (p : Option Range) → probe_hears (probe_says p) ≡ p
heard (Some (Io e)) = refl
heard (Some (Memory32 e)) = refl
heard (Some (Memory64 e)) = refl
heard None = refl

-- any two answers that meet the promise agree
pub one_probe : (low high : ℕ) (p q : Option Range) → probe_says p ≡ probe_of low high → probe_says q ≡ probe_of low high → p ≡ q
one_probe low high = one_answer probe_says probe_hears heard
