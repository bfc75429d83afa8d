-- A search for LF finds where a line ends.
use Rattle.std.proofs.Common.{◌≡◌, ℕ, zero, suc, ◌<◌, true, false, List, [], ◌∷◌, length, refl, ap, arith}
use native.Mathlib.Decide.{ℕ_discrete}
use borrow.Author.Tests.{eq-eqb, ne_eqb}
use Rattle.memchr.specs.Find.{Nowhere, Passes, is_byte}
use Rattle.session.specs.Session.{LF, run_of}

goes_on : (x : ℕ) → (is_byte LF x ≡ true → ⊥) → is_byte LF x ≡ false
goes_on x n = elim (ℕ_discrete x LF) [ yes e ↦ absurd (n (eq-eqb x LF e)) | no ne ↦ ne_eqb x LF ne ]

-- at the first LF
pub at_the_first : (s : List ℕ) (k : ℕ) → k < length s → Passes (is_byte LF) s k → Nowhere (Passes (is_byte LF) s) 0 k → run_of s ≡ k
unfolding run_of
at_the_first [] k h e n = absurd (omega arith)
at_the_first (x ∷ s) zero h e n = rw e
at_the_first (x ∷ s) (suc k) h e n =
    rw (goes_on x (n 0 (omega arith) (omega arith))) (ap suc (at_the_first s k (omega arith) e (λ j a b. n (suc j) (omega arith) (omega arith))))

-- or at the end of the text, where it has none
pub at_the_end : (s : List ℕ) → Nowhere (Passes (is_byte LF) s) 0 (length s) → run_of s ≡ length s
unfolding run_of
at_the_end [] n = refl
at_the_end (x ∷ s) n = rw (goes_on x (n 0 (omega arith) (omega arith))) (ap suc (at_the_end s (λ j a b. n (suc j) (omega arith) (omega arith))))
