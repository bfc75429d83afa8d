-- Laws of lines in a text, for any machine: where a line ends, one line played, one block after another.
use mathlib.Core.Path.{◌≡◌, refl, sym, ◌∙◌}
use mathlib.Core.List.{List, [], ◌∷◌, ◌++◌, append-nil, append_assoc}
use Prim.Native.Nat.{ℕ, zero, suc, ◌+◌, ◌-◌, ◌<◌, ◌≤◌}
use native.Mathlib.Omega.{arith}
use native.Mathlib.Nat.{suc-add, add_comm}
use native.Mathlib.Numerals.{add-one}
use native.Mathlib.Decide.{ℕ_discrete}
use borrow.Author.Tests.{eq-eqb, ne_eqb}
use lib.ListN.{length, take, drop, set, get_or, length-drop}
use lib.Seq.{drop-drop, get_or-drop, take-suc, take-suc-set, drop-set-lt}
use Rattle.session.specs.Session.{LF, run_of, Played, played, follow, play_text}

-- ---- where the line from i ends

pub run_here : (s : List ℕ) (i : ℕ) → i < length s → get_or s i 0 ≡ LF → run_of (drop i s) ≡ 0
unfolding run_of
run_here [] i h e = absurd (omega arith)
run_here (x ∷ s) zero h e = rw (eq-eqb x 10 e)
run_here (x ∷ s) (suc i) h e = run_here s i (omega arith) e

pub run_on : (s : List ℕ) (i : ℕ) → i < length s → (get_or s i 0 ≡ LF → ⊥) → run_of (drop i s) ≡ suc (run_of (drop (i + 1) s))
unfolding run_of
run_on [] i h e = absurd (omega arith)
run_on (x ∷ s) zero h e = rw (ne_eqb x 10 e)
run_on (x ∷ s) (suc i) h e = rw suc-add (run_on s i (omega arith) e)

pub run_end : (s : List ℕ) (i : ℕ) → length s ≤ i → run_of (drop i s) ≡ 0
unfolding run_of
run_end [] zero h = refl
run_end [] (suc i) h = refl
run_end (x ∷ s) zero h = absurd (omega arith)
run_end (x ∷ s) (suc i) h = run_end s i (omega arith)

-- ---- a text played

module _ {S : Type 0} (next : S → List ℕ → S) (say : S → List ℕ → List ℕ) where
  abbrev play : S → List ℕ → List ℕ → Played S
  play s l xs = play_text next say s l xs

  -- a text with no LF only adds to the line
  pub no_line : (ys : List ℕ) (s : S) (l : List ℕ) → length ys ≤ run_of ys → play s l ys ≡ played s [] (l ++ ys)
  unfolding run_of play_text
  no_line [] s l h = rw (append-nil l)
  no_line (x ∷ ys) s l h =
      elim (ℕ_discrete x 10) [
        | yes e ↦ absurd (omega (arith, rw (eq-eqb x 10 e) at h))
        | no ne ↦ rw (ne_eqb x 10 ne) (no_line ys s (l ++ (x ∷ [])) (omega (arith, rw (ne_eqb x 10 ne) at h)) ∙ rw (append_assoc l (x ∷ []) ys))
      ]

  -- a text with an LF: the line is played, and then what follows
  pub one_line : (ys : List ℕ) (s : S) (l : List ℕ) → run_of ys < length ys → play s l ys ≡ follow (say s (l ++ take (run_of ys) ys)) (play (next s (l ++ take (run_of ys) ys)) [] (drop (suc (run_of ys)) ys))
  unfolding run_of play_text
  one_line [] s l h = absurd (omega arith)
  one_line (x ∷ ys) s l h =
      elim (ℕ_discrete x 10) [
        | yes e ↦ rw (eq-eqb x 10 e, append-nil l)
        | no ne ↦ rw (ne_eqb x 10 ne) (one_line ys s (l ++ (x ∷ [])) (omega (arith, rw (ne_eqb x 10 ne) at h)) ∙ rw (append_assoc l (x ∷ []) (take (run_of ys) ys)))
      ]

  -- one text after another
  pub in_two : (xs ys : List ℕ) (s : S) (l : List ℕ) → play s l (xs ++ ys) ≡ follow (play s l xs).text (play (play s l xs).state (play s l xs).rest ys)
  unfolding play_text
  in_two [] ys s l = refl
  in_two (x ∷ xs) ys s l =
      elim (ℕ_discrete x 10) [
        | yes e ↦ rw (eq-eqb x 10 e) (rw (in_two xs ys (next s l) []) (rw (append_assoc (say s l) (play (next s l) [] xs).text (play (play (next s l) [] xs).state (play (next s l) [] xs).rest ys).text)))
        | no ne ↦ rw (ne_eqb x 10 ne) (in_two xs ys s (l ++ (x ∷ [])))
      ]

  -- one turn of a loop over lines: the line from a ends at e
  pub steps : (t : List ℕ) (s s' : S) (a e : ℕ) (p : Played S) (w w' : List ℕ) → e ≡ a + run_of (drop a t) → e < length t → p ≡ follow w (play s [] (drop a t)) → s' ≡ next s (take (e - a) (drop a t)) → w' ≡ w ++ say s (take (e - a) (drop a t)) → p ≡ follow w' (play s' [] (drop (e + 1) t))
  steps t s s' a e p w w' he hl hp hs hw =
      let r1 : e - a ≡ run_of (drop a t) = omega (arith, he) in
      let h : run_of (drop a t) < length (drop a t) = rw (length-drop a t) (omega (arith, he)) in
      let z : a + suc (run_of (drop a t)) ≡ e + 1 = omega (arith, he) in
      let q : drop (suc (run_of (drop a t))) (drop a t) ≡ drop (e + 1) t = drop-drop (suc (run_of (drop a t))) a t ∙ rw z in
      hp ∙ rw (hs, hw, r1, ← q, one_line (drop a t) s [] h, append_assoc)

  -- its end: what is left has no LF
  pub ends : (t : List ℕ) (s : S) (a : ℕ) (p : Played S) (w : List ℕ) → length t ≤ a + run_of (drop a t) → p ≡ follow w (play s [] (drop a t)) → p ≡ played s w (drop a t)
  ends t s a p w hl hp =
      let h : length (drop a t) ≤ run_of (drop a t) = rw (length-drop a t) (omega (arith, hl)) in
      hp ∙ rw (no_line (drop a t) s [] h, append-nil w)

-- ---- one byte of the unfinished line is moved to the front: behind it all is as it was

pub moved : (S s₀ : List ℕ) (i from : ℕ) → i < length S → from + i < length s₀ → drop i S ≡ drop i s₀ → take i S ≡ take i (drop from s₀) → (take (i + 1) (set S i (get_or S (from + i) 0)) ≡ take (i + 1) (drop from s₀)) × (drop (i + 1) (set S i (get_or S (from + i) 0)) ≡ drop (i + 1) s₀)
moved S s₀ i from h g ed et =
    let v : get_or S (from + i) 0 ≡ get_or s₀ (from + i) 0 = rw (add_comm from i) (sym (get_or-drop i S from 0) ∙ rw ed (get_or-drop i s₀ from 0)) in
    let k : i < length (drop from s₀) = rw (length-drop from s₀) (omega arith) in (
      rw (add-one, take-suc-set S i (get_or S (from + i) 0) h, et, take-suc (drop from s₀) i 0 k, get_or-drop from s₀ i 0, v),
      drop-set-lt (i + 1) S i (get_or S (from + i) 0) (omega arith) ∙ sym (drop-drop 1 i S) ∙ rw ed (drop-drop 1 i s₀),
    )
