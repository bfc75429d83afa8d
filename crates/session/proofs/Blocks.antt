-- A session in blocks, for any machine that needs only the first `most` bytes of a line: whatever the blocks, the answers are those of the lines of the whole input.
use mathlib.Core.Path.{◌≡◌, refl, sym, ap, ◌∙◌}
use mathlib.Core.List.{List, [], ◌∷◌, ◌++◌, append-nil, append_assoc}
use Prim.Native.Nat.{ℕ, zero, suc, ◌<◌, ◌≤◌}
use native.Mathlib.Omega.{arith}
use native.Mathlib.Decide.{ℕ_discrete}
use borrow.Author.Tests.{eq-eqb, ne_eqb}
use lib.ListN.{length, take}
use lib.Seq.{take-take}
use Rattle.session.specs.Session.{run_of, lines_of, rest_of, last_of, all_lines, joins, Played, follow, answers, play_text, last_text, blocks_text, after, last_state, blocks_state}
use Rattle.session.specs.Turn.{heard}
use Rattle.session.proofs.Text.{no_line, in_two}

-- ---- lists

take_snoc : (n : ℕ) (l m : List ℕ) → take n (take n l ++ m) ≡ take n (l ++ m)
take_snoc zero l m = refl
take_snoc (suc n) [] m = refl
take_snoc (suc n) (x ∷ l) m = ap {B = List ℕ} (λ (t : List ℕ). x ∷ t) (take_snoc n l m)

-- a line has no LF in it
abbrev Clean : List ℕ → Type 0
Clean l = length l ≤ run_of l

clean_snoc : (l : List ℕ) (y : ℕ) → (y ≡ 10 → ⊥) → Clean l → Clean (l ++ (y ∷ []))
unfolding run_of
clean_snoc [] y n h = rw (ne_eqb y 10 n) (omega arith)
clean_snoc (x ∷ l) y n h =
    elim (ℕ_discrete x 10) [
      | yes e ↦ absurd (omega (arith, rw (eq-eqb x 10 e) at h))
      | no ne ↦ rw (ne_eqb x 10 ne) (omega (arith, clean_snoc l y n (omega (arith, rw (ne_eqb x 10 ne) at h))))
    ]

clean_take : (n : ℕ) (l : List ℕ) → Clean l → Clean (take n l)
unfolding run_of
clean_take zero l h = omega arith
clean_take (suc n) [] h = h
clean_take (suc n) (x ∷ l) h =
    elim (ℕ_discrete x 10) [
      | yes e ↦ absurd (omega (arith, rw (eq-eqb x 10 e) at h))
      | no ne ↦ rw (ne_eqb x 10 ne) (omega (arith, clean_take n l (omega (arith, rw (ne_eqb x 10 ne) at h))))
    ]

module _ {S : Type 0} (next : S → List ℕ → S) (say : S → List ℕ → List ℕ) where
  abbrev play : S → List ℕ → List ℕ → Played S
  play s l xs = play_text next say s l xs

  -- the answers of a text, and of the line that lacks its LF, are those of the lines
  pub lines_answered : (xs : List ℕ) (s : S) (l : List ℕ) → answers next say s (lines_of l xs ++ last_of (rest_of l xs)) ≡ (play s l xs).text ++ last_text next say (play s l xs).state (play s l xs).rest
  unfolding lines_of rest_of answers play_text
  lines_answered [] s [] = refl
  lines_answered [] s (y ∷ l) = rw (append-nil (say s (y ∷ l)))
  lines_answered (x ∷ xs) s l =
      elim (ℕ_discrete x 10) [
        | yes e ↦ rw (eq-eqb x 10 e, lines_answered xs (next s l) [], append_assoc (say s l) (play (next s l) [] xs).text (last_text next say (play (next s l) [] xs).state (play (next s l) [] xs).rest))
        | no ne ↦ rw (ne_eqb x 10 ne) (lines_answered xs s (l ++ (x ∷ [])))
      ]

  -- and the state is the one after the lines
  pub lines_played : (xs : List ℕ) (s : S) (l : List ℕ) → after next say s (lines_of l xs ++ last_of (rest_of l xs)) ≡ last_state next say (play s l xs).state (play s l xs).rest
  unfolding lines_of rest_of after play_text
  lines_played [] s [] = refl
  lines_played [] s (y ∷ l) = refl
  lines_played (x ∷ xs) s l =
      elim (ℕ_discrete x 10) [
        | yes e ↦ rw (eq-eqb x 10 e) (lines_played xs (next s l) [])
        | no ne ↦ rw (ne_eqb x 10 ne) (lines_played xs s (l ++ (x ∷ [])))
      ]

  -- lines behind lines
  pub in_turn : (ks ls : List (List ℕ)) (s : S) → after next say s (ks ++ ls) ≡ after next say (after next say s ks) ls
  unfolding after
  in_turn [] ls s = refl
  in_turn (k ∷ ks) ls s = in_turn ks ls (next s k)

  -- the complete lines of a text, and the last line
  pub complete_lines : (xs : List ℕ) (s : S) (l : List ℕ) → after next say s (lines_of l xs) ≡ (play s l xs).state
  unfolding lines_of after play_text
  complete_lines [] s l = refl
  complete_lines (x ∷ xs) s l =
      elim (ℕ_discrete x 10) [
        | yes e ↦ rw (eq-eqb x 10 e) (complete_lines xs (next s l) [])
        | no ne ↦ rw (ne_eqb x 10 ne) (complete_lines xs s (l ++ (x ∷ [])))
      ]

  pub last_played : (s : S) (k : List ℕ) → after next say s (last_of k) ≡ last_state next say s k
  unfolding after
  last_played s [] = refl
  last_played s (x ∷ k) = refl

  -- an unfinished line may stand before the next block, as it does in the buffer
  carried : (l ys : List ℕ) (s : S) → Clean l → play s [] (l ++ ys) ≡ play s l ys
  carried l ys s h = in_two next say l ys s [] ∙ rw (no_line next say l s [] h)

  clean_rest : (xs : List ℕ) (s : S) (l : List ℕ) → Clean l → Clean (play s l xs).rest
  unfolding play_text
  clean_rest [] s l h = h
  clean_rest (x ∷ xs) s l h =
      elim (ℕ_discrete x 10) [
        | yes e ↦ rw (eq-eqb x 10 e) (clean_rest xs (next s l) [] (omega arith))
        | no ne ↦ rw (ne_eqb x 10 ne) (clean_rest xs s (l ++ (x ∷ [])) (clean_snoc l x ne h))
      ]

  -- ---- where the first `most` bytes of a line say all

  module _ (most : ℕ) (some : 0 < most) (cut-next : (s : S) (l k : List ℕ) → take most l ≡ take most k → next s l ≡ next s k) (cut-say : (s : S) (l k : List ℕ) → take most l ≡ take most k → say s l ≡ say s k) where
    abbrev Alike : Played S → Played S → Type 0
    Alike p q = (p.state ≡ q.state) × (p.text ≡ q.text) × (take most p.rest ≡ take most q.rest)

    -- two unfinished lines that begin alike: the same state and answers
    cut : (ys : List ℕ) (s : S) (l k : List ℕ) → take most l ≡ take most k → Alike (play s l ys) (play s k ys)
    unfolding play_text
    cut [] s l k e = (refl, refl, e)
    cut (x ∷ ys) s l k e =
        elim (ℕ_discrete x 10) [
          | yes q ↦ rw (eq-eqb x 10 q, cut-next s l k e, cut-say s l k e) (refl, refl, refl)
          | no ne ↦ rw (ne_eqb x 10 ne) (cut ys s (l ++ (x ∷ [])) (k ++ (x ∷ [])) (sym (take_snoc most l (x ∷ [])) ∙ rw e (take_snoc most k (x ∷ []))))
        ]

    both_empty : (n : ℕ) (x : ℕ) (l : List ℕ) → 0 < n → [] ≡ take n (x ∷ l) → ⊥
    both_empty zero x l h e = omega arith
    both_empty (suc n) x l h e = let z : ◌≡◌ {A = ℕ} 0 (suc (length (take n l))) = ap length e in omega arith

    take_none : (n : ℕ) → take {A = ℕ} n [] ≡ []
    take_none zero = refl
    take_none (suc n) = refl

    last_alike : (s : S) (l k : List ℕ) → take most l ≡ take most k → (last_state next say s l ≡ last_state next say s k) × (last_text next say s l ≡ last_text next say s k)
    last_alike s [] [] e = (refl, refl)
    last_alike s [] (y ∷ k) e = absurd (both_empty most y k some (sym (take_none most) ∙ e))
    last_alike s (x ∷ l) [] e = absurd (both_empty most x l some (sym (e ∙ take_none most)))
    last_alike s (x ∷ l) (y ∷ k) e = (cut-next s (x ∷ l) (y ∷ k) e, cut-say s (x ∷ l) (y ∷ k) e)

    -- what a text comes to in the end, its last line included
    abbrev ended : Played S → List ℕ
    ended p = p.text ++ last_text next say p.state p.rest

    follow_ended : (t : List ℕ) (p : Played S) → t ++ ended p ≡ ended (follow t p)
    follow_ended t p = sym (append_assoc t p.text (last_text next say p.state p.rest))

    -- what is kept of the unfinished line serves for the next block
    next_block : (x : List ℕ) (s : S) (l k : List ℕ) → take most l ≡ take most k → Clean k → Alike (play s l x) (play s [] (k ++ x)) × (take most (play s l x).rest ≡ take most (take most (play s [] (k ++ x)).rest)) × Clean (take most (play s [] (k ++ x)).rest)
    next_block x s l k e h =
        let a = cut x s l k e in
        rw (carried k x s h) (a, a.2 ∙ sym (take-take most most (play s k x).rest (omega arith)), clean_take most (play s k x).rest (clean_rest x s k h))

    whole : (xs : List (List ℕ)) (s : S) (l k : List ℕ) → take most l ≡ take most k → Clean k → (blocks_state next say most s k xs ≡ last_state next say (play s l (joins xs)).state (play s l (joins xs)).rest) × (blocks_text next say most s k xs ≡ ended (play s l (joins xs)))
    unfolding blocks_text blocks_state play_text
    whole [] s l k e h = let z = last_alike s l k e in (sym z.0, sym z.1)
    whole (x ∷ xs) s l k e h =
        let b = next_block x s l k e h in
        let a = b.0 in
        let w = whole xs (play s [] (k ++ x)).state (play s l x).rest (take most (play s [] (k ++ x)).rest) b.1 b.2 in
        rw (in_two next say x (joins xs) s l, a.0, a.1) (
          w.0,
          ap {B = List ℕ} (λ (t : List ℕ). (play s [] (k ++ x)).text ++ t) w.1 ∙ follow_ended (play s [] (k ++ x)).text (play (play s [] (k ++ x)).state (play s l x).rest (joins xs)),
        )

    -- whatever the blocks, the answers are those of the lines of the whole input
    pub in_blocks : (xs : List (List ℕ)) (s : S) → blocks_text next say most s [] xs ≡ answers next say s (all_lines (joins xs))
    in_blocks xs s = (whole xs s [] [] refl (omega arith)).1 ∙ sym (lines_answered (joins xs) s [])

    -- and the state is the one after them
    pub after_blocks : (xs : List (List ℕ)) (s : S) → blocks_state next say most s [] xs ≡ after next say s (all_lines (joins xs))
    after_blocks xs s = (whole xs s [] [] refl (omega arith)).0 ∙ sym (lines_played (joins xs) s [])

    -- and while more may come, the one after the lines that are complete
    complete : (xs : List (List ℕ)) (s : S) (l k : List ℕ) → take most l ≡ take most k → Clean k → (heard next say most s k xs).state ≡ (play s l (joins xs)).state
    unfolding heard play_text
    complete [] s l k e h = refl
    complete (x ∷ xs) s l k e h =
        let b = next_block x s l k e h in
        rw (in_two next say x (joins xs) s l, b.0.0) (complete xs (play s [] (k ++ x)).state (play s l x).rest (take most (play s [] (k ++ x)).rest) b.1 b.2)

    pub heard_lines : (xs : List (List ℕ)) (s : S) → (heard next say most s [] xs).state ≡ after next say s (lines_of [] (joins xs))
    heard_lines xs s = complete xs s [] [] refl (omega arith) ∙ sym (complete_lines (joins xs) s [])
