-- What is read behind the kept bytes and played, and what is then kept, is one turn, and what turns come to: for any machine that answers lines.
use mathlib.Core.Path.{◌≡◌, refl, sym, ap, subst, ◌∙◌}
use mathlib.Core.List.{List, [], ◌∷◌, ◌++◌}
use Prim.Native.Nat.{ℕ, ◌+◌, ◌<◌}
use lib.Dec.{T}
use lib.ListN.{take, drop}
use lib.Seq.{take-add}
use Rattle.session.specs.Session.{Played, played, follow, play_text, last_state, all_lines, joins, after, blocks_state}
use Rattle.std.specs.Prelude.{Result, Ok, Err, IsErr}
use Rattle.session_loop.specs.declared.Heard.{Heard}
use Rattle.session_loop.specs.declared.Heard.TheVariants.{More, Over}
use Rattle.session.specs.Turn.{played_of, heard, Led}
use Rattle.session_loop.specs.Turn.{Turned}
use Rattle.session.proofs.Blocks.{after_blocks}

-- ---- results of a turn that are not the next block

pub end_is_not_more : {E : Type 0} (n : ℕ) → ◌≡◌ {A = Result Heard E} (Ok Over) (Ok (More n)) → ⊥
end_is_not_more n e = cc

pub err_is_not_more : {E : Type 0} (x : E) (n : ℕ) → ◌≡◌ {A = Result Heard E} (Err x) (Ok (More n)) → ⊥
err_is_not_more x n e = cc

-- ---- a turn

module _ {S : Type 0} (next : S → List ℕ → S) (say : S → List ℕ → List ℕ) (most : ℕ) where
  -- b is the buffer after n bytes were read behind the first k, of which nothing was said yet, and z what stands in it in the end
  pub one_turn : (s end : S) (entry b z w text : List ℕ) (k n kept : ℕ) → take k b ≡ take k entry → w ≡ [] → (rest : List ℕ) × (follow w (play_text next say s [] (take (k + n) b)) ≡ played end text rest) × (take most rest ≡ take kept z) → (x : List ℕ) × ((played_of next say most s (take k entry) x).state ≡ end) × ((played_of next say most s (take k entry) x).text ≡ text) × (take most (played_of next say most s (take k entry) x).rest ≡ take kept z)
  one_turn s end entry b z w text k n kept same empty block =
      let x : List ℕ = take n (drop k b) in
      let whole : take k entry ++ x ≡ take (k + n) b = rw (← same) (sym (take-add k n b)) in
      let p : played_of next say most s (take k entry) x ≡ played end text block.0 = ap (λ (l : List ℕ). play_text next say s [] l) whole ∙ rw empty at block.1 in
      (x, ap (λ (q : Played S). q.state) p, ap (λ (q : Played S). q.text) p, ap (λ (q : Played S). take most q.rest) p ∙ block.2)

  -- ---- turns

  abbrev at : S → List ℕ → List (List ℕ) → Played S
  at s k xs = heard next say most s k xs

  -- some blocks have led from s to t, with k kept of an unfinished line
  abbrev pub SoFar : S → S → List ℕ → Type 0
  SoFar s t k = (xs : List (List ℕ)) × ((heard next say most s [] xs).state ≡ t) × ((heard next say most s [] xs).rest ≡ k)

  pub at_first : (s : S) → SoFar s s []
  unfolding heard
  at_first s = ([], refl, refl)

  -- a block behind blocks
  behind : (xs : List (List ℕ)) (x : List ℕ) (s : S) (k : List ℕ) → ((at s k (xs ++ (x ∷ []))).state ≡ (played_of next say most (at s k xs).state (at s k xs).rest x).state) × ((at s k (xs ++ (x ∷ []))).rest ≡ take most (played_of next say most (at s k xs).state (at s k xs).rest x).rest)
  unfolding heard
  behind [] x s k = (refl, refl)
  behind (y ∷ ys) x s k = behind ys x (played_of next say most s k y).state (take most (played_of next say most s k y).rest)

  -- the end behind blocks
  ended : (xs : List (List ℕ)) (s : S) (k : List ℕ) → blocks_state next say most s k xs ≡ last_state next say (at s k xs).state (at s k xs).rest
  unfolding heard blocks_state
  ended [] s k = refl
  ended (x ∷ xs) s k = ended xs (played_of next say most s k x).state (take most (played_of next say most s k x).rest)

  -- a turn behind which more may come
  pub goes_on : (n : ℕ) (s t u : S) (k text b : List ℕ) → SoFar s t k → Turned next say most {E = ⊥} (Ok (More n)) t k u text b → SoFar s u (take n b)
  goes_on n s t u k text b f w =
      let z = behind f.0 w.0 s [] in
      (f.0 ++ (w.0 ∷ []), z.0 ∙ rw (f.1, f.2) w.1, z.1 ∙ rw (f.1, f.2) w.3)

  -- the turn that finds the input's end
  pub is_end : (s t u : S) (k text b : List ℕ) → SoFar s t k → Turned next say most {E = ⊥} (Ok Over) t k u text b → (xs : List (List ℕ)) × (blocks_state next say most s [] xs ≡ u)
  is_end s t u k text b f w = (f.0, ended f.0 s [] ∙ rw (f.1, f.2) w.0)

  -- the turn that finds the input's end, or cannot read
  pub is_over : {E : Type 0} (r : Result Heard E) (s t u : S) (k text b : List ℕ) → ((n : ℕ) → r ≡ Ok (More n) → ⊥) → SoFar s t k → Turned next say most r t k u text b → Led next say most r s u
  is_over (Ok (More n)) s t u k text b e f w = absurd (e n refl)
  is_over (Ok Over) s t u k text b e f w = is_end s t u k text b f w
  is_over (Err x) s t u k text b e f w = (f.0, f.1 ∙ w.0)

  -- where it breaks off
  pub breaks_off : {A E : Type 0} (r : Result A E) (s t : S) (k : List ℕ) → IsErr r → SoFar s t k → Led next say most r s t
  breaks_off (Ok a) s t k e f = absurd (subst T (sym e) tt)
  breaks_off (Err x) s t k e f = (f.0, f.1)

  -- behind a turn that is not the last, since its answers cannot be written
  pub breaks_off_behind : {A E : Type 0} (r : Result A E) (h : Heard) (s t u : S) (k text b : List ℕ) → IsErr r → (h ≡ Over → ⊥) → SoFar s t k → Turned next say most {E = ⊥} (Ok h) t k u text b → Led next say most r s u
  breaks_off_behind r (More n) s t u k text b i e f w = breaks_off r s u (take n b) i (goes_on n s t u k text b f w)
  breaks_off_behind r Over s t u k text b i e f w = absurd (e refl)

  -- where the first `most` bytes of a line say all, the end leaves the state after the lines of some input
  pub over_lines : 0 < most → ((s : S) (l k : List ℕ) → take most l ≡ take most k → next s l ≡ next s k) → ((s : S) (l k : List ℕ) → take most l ≡ take most k → say s l ≡ say s k) → (s u : S) → (xs : List (List ℕ)) × (blocks_state next say most s [] xs ≡ u) → (input : List ℕ) × (after next say s (all_lines input) ≡ u)
  over_lines some cut-next cut-say s u f = (joins f.0, sym (after_blocks next say most some cut-next cut-say f.0 s) ∙ f.1)

  pub stopped : {A E : Type 0} (r : Result A E) (s u : S) → IsErr r → (xs : List (List ℕ)) × ((heard next say most s [] xs).state ≡ u) → Led next say most r s u
  stopped (Ok a) s u e f = absurd (subst T (sym e) tt)
  stopped (Err x) s u e f = f
