-- Whatever a machine says, its state and what is kept of a line are the same: of two machines with the same `next`.
use mathlib.Core.Path.{◌≡◌, refl, sym, ◌∙◌}
use mathlib.Core.List.{List, [], ◌∷◌, ◌++◌}
use Prim.Native.Nat.{ℕ}
use native.Mathlib.Decide.{ℕ_discrete}
use borrow.Author.Tests.{eq-eqb, ne_eqb}
use lib.ListN.{take}
use Rattle.std.specs.Prelude.{Result, Ok, Err}
use Rattle.session.specs.Session.{Played, play_text, blocks_state}
use Rattle.session.specs.Turn.{heard, Led}

module _ {S : Type 0} (next : S → List ℕ → S) (say say' : S → List ℕ → List ℕ) where
  -- the same but for what is said
  abbrev pub SameButSaid : Played S → Played S → Type 0
  SameButSaid p q = (p.state ≡ q.state) × (p.rest ≡ q.rest)

  pub play_whatever_said : (xs : List ℕ) (s : S) (l : List ℕ) → SameButSaid (play_text next say s l xs) (play_text next say' s l xs)
  unfolding play_text
  play_whatever_said [] s l = (refl, refl)
  play_whatever_said (x ∷ xs) s l =
      elim (ℕ_discrete x 10) [
        | yes e ↦ rw (eq-eqb x 10 e) (play_whatever_said xs (next s l) [])
        | no ne ↦ rw (ne_eqb x 10 ne) (play_whatever_said xs s (l ++ (x ∷ [])))
      ]

  module _ (most : ℕ) where
    pub blocks_whatever_said : (xs : List (List ℕ)) (s : S) (k : List ℕ) → blocks_state next say most s k xs ≡ blocks_state next say' most s k xs
    unfolding blocks_state
    blocks_whatever_said [] s k = refl
    blocks_whatever_said (x ∷ xs) s k =
        let p = play_whatever_said (k ++ x) s [] in
        rw (p.0, p.1) (blocks_whatever_said xs (play_text next say' s [] (k ++ x)).state (take most (play_text next say' s [] (k ++ x)).rest))

    pub heard_whatever_said : (xs : List (List ℕ)) (s : S) (k : List ℕ) → SameButSaid (heard next say most s k xs) (heard next say' most s k xs)
    unfolding heard
    heard_whatever_said [] s k = (refl, refl)
    heard_whatever_said (x ∷ xs) s k =
        let p = play_whatever_said (k ++ x) s [] in
        rw (p.0, p.1) (heard_whatever_said xs (play_text next say' s [] (k ++ x)).state (take most (play_text next say' s [] (k ++ x)).rest))

    -- so what turns lead to is the same
    pub led_whatever_said : {A E : Type 0} (r : Result A E) (s u : S) → Led next say most r s u → Led next say' most r s u
    led_whatever_said (Ok a) s u f = (f.0, sym (blocks_whatever_said f.0 s []) ∙ f.1)
    led_whatever_said (Err e) s u f = (f.0, sym (heard_whatever_said f.0 s []).0 ∙ f.1)
