-- The one law of history, for any machine: a bit that each event gives anew or leaves holds what the last event that gave it anything gave.
-- What an event gives may depend on what the events before it tell (x). A reset is no special case: it is an event that gives the bit of the state that it starts from.
use mathlib.Core.Path.{◌≡◌, refl, ap, ◌∙◌}
use mathlib.Core.List.{List, [], ◌∷◌}
use Prim.Native.Nat.{ℕ}
use native.Mathlib.Omega.{arith}
use Rattle.past.specs.Past.{Given, nothing, given, ◌or_else◌, or_held, ran, last_given, retold}

-- a machine, and what its events tell
module _ {E S X : Type 0} (next : E → S → S) (tell : E → X → X) (seen_of : S → X) (tells : (e : E) (s : S) → seen_of (next e s) ≡ tell e (seen_of s)) where
  -- the state tells what the events tell
  pub seen_run : (es : List E) (s : S) → seen_of (ran next s es) ≡ ran tell (seen_of s) es
  unfolding ran
  seen_run [] s = refl
  seen_run (e ∷ es) s = seen_run es (next e s) ∙ ap (λ (x : X). ran tell x es) (tells e s)

  -- B: the bit. Fit x: where x is told, the bit is of the kind spoken of; only an event that gives it something can make it so
  module _ (B : S → ℕ) (gives : X → E → Given) (Fit : X → Type 0)
      (stays : (e : E) (x : X) → gives x e ≡ nothing → Fit (tell e x) → Fit x)
      (event : (e : E) (s : S) → Fit (tell e (seen_of s)) → B (next e s) ≡ or_held (gives (seen_of s) e) (B s)) where
    fit_before : (es : List E) (x : X) → last_given tell gives x es ≡ nothing → Fit (ran tell x es) → Fit x
    unfolding ran last_given
    fit_before [] x n f = f
    fit_before (e ∷ es) x n f = go (last_given tell gives (tell e x) es) n (λ q. fit_before es (tell e x) q f) refl
      where
        go : (g : Given) → g or_else gives x e ≡ nothing → (last_given tell gives (tell e x) es ≡ nothing → Fit (tell e x)) → last_given tell gives (tell e x) es ≡ g → Fit x
        go nothing n ih q = stays e x n (ih q)
        go (given y) n ih q =
            let z : ◌≡◌ {A = ℕ} 0 1 = cc in
            absurd (omega arith)

    pub history : (es : List E) (s : S) → Fit (ran tell (seen_of s) es) → B (ran next s es) ≡ or_held (last_given tell gives (seen_of s) es) (B s)
    unfolding ran last_given
    history [] s f = refl
    history (e ∷ es) s f = go (last_given tell gives (tell e (seen_of s)) es) refl (rw (tells e s) at (history es (next e s) (rw (tells e s) f)))
      where
        go : (g : Given) → last_given tell gives (tell e (seen_of s)) es ≡ g → B (ran next (next e s) es) ≡ or_held (last_given tell gives (tell e (seen_of s)) es) (B (next e s)) → B (ran next (next e s) es) ≡ or_held (g or_else gives (seen_of s) e) (B s)
        go nothing q ih = ih ∙ ap (λ (g : Given). or_held g (B (next e s))) q ∙ event e s (fit_before es (tell e (seen_of s)) q f)
        go (given y) q ih = ih ∙ ap (λ (g : Given). or_held g (B (next e s))) q

-- a machine whose every event comes to a deed of another, by what was told before it: its runs are that machine's
module _ {E S X D C : Type 0} (next : E → S → S) (tell : E → X → X) (seen_of : S → X) (tells : (e : E) (s : S) → seen_of (next e s) ≡ tell e (seen_of s)) (perform : D → C → C) (core : S → C) (word : X → E → D) (comes : (e : E) (s : S) → core (next e s) ≡ perform (word (seen_of s) e) (core s)) where
  pub run_retold : (es : List E) (s : S) → core (ran next s es) ≡ ran perform (core s) (retold tell word (seen_of s) es)
  unfolding ran retold
  run_retold [] s = refl
  run_retold (e ∷ es) s = run_retold es (next e s) ∙ rw (tells e s, comes e s)
