-- A promise of the form `says r ≡ x` fixes the answer r, where what is said can be heard again.
use mathlib.Core.Path.{◌≡◌, sym, ap, ◌∙◌}

module _ {A B : Type 0} (says : A → B) (hears : B → A) (heard : (a : A) → hears (says a) ≡ a) where
  -- any two results that meet the promise agree
  pub one_answer : {x : B} (p q : A) → says p ≡ x → says q ≡ x → p ≡ q
  one_answer p q e f = sym (heard p) ∙ ap hears (e ∙ sym f) ∙ heard q
