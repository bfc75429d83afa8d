-- What a line asks, by any table: each statement of specs/Exactly.antt.
use mathlib.Core.Path.{◌≡◌, refl, sym, ◌∙◌}
use mathlib.Core.Bool.{true}
use mathlib.Core.List.{List, [], ◌∷◌, ◌++◌}
use mathlib.Core.Logic.{◌⊎◌, inl, inr, ⊎_elim}
use Prim.Native.Nat.{ℕ, suc, ◌<◌}
use native.Mathlib.Omega.{arith}
use borrow.Author.Tests.{ne_eqb, leb-true}
use lib.ListN.{length}
use Rattle.bits.proofs.Places.{first_say_all}
use Rattle.std.specs.Prelude.{Option, None, Some}
use Rattle.line_forms.specs.Table.{Form, find, field_form, form_of, length_of, all_rows, apart, within}
use Rattle.line_forms.specs.Read.{at, columns, columns_of, numbers_of, numbers_by, asks_of, asked, read_by}
use Rattle.line_forms.specs.Exactly.{In, here, there, Spelt, Every, Formed, OnlyForms, Exactly, NoneExactly, Alike, AsksOnly}
use Rattle.line_forms.proofs.Rows.{is_in, named, each, found}
use Rattle.line_forms.proofs.Forms.{numbers_say, numbers_read}

-- an empty line begins with no letter
none_first : (l : List ℕ) → length l ≡ 0 → at l 0 ≡ 0
none_first [] e = refl
none_first (x ∷ l) e = absurd (omega arith)

-- what holds of a row, before what holds of the others: how a proof of `Every` is written
infixr 20 ◌&◌
pub ◌&◌ : {P Q : Type 0} → P → Q → P × Q
p & q = (p, q)

module _ {A : Type 0} (nothing : A) where
  asked_none : (n : Option (ℕ × ℕ × ℕ)) → asked nothing None n ≡ nothing
  unfolding asks_of
  asked_none None = refl
  asked_none (Some n) = refl

  -- ---- what the code finds: no letter, no numbers, or numbers

  pub read_empty : (t : List (Form A)) (l : List ℕ) → find 0 t ≡ None → length l ≡ 0 → nothing ≡ read_by nothing t l
  unfolding read_by
  read_empty t l e n = rw (none_first l n, e) (sym (asked_none (numbers_by l (columns_of {A = A} None))))

  pub read_bad : (t : List (Form A)) (l : List ℕ) → numbers_by l (columns_of (find (at l 0) t)) ≡ None → nothing ≡ read_by nothing t l
  unfolding read_by
  read_bad t l e = rw e

  pub read_values : (t : List (Form A)) (l : List ℕ) (x y z : ℕ) → numbers_by l (columns_of (find (at l 0) t)) ≡ Some (x, y, z) → asks_of nothing (find (at l 0) t) x y z ≡ read_by nothing t l
  unfolding read_by
  read_values t l x y z e = rw e

  -- ---- the form of a row is read as what it asks

  pub formed : (t : List (Form A)) → apart t ≡ true → Formed nothing t
  unfolding read_by form_of columns_of numbers_by asks_of
  formed t a r x y z i h = rw (found r t a i, numbers_read (r.name ∷ (field_form r.a x ++ (field_form r.b y ++ field_form r.c z))) r x y z h refl)

  -- ---- a line asks nothing, or is of the form of a row

  module _ (t : List (Form A)) (l : List ℕ) where
    by_row : (r : Form A) (n : Option (ℕ × ℕ × ℕ)) → find (at l 0) t ≡ Some r → numbers_of l (columns r) ≡ n → (asked nothing (Some r) n ≡ nothing) ⊎ Spelt t l (asked nothing (Some r) n)
    unfolding form_of asks_of
    by_row r None f e = inl refl
    by_row r (Some n) f e =
        let d = numbers_say l r n.0 n.1 n.2 e in
        inr (record { row = r; x = n.0; y = n.1; z = n.2; found = is_in t (at l 0) r f; range = d.0; form = rw (named t (at l 0) r f) at d.1; asks = refl })

    by_letter : (o : Option (Form A)) → find (at l 0) t ≡ o → (asked nothing o (numbers_by l (columns_of o)) ≡ nothing) ⊎ Spelt t l (asked nothing o (numbers_by l (columns_of o)))
    unfolding columns_of numbers_by
    by_letter None f = inl (asked_none (numbers_by l (columns_of {A = A} None)))
    by_letter (Some r) f = by_row r (numbers_of l (columns r)) f refl

  pub only_forms : (t : List (Form A)) → OnlyForms nothing t
  unfolding read_by
  only_forms t l = by_letter t l (find (at l 0) t) refl

  -- ---- exactly

  module _ (t : List (Form A)) (a : apart t ≡ true) where
    spelt_read : (l : List ℕ) (q : A) → Spelt t l q → read_by nothing t l ≡ q
    spelt_read l q s = rw (s.form, s.asks) (formed t a s.row s.x s.y s.z s.found s.range)

    pub exactly : Exactly nothing t
    exactly l q n = (λ e. ⊎_elim (λ b. absurd (n (sym e ∙ b))) (λ s. rw e at s) (only_forms t l), spelt_read l q)

  -- ---- what holds of what each row asks holds of what a line asks

  row_asks : (P : A → Type 0) (r : Form A) (t : List (Form A)) → Every P t → In r t → (x y z : ℕ) → P (r.asks x y z)
  row_asks P r [] h x = elim x [ ]
  row_asks P r (_ ∷ t) h here = h.0
  row_asks P r (q ∷ t) h (there i) = row_asks P r t h.1 i

  spelt_asks : (P : A → Type 0) (t : List (Form A)) → Every P t → (l : List ℕ) (q : A) → Spelt t l q → P q
  spelt_asks P t h l q s = rw s.asks (row_asks P s.row t h s.found s.x s.y s.z)

  pub by_rows : (P : A → Type 0) (t : List (Form A)) → P nothing → Every P t → AsksOnly nothing t P
  by_rows P t p h l = ⊎_elim (λ e. rw e p) (λ s. spelt_asks P t h l (read_by nothing t l) s) (only_forms t l)

  -- where no row asks nothing, a line asks nothing exactly when it is of no row's form
  pub none_exactly : (t : List (Form A)) → apart t ≡ true → Every (λ q. q ≡ nothing → ⊥) t → NoneExactly nothing t
  none_exactly t a h l = (
    λ e q s. spelt_asks (λ (q : A). q ≡ nothing → ⊥) t h l q s (sym (spelt_read t a l q s) ∙ e),
    λ k. ⊎_elim (λ e. e) (λ s. absurd (k (read_by nothing t l) s)) (only_forms t l),
  )

  -- ---- too long

  long_row : (n : ℕ) (t : List (Form A)) (l : List ℕ) (o : Option (Form A)) → find (at l 0) t ≡ o → all_rows (within n) t ≡ true → n < length l → asked nothing o (numbers_by l (columns_of o)) ≡ nothing
  unfolding columns_of numbers_of numbers_by
  long_row n t l None f a h = asked_none (numbers_by l (columns_of {A = A} None))
  long_row n t l (Some r) f a h =
      let m = leb-true (length_of r) n (each (within n) r t a (is_in t (at l 0) r f)) in
      rw (ne_eqb (length l) (length_of r) (λ e. omega arith))

  -- a line longer than every row's asks nothing
  pub long : (n : ℕ) (t : List (Form A)) → all_rows (within n) t ≡ true → (l : List ℕ) → n < length l → read_by nothing t l ≡ nothing
  unfolding read_by
  long n t a l h = long_row n t l (find (at l 0) t) refl a h

  pub alike : (n : ℕ) (t : List (Form A)) → all_rows (within n) t ≡ true → Alike nothing t (suc n)
  alike n t a l k e = first_say_all (read_by nothing t) (suc n) nothing (long n t a) l k e
