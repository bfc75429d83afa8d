-- The numbers of a line, by any row: they are read exactly when the line is of the row's form.
use mathlib.Core.Path.{◌≡◌, refl, sym, ap, ◌∙◌}
use mathlib.Core.List.{List, [], ◌∷◌, ◌++◌}
use Prim.Native.Nat.{ℕ, zero, suc, ◌+◌, ◌<◌, ◌≤◌, ◌^◌}
use native.Mathlib.Nat.{suc-add, zero-add}
use native.Mathlib.Numerals.{add-one}
use native.Mathlib.Omega.{arith}
use borrow.Author.Tests.{eq-eqb}
use lib.Dec.{eqb}
use lib.ListN.{length, length-append}
use Rattle.bits.specs.Choice.{pick}
use Rattle.bits.specs.Places.{from}
use Rattle.bits.proofs.Places.{length_from, as_from}
use Rattle.std.specs.Prelude.{Option, None, Some}
use Rattle.line_forms.specs.Ascii.{ascii, letter}
use Rattle.line_forms.specs.Hex.{up_of, hex_of}
use Rattle.line_forms.specs.Table.{Form, form, field_form, form_of, InRange, wide}
use Rattle.line_forms.specs.Read.{at, hex_from, field_of, joined, columns, columns_of, numbers_of, numbers_by, Fits}
use Rattle.line_forms.proofs.Digits.{never, of_fewer, number_exactly, not_bad}
use Rattle.line_forms.proofs.Rows.{picked_is}

-- a line of three numbers, of two, of one and of none, as they are printed
pub as_printed : {A : Type 0} (r : ℕ → ℕ → ℕ → A) → (form_of (form "W" 2 1 8 r) 0x2C 3 0x1234 ≡ ascii "W 2C 3 00001234") × (form_of (form "R" 2 1 0 r) 0x2C 0xF 0 ≡ ascii "R 2C F") × (form_of (form "A" 16 0 0 r) 0xFEDCBA98 0 0 ≡ ascii "A 00000000FEDCBA98") × (form_of (form "P" 0 0 0 r) 0 0 0 ≡ ascii "P")
unfolding form_of hex_of up_of
as_printed r = (refl, refl, refl, refl)

-- ---- one field

pub field_none : (l : List ℕ) (i k : ℕ) → k ≡ 0 → field_of l i k ≡ Some 0
unfolding field_of
field_none l i k e = rw e

pub field_some : (l : List ℕ) (i k : ℕ) → (k ≡ 0 → ⊥) → field_of l i k ≡ pick (eqb (at l i) (letter " ")) (hex_from k l (i + 1) 0) None
unfolding field_of
field_some l i zero n = absurd (n refl)
field_some l i (suc k) n = refl

-- what a field that is read says
pub field_says : (l : List ℕ) (i k v : ℕ) → field_of l i k ≡ Some v → (v < 16 ^ k) × (field_form k v ≡ from (wide k) (at l) i)
unfolding field_of
field_says l i zero v = λ e. let z : 0 ≡ v = cc in (omega arith, refl)
field_says l i (suc k) v =
    picked_is (λ (h : Option ℕ). h ≡ Some v → (v < 16 ^ suc k) × (field_form (suc k) v ≡ from (wide (suc k)) (at l) i)) (at l i) _ _ _
    (λ s e. let n = (number_exactly l (i + 1) (suc k) v).0 e in (n.0, rw (s, n.1, add-one)))
    (λ e. absurd (not_bad v e))

-- a field as it is printed is read
pub field_read : (l : List ℕ) (i k v : ℕ) → v < 16 ^ k → field_form k v ≡ from (wide k) (at l) i → field_of l i k ≡ Some v
unfolding field_of
field_read l i zero v h e = let z : v ≡ 0 = omega arith in rw z
field_read l i (suc k) v h e =
    let s : at l i ≡ letter " " = cc in
    let d : hex_of (suc k) v ≡ from (suc k) (at l) (suc i) = cc in
    rw (eq-eqb (at l i) (letter " ") s) ((number_exactly l (i + 1) (suc k) v).1 (h, rw add-one d))

-- eight digits fit
pub field_fits : (l : List ℕ) (i k v : ℕ) → k ≤ 8 → field_of l i k ≡ Some v → v < 2 ^ 32
field_fits l i k v h e = of_fewer 8 k v h (field_says l i k v e).0

-- ---- three fields

from_joined : (h₁ h₂ h₃ : Option ℕ) (x y z : ℕ) → joined h₁ h₂ h₃ ≡ Some (x, y, z) → (h₁ ≡ Some x) × (h₂ ≡ Some y) × (h₃ ≡ Some z)
from_joined None h₂ h₃ x y z e = absurd (never cc)
from_joined (Some u) None h₃ x y z e = absurd (never cc)
from_joined (Some u) (Some v) None x y z e = absurd (never cc)
from_joined (Some u) (Some v) (Some w) x y z e =
    let p : ◌≡◌ {A = ℕ × ℕ × ℕ} (u, v, w) (x, y, z) = cc in
    (ap (λ (t : ℕ × ℕ × ℕ). Some t.0) p, ap (λ (t : ℕ × ℕ × ℕ). Some t.1) p, ap (λ (t : ℕ × ℕ × ℕ). Some t.2) p)

from_split : (a n : ℕ) (f : ℕ → ℕ) (i : ℕ) → from (a + n) f i ≡ from a f i ++ from n f (a + i)
from_split zero n f i = rw (zero-add n, zero-add i)
from_split (suc a) n f i =
    let e : suc a + i ≡ a + suc i = omega arith in
    rw (suc-add a n, e) (ap {B = List ℕ} (λ (t : List ℕ). f i ∷ t) (from_split a n f (suc i)))

-- lists that begin with as many elements
parts : (p q s t : List ℕ) → length p ≡ length q → p ++ s ≡ q ++ t → (p ≡ q) × (s ≡ t)
parts [] [] s t n e = (refl, e)
parts [] (y ∷ q) s t n e = absurd (omega arith)
parts (x ∷ p) [] s t n e = absurd (omega arith)
parts (x ∷ p) (y ∷ q) s t n e =
    let h : x ≡ y = cc in
    let d : p ++ s ≡ q ++ t = cc in
    let r = parts p q s t (omega arith) d in
    (rw (h, r.0), r.1)

length_hex : (k v : ℕ) → length (hex_of k v) ≡ k
unfolding hex_of
length_hex zero v = refl
length_hex (suc k) v = rw (length_hex k v)

length_field : (k v : ℕ) → length (field_form k v) ≡ wide k
length_field zero v = refl
length_field (suc k) v = rw (length_hex (suc k) v)

-- the places of a line of three fields
abbrev Placed : List ℕ → ℕ → ℕ → ℕ → List ℕ
Placed l a b c = at l 0 ∷ (from (wide a) (at l) 1 ++ (from (wide b) (at l) (1 + wide a) ++ from (wide c) (at l) (1 + wide a + wide b)))

placed : (l : List ℕ) (a b c : ℕ) → length l ≡ 1 + wide a + wide b + wide c → l ≡ Placed l a b c
placed l a b c n =
    let m : length l ≡ suc (wide a + (wide b + wide c)) = omega arith in
    let e : wide b + (wide a + 1) ≡ 1 + wide a + wide b = omega arith in
    let d : wide a + 1 ≡ 1 + wide a = omega arith in
    as_from _ l (at l) m (λ i h. refl) ∙ rw (from_split (wide a) (wide b + wide c) (at l) 1, from_split (wide b) (wide c) (at l) (wide a + 1), e, d)

-- ---- the numbers of a line

module _ {A : Type 0} (l : List ℕ) (r : Form A) (x y z : ℕ) where
  abbrev Body : List ℕ
  Body = field_form r.a x ++ (field_form r.b y ++ field_form r.c z)

  pub numbers_say : numbers_of l (columns r) ≡ Some (x, y, z) → InRange r x y z × (l ≡ at l 0 ∷ Body)
  unfolding numbers_of
  numbers_say =
      picked_is (λ (n : Option (ℕ × ℕ × ℕ)). n ≡ Some (x, y, z) → InRange r x y z × (l ≡ at l 0 ∷ Body)) (length l) _ _ _
      (λ n e.
      let j = from_joined _ _ _ x y z e in
      let f = field_says l 1 r.a x j.0 in
      let g = field_says l (1 + wide r.a) r.b y j.1 in
      let h = field_says l (1 + wide r.a + wide r.b) r.c z j.2 in
      ((f.0, g.0, h.0), rw (f.1, g.1, h.1) (placed l r.a r.b r.c n)))
      (λ e. absurd (never cc))

  pub numbers_read : InRange r x y z → l ≡ r.name ∷ Body → numbers_of l (columns r) ≡ Some (x, y, z)
  unfolding numbers_of
  numbers_read h e =
      let m : length l ≡ suc (wide r.a + (wide r.b + wide r.c)) = ap length e ∙ simp (length-append, length_field) in
      let n : length l ≡ 1 + wide r.a + wide r.b + wide r.c = omega arith in
      let d = sym (placed l r.a r.b r.c n) ∙ e in
      let t : from (wide r.a) (at l) 1 ++ (from (wide r.b) (at l) (1 + wide r.a) ++ from (wide r.c) (at l) (1 + wide r.a + wide r.b)) ≡ Body = cc in
      let p = parts (from (wide r.a) (at l) 1) (field_form r.a x) _ _ (length_from (wide r.a) (at l) 1 ∙ sym (length_field r.a x)) t in
      let q = parts (from (wide r.b) (at l) (1 + wide r.a)) (field_form r.b y) _ _ (length_from (wide r.b) (at l) (1 + wide r.a) ∙ sym (length_field r.b y)) p.1 in
      rw (eq-eqb _ _ n, field_read l 1 r.a x h.0 (sym p.0), field_read l (1 + wide r.a) r.b y h.1 (sym q.0), field_read l (1 + wide r.a + wide r.b) r.c z h.2 (sym q.1))

pub numbers_fit : {A : Type 0} (o : Option (Form A)) (l : List ℕ) (x y z : ℕ) → numbers_by l (columns_of o) ≡ Some (x, y, z) → Fits o x y z
unfolding columns_of numbers_by Fits
numbers_fit None l x y z e = tt
numbers_fit (Some r) l x y z e = (numbers_say l r x y z e).0
