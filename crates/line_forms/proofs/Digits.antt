-- Digits of upper-case hex, as many as there are: what is printed is read back, and what is read is printed so.
use mathlib.Core.Path.{◌≡◌, refl, sym, ap, ◌∙◌}
use mathlib.Core.List.{List, [], ◌∷◌}
use mathlib.Core.Logic.{◌↔◌}
use Prim.Native.Nat.{ℕ, zero, suc, ◌+◌, ◌*◌, ◌/◌, ◌%◌, ◌^◌, ◌<◌, ◌≤◌}
use native.Mathlib.Omega.{arith}
use native.Mathlib.Nat.{pow-suc, one-le-pow, div-one, div-eq_of_lt, div-div-eq-div-mul, lt-div-mul-add, pow-le-pow_right}
use native.Mathlib.Decide.{dec_lt}
use native.Mathlib.Numerals.{add-one}
use borrow.Author.Tests.{le-ltb}
use lib.Dec.{eqb, ltb, eqb→eq}
use lib.ListN.{length}
use Rattle.bits.specs.Choice.{either}
use Rattle.bits.specs.Places.{from}
use Rattle.bits.proofs.Below.{below, other}
use Rattle.bits.proofs.Places.{length_from}
use Rattle.bits.proofs.Tests.{tests}
use Rattle.std.specs.Prelude.{None, Some}
use Rattle.line_forms.specs.Ascii.{ascii}
use Rattle.line_forms.specs.Hex.{up_of, hex_of}
use Rattle.line_forms.specs.Read.{digit_of, at, hex_from}

-- two numbers that are not one: by `cc` what begins differently is apart
pub never : ◌≡◌ {A = ℕ} 0 1 → ⊥
never e = omega arith

-- ---- one digit

-- every digit
pub as_printed : hex_of 16 0x0123456789ABCDEF ≡ ascii "0123456789ABCDEF"
unfolding hex_of up_of
as_printed = refl

digit_up : (n : ℕ) → n < 16 → digit_of (up_of n) ≡ n
unfolding digit_of up_of
digit_up n h = eqb→eq (digit_of (up_of n)) n (below 16 (λ (n : ℕ). eqb (digit_of (up_of n)) n) tt n h)

-- past F there is none
no_digit : (b : ℕ) → 71 ≤ b → digit_of b ≡ 16
unfolding digit_of
no_digit b h =
    let n48 : 48 ≤ b = omega arith in
    let n58 : 58 ≤ b = omega arith in
    let n65 : 65 ≤ b = omega arith in
    search (tests, n48, n58, n65)

up_digit : (b : ℕ) → digit_of b < 16 → up_of (digit_of b) ≡ b
unfolding digit_of up_of
up_digit b h =
    elim (dec_lt b 71) [
      | yes l ↦ eqb→eq (up_of (digit_of b)) b (other (ltb 15 (digit_of b)) (eqb (up_of (digit_of b)) b) (le-ltb 15 (digit_of b) (omega arith)) (below 71 (λ (b : ℕ). either (ltb 15 (digit_of b)) (eqb (up_of (digit_of b)) b)) tt b l))
      | no n ↦ absurd (omega (arith, no_digit b (omega arith)))
    ]

-- ---- any number of digits

-- each byte is a digit
abbrev Digits : List ℕ → Type 0
Digits [] = Unit
Digits (b ∷ bs) = (digit_of b < 16) × Digits bs

-- the number that they say behind the number v
abbrev read_from : ℕ → List ℕ → ℕ
read_from v [] = v
read_from v (b ∷ bs) = read_from (v * 16 + digit_of b) bs

-- one digit fewer
shorter : (v k : ℕ) → v / 16 ^ suc k ≡ v / 16 ^ k / 16
shorter v k = rw pow-suc (sym (div-div-eq-div-mul v (16 ^ k) 16))

hex_digits : (k v : ℕ) → Digits (hex_of k v)
unfolding hex_of
hex_digits zero v = tt
hex_digits (suc k) v = (rw (digit_up (v / 16 ^ k % 16) (omega arith)) (omega arith), hex_digits k v)

-- what is printed is read back
read_hex : (k v : ℕ) → read_from (v / 16 ^ k) (hex_of k v) ≡ v
unfolding hex_of
read_hex zero v = div-one v
read_hex (suc k) v =
    let e : v / 16 ^ suc k * 16 + digit_of (up_of (v / 16 ^ k % 16)) ≡ v / 16 ^ k = rw (shorter v k, digit_up (v / 16 ^ k % 16) (omega arith)) (omega arith) in
    ap (λ (w : ℕ). read_from w (hex_of k v)) e ∙ read_hex k v

-- the digits do not reach the number before them
read_high : (bs : List ℕ) (v : ℕ) → Digits bs → read_from v bs / 16 ^ length bs ≡ v
read_high [] v d = div-one v
read_high (b ∷ bs) v d = shorter (read_from (v * 16 + digit_of b) bs) (length bs) ∙ rw (read_high bs (v * 16 + digit_of b) d.1) (omega arith)

-- what is read is printed so
hex_read : (bs : List ℕ) (v : ℕ) → Digits bs → hex_of (length bs) (read_from v bs) ≡ bs
unfolding hex_of
hex_read [] v d = refl
hex_read (b ∷ bs) v d =
    let e : (v * 16 + digit_of b) % 16 ≡ digit_of b = omega arith in
    rw (hex_read bs (v * 16 + digit_of b) d.1, read_high bs (v * 16 + digit_of b) d.1, e, up_digit b d.0)

-- bs are digits, and v is what they say
record Reads (bs : List ℕ) (v : ℕ) : Type 0 where
  digits : Digits bs
  says : v ≡ read_from 0 bs

printed_reads : (k v : ℕ) → v < 16 ^ k → Reads (hex_of k v) v
printed_reads k v h = record { digits = hex_digits k v; says = sym (rw (div-eq_of_lt h) at (read_hex k v)) }

reads_printed : {bs : List ℕ} {v : ℕ} → Reads bs v → (v < 16 ^ length bs) × (hex_of (length bs) v ≡ bs)
reads_printed {bs} r =
    let h = rw (read_high bs 0 r.digits) at (lt-div-mul-add {a = read_from 0 bs} {b = 16 ^ length bs} (one-le-pow (length bs) 16 (omega arith))) in
    rw r.says (omega arith, hex_read bs 0 r.digits)

-- ---- how the rule of k digits stops and goes on

pub stops : (k : ℕ) (l : List ℕ) (i v : ℕ) → 15 < digit_of (at l i) → hex_from (suc k) l i v ≡ None
unfolding hex_from
stops k l i v h = search tests

pub goes : (k : ℕ) (l : List ℕ) (i v : ℕ) → digit_of (at l i) ≤ 15 → hex_from (suc k) l i v ≡ hex_from k l (i + 1) (v * 16 + digit_of (at l i))
unfolding hex_from
goes k l i v h = search tests

-- one more digit: the number has one more
pub grown : (j v d : ℕ) → v < 16 ^ j → d ≤ 15 → v * 16 + d < 16 ^ (j + 1)
grown j v d h g = rw (add-one, pow-suc) (omega arith)

-- a number of fewer digits is below those of more
pub of_fewer : (k j v : ℕ) → j ≤ k → v < 16 ^ j → v < 16 ^ k
of_fewer k j v h g = omega (arith, pow-le-pow_right {n = 16} (omega arith) {j = k} h)

-- ---- k digits from place i on are read as a number exactly when they are that number, printed

pub not_bad : (v : ℕ) → None ≡ Some v → ⊥
not_bad v e = never cc

-- digits are read
digits_value : (k : ℕ) (l : List ℕ) (i v : ℕ) → Digits (from k (at l) i) → hex_from k l i v ≡ Some (read_from v (from k (at l) i))
unfolding hex_from
digits_value zero l i v d = refl
digits_value (suc k) l i v d = goes k l i v (omega arith) ∙ rw add-one (digits_value k l (suc i) (v * 16 + digit_of (at l i)) d.1)

-- what is read is digits
value_digits : (k : ℕ) (l : List ℕ) (i v n : ℕ) → hex_from k l i v ≡ Some n → Digits (from k (at l) i) × (n ≡ read_from v (from k (at l) i))
unfolding hex_from
value_digits zero l i v n e = (tt, cc)
value_digits (suc k) l i v n e =
    elim (dec_lt 15 (digit_of (at l i))) [
      | yes h ↦ absurd (not_bad n (sym (stops k l i v h) ∙ e))
      | no h ↦
          let r = value_digits k l (suc i) (v * 16 + digit_of (at l i)) n (rw add-one at (sym (goes k l i v (omega arith)) ∙ e)) in
          ((omega arith, r.0), r.1)
    ]

pub number_exactly : (l : List ℕ) (i k v : ℕ) → (hex_from k l i 0 ≡ Some v) ↔ ((v < 16 ^ k) × (hex_of k v ≡ from k (at l) i))
number_exactly l i k v = (
  λ e. let r = value_digits k l i 0 v e in let p : Reads (from k (at l) i) v = record { digits = r.0; says = r.1 } in rw (length_from k (at l) i) at (reads_printed p),
  λ r. let p : Reads (from k (at l) i) v = rw r.1 at (printed_reads k v r.0) in digits_value k l i 0 p.digits ∙ ap Some (sym p.says),
)
