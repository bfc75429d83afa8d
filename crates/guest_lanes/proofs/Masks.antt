-- The guest bits that a write leaves: at the bytes of the special rules by their tests, none elsewhere.
use mathlib.Core.Path.{◌≡◌, refl, sym, ap, ◌∙◌}
use mathlib.Core.Bool.{Bool, true, false}
use Prim.Native.Nat.{ℕ, ◌+◌, ◌*◌, ◌/◌, ◌%◌, ◌<◌, ◌≤◌}
use native.Mathlib.Omega.{arith}
use native.Mathlib.Nat.{div-one}
use native.Mathlib.Decide.{ℕ_discrete}
use lib.Dec.{T, eqb, ltb}
use borrow.Author.Tests.{ne_eqb, ltb-true, ltb-false}
use Rattle.bits.specs.Bits.{field, number_of}
use Rattle.bits.specs.Choice.{pick, either, mark, all_below}
use Rattle.bits.proofs.Laws.{number_ext, number_none}
use Rattle.bits.proofs.Below.{below, other}
use Rattle.map.specs.Registers.{GMADR, SVID2, SID2, MSAC, PMCS, SWSCI}
use Rattle.any_device.specs.Class.{Stored, never, always, once, until, special}
use Rattle.map.specs.Class.{Special}
use Rattle.any_map.specs.Map.{row_at, class_at}
use Rattle.map.specs.Map.{rows, class_of}
use Rattle.map.proofs.Classes.{past_the_rows}
use Rattle.rules.specs.declared.Flags.{Flags}
use Rattle.rules.specs.Device.{bits_taken, taken_by, holds_by, size_of}
use Rattle.guest_lanes.specs.Lane.{taken_mask, if_closed, leaves, held_of}

-- ---- the size code

taken_bits : (code : ℕ) (a b : Bool) → eqb code 3 ≡ a → eqb code 1 ≡ b → taken_mask code ≡ pick a 0x18 (pick b 0x08 0)
unfolding number_of rows row_at class_at bits_taken taken_by taken_mask
taken_bits code true b p q = rw p
taken_bits code false true p q = rw (p, q)
taken_bits code false false p q = rw (p, q)

pub taken_is : (code : ℕ) → taken_mask code ≡ pick (eqb code 3) 0x18 (pick (eqb code 1) 0x08 0)
taken_is code = taken_bits code _ _ refl refl

module _ (c : Flags) (code w : ℕ) where
  aperture_held : (a b : Bool) → eqb code 3 ≡ a → eqb code 1 ≡ b → held_of c code w (GMADR + 3) ≡ pick a 0x18 (pick b 0x08 0)
  unfolding number_of rows row_at class_at bits_taken taken_by holds_by leaves held_of
  aperture_held true b p q = rw p
  aperture_held false true p q = rw (p, q)
  aperture_held false false p q = rw (p, q)

  -- ---- the write-once fields

  svid2_held : (b : Bool) → eqb c.svid2 0 ≡ b → (held_of c code w SVID2 ≡ pick b 0 0xFF) × (held_of c code w (SVID2 + 1) ≡ pick b 0 0xFF)
  unfolding number_of rows row_at class_at holds_by leaves held_of
  svid2_held true p = (rw p, rw p)
  svid2_held false p = (rw p, rw p)

  sid2_held : (b : Bool) → eqb c.sid2 0 ≡ b → (held_of c code w SID2 ≡ pick b 0 0xFF) × (held_of c code w (SID2 + 1) ≡ pick b 0 0xFF)
  unfolding number_of rows row_at class_at holds_by leaves held_of
  sid2_held true p = (rw p, rw p)
  sid2_held false p = (rw p, rw p)

  swsci15_held : (b : Bool) → eqb c.swsci15 0 ≡ b → held_of c code w (SWSCI + 1) ≡ pick b 0 0x80
  unfolding number_of rows row_at class_at holds_by leaves held_of
  swsci15_held true p = rw p
  swsci15_held false p = rw p

  -- ---- MSAC and PMCS

  size_held : (b : Bool) → eqb (size_of w) 2 ≡ b → held_of c code w MSAC ≡ pick b 0x06 0
  unfolding number_of rows row_at class_at holds_by leaves held_of
  size_held true p = rw p
  size_held false p = rw p

  power_held : (a b : Bool) → eqb (field w 1 0) 0 ≡ a → eqb (field w 1 0) 3 ≡ b → held_of c code w PMCS ≡ pick a 0 (pick b 0 0x03)
  unfolding number_of rows row_at class_at holds_by leaves held_of
  power_held true b p q = rw p
  power_held false true p q = rw (p, q)
  power_held false false p q = rw (p, q)

  -- ---- the same, at a byte that the code found by its tests

  module _ (i : ℕ) where
    pub at_aperture : i ≡ GMADR + 3 → held_of c code w i ≡ taken_mask code
    at_aperture e = ap (held_of c code w) e ∙ aperture_held _ _ refl refl ∙ sym (taken_is code)

    -- one of the two bytes of a word
    word : (n x : ℕ) → i / 2 ≡ n → (held_of c code w (n * 2) ≡ x) × (held_of c code w (n * 2 + 1) ≡ x) → held_of c code w i ≡ x
    word n x e h = elim (ℕ_discrete i (n * 2)) [ yes d ↦ ap (held_of c code w) d ∙ h.0 | no d ↦ (let u : i ≡ n * 2 + 1 = omega arith in ap (held_of c code w) u ∙ h.1) ]

    pub at_svid2 : i / 2 ≡ SVID2 / 2 → held_of c code w i ≡ if_closed c.svid2 0xFF
    unfolding if_closed
    at_svid2 e = word (SVID2 / 2) _ e (svid2_held _ refl)

    pub at_sid2 : i / 2 ≡ SID2 / 2 → held_of c code w i ≡ if_closed c.sid2 0xFF
    unfolding if_closed
    at_sid2 e = word (SID2 / 2) _ e (sid2_held _ refl)

    pub at_swsci : i ≡ SWSCI + 1 → held_of c code w i ≡ if_closed c.swsci15 0x80
    unfolding if_closed
    at_swsci e = ap (held_of c code w) e ∙ swsci15_held _ refl

    pub at_msac : i ≡ MSAC → held_of c code w i ≡ pick (eqb (size_of w) 2) 0x06 0
    at_msac e = ap (held_of c code w) e ∙ size_held _ refl

    pub at_pmcs : i ≡ PMCS → held_of c code w i ≡ pick (eqb (w % 4) 0) 0 (pick (eqb (w % 4) 3) 0 0x03)
    at_pmcs e = ap (held_of c code w) e ∙ power_held _ _ refl refl ∙ rw div-one

-- ---- the other bytes

-- neither the state nor the byte written has a say
abbrev plain : Stored Special → Bool
plain never = true
plain always = true
plain (once f) = false
plain (until cs) = false
plain (special k) = false

plain_leaves : (c : Flags) (code w : ℕ) (st : Stored Special) → T (plain st) → leaves c code w st ≡ false
unfolding leaves
plain_leaves c code w never t = refl
plain_leaves c code w always t = refl
plain_leaves c code w (once f) t = absurd t
plain_leaves c code w (until cs) t = absurd t
plain_leaves c code w (special k) t = absurd t

ruled : ℕ → Bool
ruled i = either (eqb i (GMADR + 3)) (either (eqb (i / 2) (SVID2 / 2)) (either (eqb (i / 2) (SID2 / 2)) (either (eqb i (SWSCI + 1)) (either (eqb i MSAC) (eqb i PMCS)))))

plain_at : ℕ → Bool
plain_at i = either (ruled i) (all_below 8 (λ (j : ℕ). plain (class_of i j).stored))

all_plain : T (all_below 256 plain_at)
unfolding plain_at ruled rows row_at class_at
all_plain = tt

inner_other : (c : Flags) (code w i : ℕ) → i < 256 → ruled i ≡ false → held_of c code w i ≡ 0
unfolding held_of plain_at
inner_other c code w i h e =
    let t : T (all_below 8 (λ (j : ℕ). plain (class_of i j).stored)) = other (ruled i) _ e (below 256 plain_at all_plain i h) in
    number_ext 8 (λ (j : ℕ). mark (leaves c code w (class_of i j).stored)) (λ (j : ℕ). 0) (λ j l. ap mark (plain_leaves c code w (class_of i j).stored (below 8 (λ (j : ℕ). plain (class_of i j).stored) t j l))) ∙ number_none 8

past_other : (c : Flags) (code w i : ℕ) → 256 ≤ i → held_of c code w i ≡ 0
unfolding held_of leaves
past_other c code w i h = number_ext 8 (λ (j : ℕ). mark (leaves c code w (class_of i j).stored)) (λ (j : ℕ). 0) (λ j l. rw (past_the_rows i j h)) ∙ number_none 8

pub at_other : (c : Flags) (code w i : ℕ) → (i ≡ GMADR + 3 → ⊥) → (i / 2 ≡ SVID2 / 2 → ⊥) → (i / 2 ≡ SID2 / 2 → ⊥) → (i ≡ SWSCI + 1 → ⊥) → (i ≡ MSAC → ⊥) → (i ≡ PMCS → ⊥) → held_of c code w i ≡ 0
unfolding ruled
at_other c code w i n1 n2 n3 n4 n5 n6 =
    let e : ruled i ≡ false = simp (ne_eqb i (GMADR + 3) n1, ne_eqb (i / 2) (SVID2 / 2) n2, ne_eqb (i / 2) (SID2 / 2) n3, ne_eqb i (SWSCI + 1) n4, ne_eqb i MSAC n5, ne_eqb i PMCS n6) in
    go (ltb i 256) refl e
  where
    go : (b : Bool) → ltb i 256 ≡ b → ruled i ≡ false → held_of c code w i ≡ 0
    go true p e = inner_other c code w i (ltb-true i 256 p) e
    go false p e = past_other c code w i (ltb-false i 256 p)

pub ruleset helds = (at_aperture, at_svid2, at_sid2, at_swsci, at_msac, at_pmcs, at_other)
