-- When a bit stays: under a guest write that does not store it, a write that starts a function reset, the end of one, and a host update.
use mathlib.Core.Path.{◌≡◌, refl, sym, subst, ◌∙◌}
use mathlib.Core.Bool.{Bool, true, false, not}
use Prim.Native.Nat.{ℕ, ◌+◌, ◌-◌, ◌%◌, ◌<◌}
use native.Mathlib.Omega.{arith}
use lib.Dec.{T, eqb}
use borrow.Author.Tests.{eqb-true}
use Rattle.bits.specs.Bits.{bit}
use Rattle.bits.specs.Choice.{pick, both, all_below}
use Rattle.bits.proofs.Below.{below, both_left, is_false}
use Rattle.access.specs.Access.{enabled}
use Rattle.access.proofs.Access.{enabled_within, not_within}
use Rattle.past.specs.Past.{nothing, given, or_held}
use Rattle.plain.proofs.Plain as P
use Rattle.any_map.specs.Map.{row_at, class_at}
use Rattle.any_device.specs.Class.{never, device, stores, by_host, has_f}
use Rattle.any_device.specs.Device as D
use Rattle.any_device.proofs.Parts.{unstored_is}
use Rattle.map.specs.Registers.{MSAC, AFCTL}
use Rattle.map.specs.Map.{rows, class_of}
use Rattle.map.proofs.Classes.{unclearing}
use Rattle.rules.specs.declared.State.{State}
use Rattle.rules.specs.Access.{byte}
use Rattle.rules.specs.Guest.{starts, bit_after}
use Rattle.rules.specs.Reset.{ended_bit}
use Rattle.rules.specs.Host.{not_host, host_bit}
use Rattle.rules.proofs.Stored.{left, stored_off, only_stored}

-- ---- a guest write

-- no guest write stores it
pub unstored : (s : State) (o l v i j : ℕ) → stores (class_of i j) ≡ false → bit_after s o l v i j ≡ bit (byte s i) j
unfolding D.held_back D.swept
unstored s o l v i j e =
    let is : (class_of i j).stored ≡ never = unstored_is (class_of i j) e in
    only_stored s o l v i j (λ m. rw is) ∙ stored_off s o l v i j (rw is)

-- no bit of AFCTL's dword is stored
dword_plain : T (all_below 4 (λ (k : ℕ). all_below 8 (λ (j : ℕ). not (stores (class_of (AFCTL + k) j)))))
unfolding rows row_at class_at
dword_plain = tt

-- so a write that starts a function reset leaves every bit
pub start_kept : (s : State) (o l v i j : ℕ) → o % 4 ≡ 0 → starts o l v ≡ true → j < 8 → bit_after s o l v i j ≡ bit (byte s i) j
unfolding starts
start_kept s o l v i j a e k =
    let w = enabled_within o l AFCTL (both_left (enabled o l AFCTL) _ (subst T (sym e) tt)) in
    let at : o ≡ AFCTL = omega (arith, w.0, w.1) in
    go at (enabled o l i) refl
  where
    off : o ≡ AFCTL → enabled o l MSAC ≡ false
    off at = not_within o l MSAC (λ x y. omega arith)

    go : o ≡ AFCTL → (b : Bool) → enabled o l i ≡ b → bit_after s o l v i j ≡ bit (byte s i) j
    go at true q =
        let w = enabled_within o l i (subst T (sym q) tt) in
        let is : AFCTL + (i - AFCTL) ≡ i = omega (arith, w.0) in
        unstored s o l v i j (subst (λ (x : ℕ). stores (class_of x j) ≡ false) is (is_false _ (below 8 (λ (j : ℕ). not (stores (class_of (AFCTL + (i - AFCTL)) j))) (below 4 (λ (k : ℕ). all_below 8 (λ (j : ℕ). not (stores (class_of (AFCTL + k) j)))) dword_plain (i - AFCTL) (omega (arith, w.0, w.1))) j k)))
    go at false q = left s o l v i j (off at) q

-- ---- the end of a function reset

pub ended_off : (s : State) (i j : ℕ) → has_f (class_of i j) ≡ false → ended_bit s i j ≡ bit (byte s i) j
unfolding D.ended_bit
ended_off s i j n = rw n

-- ---- a host update

-- a bit that is not the host's stays
pub host_kept : (s : State) (o m v i j : ℕ) → j < 8 → by_host device (class_of i j) ≡ false → not_host o m ≡ false → host_bit s o m v i j ≡ bit (byte s i) j
unfolding D.updated_bit D.not_hosted
host_kept s o m v i j k n e = rw (unclearing i j) (go (eqb i o) refl)
  where
    go : (b : Bool) → eqb i o ≡ b → or_held (pick (both b (eqb (bit m j) 1)) (given (bit v j)) nothing) (bit (byte s i) j) ≡ bit (byte s i) j
    go true q = rw (P.mask_off (λ (i j : ℕ). by_host device (class_of i j)) o m i j k n e (eqb-true i o q))
    go false q = refl
