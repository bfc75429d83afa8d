-- Registers by their bytes, and the bases: a register with its lowest bits taken as 0, which have no say in whether a window holds an address.
use mathlib.Core.Path.{◌≡◌, ap, subst, ◌∙◌}
use mathlib.Core.List.{List}
use Prim.Native.Nat.{ℕ, ◌+◌, ◌-◌, ◌*◌, ◌/◌, ◌%◌, ◌^◌, ◌<◌, ◌≤◌}
use native.Mathlib.Omega.{arith}
use native.Mathlib.Nat.{add-zero, add_assoc}
use lib.Dec.{eqb}
use lib.ListN.{get_or}
use lib.Pow.{shl-shr, shr-shr}
use Rattle.bits.specs.Bits.{bit, little, joined}
use Rattle.bits.specs.Choice.{when◌then◌else◌, ◌is◌}
use Rattle.bits.proofs.Laws.{bit<2, little_bits, joined_little, number_above}
use Rattle.map.specs.Registers.{PCICMD2, GTTMMADR, GMADR, IOBAR, MSAC}
use Rattle.rules.specs.declared.State.{State}
use Rattle.rules.specs.Access.{byte}
use Rattle.rules.specs.Device.{size_of, exponent_of}
use Rattle.rules.specs.Claims.{unclaimed, base, translation_exponent, io_exponent, holds, off, aperture_claim, memory_claim_of, io_claim_of}
use Rattle.claims.specs.Windows.{register_at, holds_of, in_aperture, aperture_of, memory_of, io_of}

-- ---- registers

module _ (m : List ℕ) (at : ℕ) where
  pub four_bytes : joined (get_or m at 0) (get_or m (at + 1) 0) (get_or m (at + 2) 0) (get_or m (at + 3) 0) ≡ register_at 4 m at
  unfolding register_at
  four_bytes = rw add-zero at (joined_little (λ (k : ℕ). get_or m (at + k) 0))

  pub two_dwords : register_at 4 m (at + 4) * 2 ^ 32 + register_at 4 m at ≡ register_at 8 m at
  unfolding register_at little
  two_dwords = simp add_assoc (omega arith)

-- ---- bases

-- from the size upward, the bits below `low` have no say
from_size_upward : (x low e : ℕ) → low ≤ e → x / 2 ^ low * 2 ^ low / 2 ^ e ≡ x / 2 ^ e
from_size_upward x low e h =
    let d : low + (e - low) ≡ e = omega arith in
    subst (λ (k : ℕ). x / 2 ^ low * 2 ^ low / 2 ^ k ≡ x / 2 ^ k) d (rw (← shr-shr (x / 2 ^ low * 2 ^ low) low (e - low), shl-shr, shr-shr))

-- in a state whose bytes are bytes
module _ (s : State) (b : (i : ℕ) → byte s i < 2 ^ 8) where
  pub base_is : (at n low : ℕ) → base s at (8 * n) low ≡ register_at n s.bytes at / 2 ^ low * 2 ^ low
  unfolding base register_at
  base_is at n low =
      number_above (8 * n) low (λ (i : ℕ). bit (byte s (at + i / 8)) (i % 8)) (λ j. bit<2 (byte s (at + j / 8)) (j % 8))
      ∙ ap (λ (x : ℕ). x / 2 ^ low * 2 ^ low) (little_bits n (λ (k : ℕ). byte s (at + k)) (λ k. b (at + k)))

  -- a base and its register hold the same addresses
  pub holds_is : (at n low e a : ℕ) → low ≤ e → holds (base s at (8 * n) low) e a ≡ holds_of (register_at n s.bytes at) (2 ^ e) a
  holds_is at n low e a h = ap (λ (x : ℕ). eqb (a / 2 ^ e) x) (ap (λ (x : ℕ). x / 2 ^ e) (base_is at n low) ∙ from_size_upward (register_at n s.bytes at) low e h)

  -- ---- the rules, by registers

  pub aperture_is : (code a : ℕ) → aperture_claim s code a ≡ aperture_of (register_at 8 s.bytes GMADR) code a
  unfolding aperture_claim aperture_of in_aperture
  aperture_is code a = rw (holds_is GMADR 8 4 (exponent_of code) a (omega arith))

  pub memory_is : (a : ℕ) → memory_claim_of s a ≡ when bit (byte s PCICMD2) 1 is 0 then unclaimed else when off s then unclaimed else memory_of s.bytes a
  unfolding memory_claim_of memory_of
  memory_is a = rw (holds_is GTTMMADR 8 4 translation_exponent a (omega arith), aperture_is (size_of (byte s MSAC)) a)

  pub io_is : (p : ℕ) → io_claim_of s p ≡ when bit (byte s PCICMD2) 0 is 0 then unclaimed else when off s then unclaimed else io_of s.bytes p
  unfolding io_claim_of io_of
  io_is p = rw (holds_is IOBAR 4 2 io_exponent p (omega arith))
