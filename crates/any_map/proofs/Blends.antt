-- A blend of two bytes under a mask of classes is a choice for each bit by its class.
use mathlib.Core.Path.{◌≡◌, refl, ◌∙◌}
use mathlib.Core.Bool.{Bool, true, false}
use Prim.Native.Nat.{ℕ}
use Rattle.bits.specs.Bits.{bit, byte_of, pick_bit, blend_k}
use Rattle.bits.specs.Choice.{pick, mark}
use Rattle.bits.proofs.Laws.{number_ext, blend_number}
use Rattle.any_map.specs.Map.{Map, class_at, mask_at}
use Rattle.any_map.proofs.Laws.{mask_bit}

pick_mark : (b : Bool) (x y : ℕ) → pick_bit (mark b) x y ≡ pick b y x
pick_mark true x y = refl
pick_mark false x y = refl

pub blend_by : {C : Type 0} (m : Map C) (f : C → Bool) (i x y : ℕ) → blend_k 8 (mask_at m f i) x y ≡ byte_of (λ (j : ℕ). pick (f (class_at m i j)) (bit y j) (bit x j))
blend_by m f i x y = blend_number 8 (mask_at m f i) x y ∙ number_ext 8 (λ (j : ℕ). pick_bit (bit (mask_at m f i) j) (bit x j) (bit y j)) (λ (j : ℕ). pick (f (class_at m i j)) (bit y j) (bit x j)) (λ j h. rw (mask_bit m f i j h) (pick_mark (f (class_at m i j)) (bit x j) (bit y j)))
