-- `convex_ring::joins_at` meets its contract: the two cross products. Assumes nothing.
use mathlib.Core.Path.{◌≡◌, sym, ◌∙◌, ap}
use mathlib.Core.Bool.{true, false, cond}
use lib.IntN.{ℤ, pos}
use lib.Signed.{le_z}
use mir.Syntax.{w64}
use Rattle.integers.proofs.Bits.{got}
use Rattle.plane.specs.Plane.{Pt, ◌-ᵖ◌, cross}
use Rattle.convex.specs.Joining.{joins}
use Rattle.convex_ring.proofs.joins_at.Goals as goal

module _ (a0 a p b b0 : Pt) where
  both : {u v : ℤ} → u ≡ cross (a -ᵖ a0) (p -ᵖ a) → v ≡ cross (b -ᵖ p) (b0 -ᵖ b) → le_z (pos 0) u ≡ true → le_z (pos 0) v ≡ joins a0 a p b b0
  unfolding joins
  both {u} {v} e f h = ap (le_z (pos 0)) f ∙ sym (ap (λ t. cond t (le_z (pos 0) (cross (b -ᵖ p) (b0 -ᵖ b))) false) (ap (le_z (pos 0)) (sym e) ∙ h))

  refused : {u : ℤ} → u ≡ cross (a -ᵖ a0) (p -ᵖ a) → le_z (pos 0) u ≡ false → le_z (pos 0) u ≡ joins a0 a p b b0
  unfolding joins
  refused {u} e h = h ∙ sym (ap (λ t. cond t (le_z (pos 0) (cross (b -ᵖ p) (b0 -ᵖ b))) false) (ap (le_z (pos 0)) (sym e) ∙ h))

pub returns-then-cross_product-ge0 : goal.returns-then-cross_product-ge0
returns-then-cross_product-ge0 c = let f = got w64 c.cross_product.result c.cross_product.type_inv ∙ c.cross_product.ensures.0 ∙ (λ i. cross (c.subtract.ensures.0 i) (c.subtract-2.ensures.0 i)) in
    let g = got w64 c.cross_product-then-cross_product-ge0.result c.cross_product-then-cross_product-ge0.type_inv ∙ c.cross_product-then-cross_product-ge0.ensures.0 ∙ (λ i. cross (c.subtract-then-cross_product-ge0.ensures.0 i) (c.subtract-then-cross_product-ge0-2.ensures.0 i)) in
    both _ _ _ _ _ f g c.if-cross_product-ge0.true

pub returns-else-cross_product-ge0 : goal.returns-else-cross_product-ge0
returns-else-cross_product-ge0 c = let f = got w64 c.cross_product.result c.cross_product.type_inv ∙ c.cross_product.ensures.0 ∙ (λ i. cross (c.subtract.ensures.0 i) (c.subtract-2.ensures.0 i)) in
    refused _ _ _ _ _ f c.if-cross_product-ge0.false
