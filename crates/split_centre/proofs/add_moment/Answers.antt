-- `split_centre::add_moment` meets its contract: |a + b| < 2^32 and |cross| < 2^63, so the
-- product's high word is below 2^32. Assumes nothing.
use mathlib.Core.Path.{◌≡◌, ◌∙◌, ap, ap₂}
use Prim.Native.Nat.{ℕ, ◌+◌, ◌*◌, ◌^◌, ◌≤◌, ◌<◌}
use native.Mathlib.Omega.{arith}
use native.Mathlib.Nat.{mul-le-mul}
use lib.IntN.{ℤ, nat_abs, ◌+ℤ◌, ◌*ℤ◌, *ℤ_comm}
use mir.Syntax.{w64}
use mir.Val.{SFits, to_z, of_z}
use Rattle.integers.proofs.Bits.{kept, add_fits, add_is}
use Rattle.integers.proofs.Sizes.{abs_+, abs_*}
use Rattle.plane.specs.Machine.{Extent, CrossSize}
use Rattle.wide.specs.declared.SignedProduct.{SignedProduct}
use Rattle.wide.specs.Words.{value}
use Rattle.wide.proofs.Signs.{high_below}
use Rattle.split_centre.proofs.add_moment.Goals as goal

-- u, v and j are a, b and k read back
module _ {a b k u v j : ℤ} (p : u ≡ a) (q : v ≡ b) (r : j ≡ k) (ha : Extent a) (hb : Extent b) (hk : CrossSize k) where
  sum_fits : SFits w64 (u +ℤ v)
  sum_fits = add_fits p q (omega (arith, ha.abs, hb.abs))

  -- the sum read back
  sum_is : to_z w64 (of_z w64 (u +ℤ v)) ≡ a +ℤ b
  sum_is = add_is p q sum_fits

  sum_small : nat_abs (to_z w64 (of_z w64 (u +ℤ v))) < 4294967296
  sum_small = rw sum_is (omega (arith, abs_+ a b, ha.abs, hb.abs))

  cross_small : nat_abs j < 9223372036854775808
  cross_small = rw r (omega (arith, hk.abs))

  product_is : (t : SignedProduct) → value t ≡ j *ℤ to_z w64 (of_z w64 (u +ℤ v)) → value t ≡ (a +ℤ b) *ℤ k
  product_is t e = e ∙ ap₂ ◌*ℤ◌ r sum_is ∙ *ℤ_comm k (a +ℤ b)

  room : {h : ℕ} (t : SignedProduct) → h < 2 ^ 62 → value t ≡ j *ℤ to_z w64 (of_z w64 (u +ℤ v)) → h + t.words.high + 1 < 18446744073709551616
  room t l e =
      let size : nat_abs (value t) ≡ nat_abs j * nat_abs (to_z w64 (of_z w64 (u +ℤ v))) = ap nat_abs e ∙ abs_* j (to_z w64 (of_z w64 (u +ℤ v))) in
      let most : nat_abs j * nat_abs (to_z w64 (of_z w64 (u +ℤ v))) ≤ 9223372036854775807 * 4294967295 = mul-le-mul {n₂ = 9223372036854775807} {m₂ = 4294967295} (omega (arith, cross_small)) (omega (arith, sum_small)) in
      omega (arith, l, high_below t (omega (arith, size, most)))

pub add-requires : goal.add-requires
add-requires c = room (kept c.ranges.a) (kept c.ranges.b) (kept c.ranges.cross) c.requires.1 c.requires.2 c.requires.3 c.multiply.result c.requires.0 c.multiply.ensures

pub returns : goal.returns
returns c = c.add.ensures ∙ ap (λ z. value c.args.sum +ℤ z) (product_is (kept c.ranges.a) (kept c.ranges.b) (kept c.ranges.cross) c.requires.1 c.requires.2 c.requires.3 c.multiply.result c.multiply.ensures)
