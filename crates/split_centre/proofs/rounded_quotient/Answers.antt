-- `split_centre::rounded_quotient` meets its contract: the magnitude rounded, with the sum's sign.
-- Assumes nothing.
use mathlib.Core.Path.{◌≡◌, sym, ◌∙◌, ap}
use mathlib.Core.Bool.{Bool, true, false}
use Prim.Native.Nat.{ℕ, ◌≤◌, ◌<◌}
use native.Mathlib.Omega.{arith}
use lib.IntN.{pos, ◌-ℤ◌}
use mir.Syntax.{w64}
use mir.Val.{SFits, to_z, of_z}
use mir.ValLaws.{to_z_pos}
use Rattle.integers.proofs.Order.{zarith, sub_parts, neg_parts}
use Rattle.integers.proofs.Sizes.{abs_neg}
use Rattle.integers.proofs.Bits.{back, cast_fits}
use Rattle.plane.specs.Machine.{Extent}
use Rattle.wide.specs.Words.{magnitude, signed}
use Rattle.wide_divide.specs.Quotients.{nearest}
use Rattle.split.specs.Splitting.{rounded}
use Rattle.split_centre.proofs.Rounding.{rounded_signed, rounded_size}
use Rattle.split_centre.proofs.rounded_quotient.Goals as goal

small : (s : Bool) (m : ℕ) {d : ℕ} → 0 < d → Extent (rounded (signed s m) d) → nearest m d ≤ 2147483646
small s m {d} h w = omega (arith, w.abs, rounded_size s m h)

-- n is the magnitude rounded
module _ (s : Bool) (m : ℕ) {d n : ℕ} (h : 0 < d) (w : Extent (rounded (signed s m) d)) (e : n ≡ nearest m d) where
  up_fits : SFits w64 (pos n)
  up_fits = record { sfits = omega (arith, small s m h w) }

  up : to_z w64 n ≡ pos n
  up = to_z_pos w64 n (omega (arith, small s m h w))

  less : pos 0 -ℤ to_z w64 n ≡ signed true n
  less = ap (λ z. pos 0 -ℤ z) up ∙ omega (zarith, sub_parts (pos 0) (pos n), neg_parts (pos n))

  less_fits : SFits w64 (pos 0 -ℤ to_z w64 n)
  less_fits = cast_fits {x = signed true n} less (omega (arith, small s m h w, abs_neg (pos n)))

  below : s ≡ true → to_z w64 (of_z w64 (pos 0 -ℤ to_z w64 n)) ≡ rounded (signed s m) d
  below t = back less_fits less ∙ ap (signed true) e ∙ ap (λ b. signed b (nearest m d)) (sym t) ∙ sym (rounded_signed s m h)

  above : s ≡ false → to_z w64 n ≡ rounded (signed s m) d
  above t = up ∙ ap (signed false) e ∙ ap (λ b. signed b (nearest m d)) (sym t) ∙ sym (rounded_signed s m h)

pub divide_with_rounding-size-requires : goal.divide_with_rounding-size-requires
divide_with_rounding-size-requires c = let h : 0 < c.args.d = omega (arith, c.requires.0) in
    (c.requires.0, omega (arith, small c.args.sum.negative (magnitude c.args.sum.words) h c.requires.1))

pub overflow_cast-size : goal.overflow_cast-size
overflow_cast-size c = up_fits c.args.sum.negative (magnitude c.args.sum.words) (omega (arith, c.requires.0)) c.requires.1 c.divide_with_rounding-size.ensures

pub overflow_sub-result : goal.overflow_sub-result
overflow_sub-result c = let r = c.divide_with_rounding-size in
    less_fits c.args.sum.negative (magnitude c.args.sum.words) (omega (arith, c.requires.0)) c.requires.1 r.ensures

pub returns-then-sum : goal.returns-then-sum
returns-then-sum c = let r = c.divide_with_rounding-size in
    below c.args.sum.negative (magnitude c.args.sum.words) (omega (arith, c.requires.0)) c.requires.1 r.ensures c.if-sum.true

pub returns-else-sum : goal.returns-else-sum
returns-else-sum c = let r = c.divide_with_rounding-size in
    above c.args.sum.negative (magnitude c.args.sum.words) (omega (arith, c.requires.0)) c.requires.1 r.ensures c.if-sum.false
