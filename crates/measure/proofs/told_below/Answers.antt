-- `measure::told_below` meets its contract: -size is -1 less size - 1. Assumes nothing.
use mathlib.Core.Path.{◌≡◌, ◌∙◌}
use Prim.Native.Nat.{ℕ, ◌-◌}
use native.Mathlib.Omega.{arith}
use lib.IntN.{pos, negsuc, neg_ℤ}
use mir.Syntax.{w64}
use Rattle.integers.proofs.Order.{zarith, neg_parts}
use Rattle.integers.proofs.Bits.{down_is}
use Rattle.measure.specs.Measured.{area_refused, area_told}
use Rattle.measure.proofs.Answers.{below_told, below_refused}
use Rattle.measure.proofs.told_below.Goals as goal

minus : {n : ℕ} → (n ≡ 0 → ⊥) → negsuc (n - 1) ≡ neg_ℤ (pos n)
minus {n} h = omega (zarith, neg_parts (pos n))

none : {n : ℕ} → n ≡ 0 → area_refused 0 ≡ area_told (neg_ℤ (pos n))
none {n} h = below_told n (omega (arith, h)) (omega (zarith, h, neg_parts (pos n)))

pub returns-then-size-eq0 : goal.returns-then-size-eq0
returns-then-size-eq0 c = c.refused.ensures ∙ none c.if-size-eq0.true

pub returns-then-size-gt-LARGEST_BELOW : goal.returns-then-size-gt-LARGEST_BELOW
returns-then-size-gt-LARGEST_BELOW c = c.refused-then-size-gt-LARGEST_BELOW.ensures ∙ below_refused c.args.size (omega (arith, c.if-size-gt-LARGEST_BELOW.true))

pub returns : goal.returns
returns c = let n = c.args.size in
    below_told n (omega (arith, c.if-size-gt-LARGEST_BELOW.false)) (down_is w64 (n - 1) (omega (arith, c.if-size-gt-LARGEST_BELOW.false)) ∙ minus c.if-size-eq0.false)
