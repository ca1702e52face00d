-- `table_areas::contour_area` meets its contract. The loop's invariant is `Summing` of Sums.
-- Assumes nothing.
use mathlib.Core.Path.{◌≡◌, sym, ◌∙◌, subst}
use Prim.Native.Nat.{◌<◌, ◌-◌}
use native.Mathlib.Omega.{arith}
use lib.ListN.{length}
use mir.Syntax.{w64}
use Rattle.integers.proofs.Bits.{got}
use Rattle.plane.specs.Machine.{CrossSize}
use Rattle.corners.specs.Corners.{points_of}
use Rattle.table_areas.proofs.Sums.{Summing, sums_start, sums_turn, sums_end, no_corners}
use Rattle.table_areas.proofs.contour_area.Goals as goal

pub returns-then-n-eq0-clause-sum : goal.returns-then-n-eq0-clause-sum
returns-then-n-eq0-clause-sum c = no_corners _ (omega (arith, c.if-n-eq0.true, c.corner_count-n.ensures))

pub loop-k-init : goal.loop-k-init
loop-k-init c = let l = points_of c.args.contour.now in
    let e = c.corner_count-n.ensures in
    let some : length l ≡ 0 → ⊥ = λ z. c.if-n-eq0.false (e ∙ z) in
    (omega (arith, e, c.if-n-eq0.false), subst (λ m. Summing l (m - 1) 0 _) (sym e) (sums_start l some))

pub loop-k-preserved : goal.loop-k-preserved
loop-k-preserved c = let inside : c.loop-k.k < length (points_of c.args.contour.now) = omega (arith, c.loop-k-test.true, c.corner_count-n.ensures) in
    let z = got w64 _ c.cross_at.type_inv in
    (inside, sums_turn _ c.loop-k.invariant.1 inside (z ∙ c.cross_at.ensures.0) (subst CrossSize (sym z) c.cross_at.ensures.1) c.add_term-total.ensures)

pub returns-clause-sum : goal.returns-clause-sum
returns-clause-sum c = let g = c.loop-k.invariant in
    sums_end _ g.1 (omega (arith, c.loop-k-test.false, c.corner_count-n.ensures))
