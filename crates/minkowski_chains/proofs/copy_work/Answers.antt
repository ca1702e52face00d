-- `minkowski_chains::copy_work` meets its contract: the corners before k are put. Assumes nothing.
use mathlib.Core.Path.{◌∙◌, ap, subst}
use Prim.Native.Nat.{◌+◌}
use native.Mathlib.Omega.{arith}
use Rattle.corners.specs.Corners.{with_corner}
use Rattle.corners.proofs.Corners.{length_points}
use Rattle.pair_merge.specs.Putting.{CornersPut}
use Rattle.minkowski_chains.specs.Contours.{work_corners}
use Rattle.minkowski_chains.proofs.Copying.{copied_start, copied_next}
use Rattle.minkowski_chains.proofs.copy_work.Goals as goal

pub loop-k-init : goal.loop-k-init
loop-k-init c = copied_start c.args.work.now c.args.out.now c.args.at

pub corner_at-requires : goal.corner_at-requires
corner_at-requires c = omega (arith, c.loop-k-test.true, c.requires.0, length_points c.args.work.now)

pub put_corner-requires : goal.put_corner-requires
put_corner-requires c = omega (arith, c.loop-k-test.true, c.requires.1, c.loop-k.invariant.size, length_points c.loop-k.out)

pub loop-k-preserved : goal.loop-k-preserved
loop-k-preserved c = copied_next c.args.work.now c.loop-k.k (omega (arith, c.loop-k-test.true, c.requires.0)) c.loop-k.invariant (omega (arith, c.loop-k-test.true, c.requires.1, c.loop-k.invariant.size))
    (c.put_corner.ensures ∙ ap (λ p. with_corner c.loop-k.out (c.args.at + c.loop-k.k) p) c.corner_at.ensures)

pub returns : goal.returns
returns c = let g = c.args in
    subst (λ n. CornersPut (work_corners n g.work.now) g.out.now g.at c.loop-k.out (g.at + n)) (omega (arith, c.loop-k-test.false, c.loop-k.auto.k-end)) c.loop-k.invariant
