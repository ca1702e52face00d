-- `convex_gather::copy_points` meets its contract. Assumes nothing.
use mathlib.Core.Path.{refl, sym, ◌∙◌, ap}
use native.Mathlib.Omega.{arith}
use lib.ListN.{length, length-set}
use Rattle.integers.proofs.Overlay.{overlay_nil}
use Rattle.corners.specs.Corners.{numbers_of}
use Rattle.corners.proofs.Corners.{length_points}
use Rattle.convex_gather.proofs.Answer.{points_turn}
use Rattle.convex_gather.proofs.copy_points.Goals as goal

pub loop-i-init : goal.loop-i-init
unfolding numbers_of
loop-i-init c = (refl, sym (overlay_nil c.args.to.now))

pub put_point-requires : goal.put_point-requires
put_point-requires c = (omega (arith, c.requires.0), omega (arith, c.requires.1, c.loop-i.invariant.0, length_points c.args.to.now, length_points c.loop-i.to))

pub loop-i-preserved : goal.loop-i-preserved
loop-i-preserved c = let e = c.put_point.ensures in
    (ap length e ∙ simp length-set c.loop-i.invariant.0, points_turn c.args.points.now c.args.to.now (omega (arith, c.requires.0)) (omega (arith, c.requires.1)) c.loop-i.invariant.1 e)
