-- `pair_unroll::add_walk` meets its contract: the invariant is `Walking` of Walked, and the measure
-- the steps left. Assumes nothing.
use Rattle.corners.specs.Corners.{points_of}
use Rattle.pair_unroll.proofs.Walked.{Walking}
use Rattle.pair_unroll.proofs.add_walk.Given as goal

abbrev pub invariant-loop-w : goal.invariant-loop-w
invariant-loop-w l = Walking (points_of l.contour) l.initial.w l.w l.initial.points l.from l.points l.count

abbrev pub decreases-loop-w : goal.decreases-loop-w
decreases-loop-w l = l.w.remaining
