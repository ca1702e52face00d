-- `placement::is_among` meets its contract. The loop's invariant is `AmongTurn` of Contour. Assumes
-- nothing.
use Rattle.plane.specs.Machine.{point}
use Rattle.corners.specs.Corners.{points_of}
use Rattle.placement.proofs.Contour.{AmongTurn}
use Rattle.placement.proofs.is_among.Given as goal

abbrev pub invariant-loop-k : goal.invariant-loop-k
invariant-loop-k l = AmongTurn (point l.z) (points_of l.contour) l.k l.right l.left l.above l.below
