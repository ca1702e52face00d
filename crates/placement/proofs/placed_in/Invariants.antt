-- `placement::placed_in` meets its contract. The loop's invariant is `InTurn` of Contour. Assumes
-- nothing.
use Prim.Native.Nat.{◌<◌}
use lib.ListN.{length}
use Rattle.plane.specs.Machine.{point}
use Rattle.corners.specs.Corners.{points_of}
use Rattle.placement.proofs.Contour.{InTurn}
use Rattle.placement.proofs.placed_in.Given as goal

abbrev pub invariant-loop-k : goal.invariant-loop-k
invariant-loop-k l = (l.i < length (points_of l.contour)) × InTurn (point l.z) (points_of l.contour) l.i l.k l.strict l.left
