-- `table_areas::contour_area` meets its contract. The loop's invariant is `Summing` of Sums.
-- Assumes nothing.
use Prim.Native.Nat.{◌<◌}
use lib.ListN.{length}
use Rattle.corners.specs.Corners.{points_of}
use Rattle.table_areas.proofs.Sums.{Summing}
use Rattle.table_areas.proofs.contour_area.Given as goal

abbrev pub invariant-loop-k : goal.invariant-loop-k
invariant-loop-k l = (l.i < length (points_of l.contour)) × Summing (points_of l.contour) l.i l.k l.total
