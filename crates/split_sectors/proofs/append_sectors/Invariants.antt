-- `split_sectors::append_sectors` meets its contract: the invariant is `Sectoring` of Turns.
-- Assumes nothing.
use lib.ListN.{length}
use Rattle.plane.specs.Machine.{point}
use Rattle.points.specs.Points.{corner_in, corners_in}
use Rattle.split.specs.Splitting.{centroid_parts}
use Rattle.split_sectors.proofs.Turns.{Sectoring}
use Rattle.split_sectors.proofs.append_sectors.Given as goal

abbrev pub invariant-loop-i : goal.invariant-loop-i
invariant-loop-i l = Sectoring l.contour (point l.centre) (centroid_parts l.limit (point l.centre) (corner_in l.contour 0) (corners_in l.contour)) (length l.contour) l.part_count l.i l.start l.initial.starts l.initial.points l.initial.tally l.starts l.points l.tally
