-- `table_areas::area_at` meets its contract: contour k lies within the corners. Assumes nothing.
use mathlib.Core.Path.{◌∙◌, ap}
use Prim.Native.Nat.{◌+◌, ◌*◌}
use lib.ListN.{get_or}
use native.Mathlib.Omega.{arith}
use Rattle.plane.specs.Contour.{contour_area}
use Rattle.corners.specs.Corners.{points_of, off_range}
use Rattle.corners.proofs.Corners.{length_points}
use Rattle.corners.proofs.Range.{off_slice}
use Rattle.placement.proofs.Contours.{lies, contour_at}
use Rattle.table_areas.proofs.Sums.{taken_terms}
use Rattle.table_areas.proofs.area_at.Goals as goal

pub part-requires : goal.part-requires
part-requires c = let p = lies c.requires.0 c.requires.1 in
    (p.rises, omega (arith, p.within, length_points c.args.corners.now))

pub contour_area-requires : goal.contour_area-requires
contour_area-requires c = let g = c.args in
    ap off_range c.part.ensures.numbers ∙ off_slice (2 * get_or g.starts.now g.k 0) (2 * get_or g.starts.now (g.k + 1) 0) g.corners.now c.requires.0.ranged

pub returns-clause-sum : goal.returns-clause-sum
returns-clause-sum c = let g = c.args in c.contour_area.ensures.sum ∙ ap contour_area (ap points_of c.part.ensures.numbers ∙ contour_at _ _ c.requires.1)

pub returns-clause-size : goal.returns-clause-size
returns-clause-size c = let g = c.args in taken_terms g.starts.now g.corners.now g.k c.part.ensures.numbers c.contour_area.ensures.size
