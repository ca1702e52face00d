-- `placement::placed_at` meets its contract: contour k lies within the corners. Assumes nothing.
use mathlib.Core.Path.{◌∙◌, ap}
use Prim.Native.Nat.{◌+◌, ◌*◌}
use lib.ListN.{get_or}
use native.Mathlib.Omega.{arith}
use Rattle.plane.specs.Machine.{point}
use Rattle.corners.specs.Corners.{points_of, off_range}
use Rattle.corners.proofs.Corners.{length_points}
use Rattle.corners.proofs.Range.{off_slice}
use Rattle.placement.specs.Placement.{contact_in}
use Rattle.placement.proofs.Contours.{lies, contour_at}
use Rattle.placement.proofs.placed_at.Goals as goal

pub part-requires : goal.part-requires
part-requires c = let p = lies c.requires.0 c.requires.1 in
    (p.rises, omega (arith, p.within, length_points c.args.corners.now))

pub placed_in-requires : goal.placed_in-requires
placed_in-requires c = let g = c.args in
    (ap off_range c.part.ensures.numbers ∙ off_slice (2 * get_or g.starts.now g.k 0) (2 * get_or g.starts.now (g.k + 1) 0) g.corners.now c.requires.0.ranged, c.requires.2)

pub returns : goal.returns
returns c = c.placed_in.ensures ∙ ap (contact_in (point c.args.z)) (ap points_of c.part.ensures.numbers ∙ contour_at _ _ c.requires.1)
