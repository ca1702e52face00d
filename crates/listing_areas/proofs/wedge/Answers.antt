-- `listing_areas::wedge` meets its contract: the three corners by their places. Assumes nothing.
use Rattle.std.proofs.Common.{◌+◌, arith}
use Rattle.corners.proofs.Corners.{length_points}
use Rattle.walk_read.proofs.Grid.{grid_at}
use Rattle.listing_areas.proofs.wedge.Goals as goal

pub overflow_add-i : goal.overflow_add-i
overflow_add-i c = omega (arith, c.requires.1, length_points c.args.corners.now)

pub area_two-requires : goal.area_two-requires
area_two-requires c = let l = c.args.corners.now in (
  grid_at l {i = 0} c.requires.0 (omega (arith, c.requires.1)) c.corner_at-first.ensures,
  grid_at l {i = c.args.i} c.requires.0 (omega (arith, c.requires.1)) c.corner_at-a.ensures,
  grid_at l {i = c.args.i + 1} c.requires.0 (omega (arith, c.requires.1)) c.corner_at-b.ensures,
)
