-- `placement::side_at` meets its contract: the two corners by their places. Assumes nothing.
use Rattle.walk_read.proofs.Grid.{grid_at}
use Rattle.placement.proofs.side_at.Goals as goal

pub area_two-requires : goal.area_two-requires
area_two-requires c = let e = c.requires.0 in
    let l = c.args.contour.now in (
      grid_at l e.ranged e.from c.corner_at.ensures,
      grid_at l e.ranged e.to c.corner_at-2.ensures,
      c.requires.1,
    )
