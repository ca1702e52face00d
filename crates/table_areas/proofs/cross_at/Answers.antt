-- `table_areas::cross_at` meets its contract: the cross of two points is the doubled area that they
-- and the origin have. Assumes nothing.
use mathlib.Core.Path.{sym, ◌∙◌, subst}
use native.Mathlib.Omega.{arith}
use mir.Syntax.{w64}
use Rattle.integers.proofs.Bits.{got}
use Rattle.plane.specs.Plane.{O, area_two}
use Rattle.plane.specs.Machine.{CrossSize}
use Rattle.corners.specs.Corners.{points_of}
use Rattle.pair.specs.Walk.{corner_at}
use Rattle.walk_read.proofs.Grid.{grid_at}
use Rattle.table_areas.proofs.Sums.{origin_area}
use Rattle.table_areas.proofs.cross_at.Goals as goal

pub area_two-requires : goal.area_two-requires
area_two-requires c = let e = c.requires in
    let l = c.args.contour.now in (
      record { x_small = record { abs = omega arith }; y_small = record { abs = omega arith } },
      grid_at l e.ranged e.from c.corner_at.ensures,
      grid_at l e.ranged e.to c.corner_at-2.ensures,
    )

pub returns : goal.returns
returns c = let k = got w64 _ c.area_two.type_inv in
    let l = points_of c.args.contour.now in (
      k ∙ c.area_two.ensures.0 ∙ (λ i. area_two O (c.corner_at.ensures i) (c.corner_at-2.ensures i)) ∙ origin_area (corner_at l c.args.i) (corner_at l c.args.k),
      subst CrossSize (sym k) c.area_two.ensures.1,
    )
