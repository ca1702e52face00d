-- `table_areas::total_area` meets its contract. The loop's invariant is `Totalling` of Sums with
-- the corners before contour k. Assumes nothing.
use Prim.Native.Nat.{◌<◌}
use native.Mathlib.Omega.{arith}
use lib.ListN.{length}
use Rattle.table.specs.Table.{table_parts}
use Rattle.placement.proofs.Contours.{lies, count_contours}
use Rattle.table_areas.proofs.Sums.{totals_turn, totals_end}
use Rattle.table_areas.proofs.total_area.Goals as goal

pub overflow_sub-parts : goal.overflow_sub-parts
overflow_sub-parts c = omega (arith, (count_contours c.requires).1)

pub loop-k-preserved : goal.loop-k-preserved
loop-k-preserved c = let p = lies c.requires c.loop-k-test.true in
    let inside : c.loop-k.k < length (table_parts c.args.starts.now c.args.corners.now) = omega (arith, c.loop-k-test.true, (count_contours c.requires).0) in
    totals_turn _ c.loop-k.invariant inside c.area_at.ensures.sum c.area_at.ensures.size p.rises c.add-total.ensures

pub returns : goal.returns
returns c = totals_end _ c.loop-k.invariant (omega (arith, c.loop-k-test.false, (count_contours c.requires).0))
