-- `table_areas::total_area` meets its contract. The loop's invariant is `Totalling` of Sums with
-- the corners before contour k. Assumes nothing.
use lib.ListN.{get_or}
use Rattle.table.specs.Table.{table_parts}
use Rattle.table_areas.proofs.Sums.{Totalling}
use Rattle.table_areas.proofs.total_area.Given as goal

abbrev pub invariant-loop-k : goal.invariant-loop-k
invariant-loop-k l = Totalling (table_parts l.starts l.corners) (get_or l.starts l.k 0) l.k l.total
