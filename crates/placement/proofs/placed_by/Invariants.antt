-- `placement::placed_by` meets its contract. The loop's invariant is `ByTurn` of Contours. Assumes
-- nothing.
use Rattle.plane.specs.Machine.{point}
use Rattle.table.specs.Table.{table_parts}
use Rattle.placement.proofs.Contours.{ByTurn}
use Rattle.placement.proofs.placed_by.Given as goal

abbrev pub invariant-loop-k : goal.invariant-loop-k
invariant-loop-k l = ByTurn (point l.z) (table_parts l.starts l.corners) l.k l.touches
