-- `table::bounds_broken` meets its contract. The loop's invariant: the answer is that for the
-- corners from k on. Assumes nothing.
use mathlib.Core.Path.{◌≡◌}
use lib.ListN.{drop}
use Rattle.corners.specs.Corners.{points_of}
use Rattle.table.specs.Table.{some_outside, bounds_broken}
use Rattle.table.proofs.bounds_broken.Given as goal

abbrev pub invariant-loop-k : goal.invariant-loop-k
invariant-loop-k l = bounds_broken l.bounds (points_of l.corners) ≡ some_outside l.bounds (drop l.k (points_of l.corners))
