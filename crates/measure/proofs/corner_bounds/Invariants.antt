-- `measure::corner_bounds` meets its contract. The loop's invariant: the bounds of the whole are
-- those so far with the corners that are left brought in. Assumes nothing.
use mathlib.Core.Path.{◌≡◌}
use lib.ListN.{drop}
use Rattle.corners.specs.Corners.{points_of}
use Rattle.mesh_bounds.specs.Bounds.{widened_by, bounds_of}
use Rattle.measure.proofs.corner_bounds.Given as goal

abbrev pub invariant-loop-k : goal.invariant-loop-k
invariant-loop-k l = widened_by l.b (drop l.k (points_of l.corners)) ≡ bounds_of (points_of l.corners)
