-- `walk_extremes::extreme_at` meets its contract. The loop's invariant: the search goes on from the
-- best corner so far. Assumes nothing.
use mathlib.Core.Path.{◌≡◌}
use mathlib.Core.Bool.{cond, not}
use lib.Dec.{eqb}
use Prim.Native.Nat.{◌<◌}
use Rattle.corners.specs.Corners.{points_of}
use Rattle.pair.specs.Walk.{least_at, greatest_at}
use Rattle.walk_extremes.proofs.Searches.{extreme_from}
use Rattle.walk_extremes.proofs.extreme_at.Given as goal

abbrev pub invariant-loop-i : goal.invariant-loop-i
invariant-loop-i g l =
    let greatest = not (eqb g.row.GREATEST 0) in
    (l.best < l.i) × (cond greatest (greatest_at (points_of l.contour)) (least_at (points_of l.contour)) ≡ extreme_from greatest l.best l.i (points_of l.contour))
