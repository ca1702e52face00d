-- `walk_winding::winding` meets its contract. The loop's invariant: the winding is that of the
-- total so far and the terms to come. Assumes nothing.
use mathlib.Core.Path.{◌≡◌}
use lib.ListN.{drop}
use lib.IntN.{pos}
use Rattle.corners.specs.Corners.{points_of}
use Rattle.pair.specs.Walk.{winding_terms}
use Rattle.walk_winding.specs.Winding.{winding_of}
use Rattle.walk_winding.proofs.winding.Given as goal

abbrev pub invariant-loop-k : goal.invariant-loop-k
invariant-loop-k l = winding_of (pos 0) (winding_terms l.s (points_of l.contour)) ≡ winding_of l.total (drop l.k (winding_terms l.s (points_of l.contour)))
