-- `convex_gather::copy_points` meets its contract. Assumes nothing.
use mathlib.Core.Path.{◌≡◌}
use lib.ListN.{length}
use Rattle.integers.specs.Lists.{overlay}
use Rattle.corners.specs.Corners.{numbers_of}
use Rattle.points.specs.Points.{first_points}
use Rattle.convex_gather.proofs.copy_points.Given as goal

abbrev pub invariant-loop-i : goal.invariant-loop-i
invariant-loop-i l = (length l.to ≡ length l.initial.to) × (l.to ≡ overlay (numbers_of (first_points l.i l.points)) l.initial.to)
