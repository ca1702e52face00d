-- `pair_merge::merge` meets its contract. The loop's invariant: what is still to come is the merge
-- of the points from i and from j on. Assumes nothing.
use Prim.Native.Nat.{◌+◌, ◌-◌, ◌<◌}
use lib.ListN.{length, drop}
use Rattle.pair_points.specs.Points.{merged_of}
use Rattle.pair_merge.specs.Putting.{points_in, Reached}
use Rattle.pair_merge.proofs.merge.Given as goal

abbrev pub invariant-loop-i : goal.invariant-loop-i
invariant-loop-i l = (l.i < length l.a) × (l.j < length l.b) × Reached (merged_of (points_in l.a) (points_in l.b)) (merged_of (drop l.i (points_in l.a)) (drop l.j (points_in l.b))) l.initial.out l.at l.out l.k

abbrev pub decreases-loop-i : goal.decreases-loop-i
decreases-loop-i l = (length l.a - l.i) + (length l.b - l.j)
