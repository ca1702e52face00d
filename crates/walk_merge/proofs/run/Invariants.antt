-- `walk_merge::run` meets its contract. The loop's invariant: it will stop where the steps from s
-- do. Assumes nothing.
use mathlib.Core.Path.{◌≡◌}
use Rattle.corners.specs.Corners.{points_of}
use Rattle.pair.specs.Pair.{steps_left}
use Rattle.walk_merge.specs.Merging.{MayStep, final_of}
use Rattle.walk_merge.proofs.run.Given as goal

abbrev pub invariant-loop-next : goal.invariant-loop-next
invariant-loop-next l = MayStep l.left l.right l.g × (final_of (points_of l.left) (points_of l.right) l.g ≡ final_of (points_of l.left) (points_of l.right) l.initial.g)

abbrev pub decreases-loop-next : goal.decreases-loop-next
decreases-loop-next l = steps_left l.g.at
