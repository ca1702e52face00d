-- `pair_merge::rest` meets its contract. The loop's invariant: what is still to come is the rest
-- from point p on. Assumes nothing.
use lib.ListN.{drop}
use Rattle.points.specs.Points.{corner_in}
use Rattle.pair_points.specs.Points.{rest_of}
use Rattle.pair_merge.specs.Putting.{points_in, Reached}
use Rattle.pair_merge.proofs.rest.Given as goal

abbrev pub invariant-loop-p : goal.invariant-loop-p
invariant-loop-p l = Reached (rest_of (corner_in l.b l.j) (drop l.i (points_in l.a))) (rest_of (corner_in l.b l.j) (drop l.p (points_in l.a))) l.initial.out l.at l.out l.k
