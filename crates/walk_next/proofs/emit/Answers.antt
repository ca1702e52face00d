-- `walk_next::emit` meets its contract: the sum of the points, and whether an edge was begun.
-- Assumes nothing.
use mathlib.Core.Path.{◌∙◌}
use Rattle.plane.specs.Plane.{◌+ᵖ◌}
use Rattle.corners.specs.Corners.{points_of}
use Rattle.walk.proofs.Answers.{index_inside}
use Rattle.walk_read.proofs.Grid.{off_nowhere}
use Rattle.walk_next.proofs.Promises.{corner_given, end_given}
use Rattle.walk_next.proofs.emit.Goals as goal

pub point_of-requires : goal.point_of-requires
point_of-requires c = let j = c.requires in
    (j.left_placed_lem, off_nowhere c.args.left.now j.left_range (index_inside _ c.args.s.a j.left_placed_lem))

pub point_of-requires-2 : goal.point_of-requires-2
point_of-requires-2 c = let j = c.requires in
    (j.right_placed_lem, off_nowhere c.args.right.now j.right_range (index_inside _ c.args.s.b j.right_placed_lem))

pub returns-in-Some : goal.returns-in-Some
returns-in-Some c = corner_given (points_of c.args.left.now) (points_of c.args.right.now) c.args.s c.run-g.result c.run-g.ensures
    c.in-Some.is (c.add_points-p.ensures ∙ (λ i. c.point_of.ensures.0 i +ᵖ c.point_of-2.ensures.0 i))

pub returns-in-None : goal.returns-in-None
returns-in-None c = end_given (points_of c.args.left.now) (points_of c.args.right.now) c.args.s c.run-g.result c.run-g.ensures
    c.in-None.is
