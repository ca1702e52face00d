-- `walk_begin::place_by` meets its contract: the sign of the winding, as the definition tests it.
-- Assumes nothing.
use native.Mathlib.Omega.{arith}
use Rattle.corners.specs.Corners.{points_of}
use Rattle.pair.proofs.Start.{end_inside}
use Rattle.walk.proofs.Answers.{few_corners}
use Rattle.walk_begin.proofs.place_by.Goals as goal

pub overflow_cast-n : goal.overflow_cast-n
overflow_cast-n c = omega (arith, c.corner_count-n.ensures, few_corners c.args.contour.now c.requires.0)

pub overflow_cast-start : goal.overflow_cast-start
overflow_cast-start c = omega (arith, few_corners c.args.contour.now c.requires.0)

pub overflow_cast-e : goal.overflow_cast-e
overflow_cast-e c = omega (arith, c.end_at-e.ensures, end_inside c.args.reflected (points_of c.args.contour.now) (omega arith), few_corners c.args.contour.now c.requires.0)

pub corner_at-requires-else-total-gt0 : goal.corner_at-requires-else-total-gt0
corner_at-requires-else-total-gt0 c = omega (arith, c.end_at-e.ensures, end_inside c.args.reflected (points_of c.args.contour.now) (omega arith))
