-- `corners::front` meets its contract: the numbers before 2 count. Assumes nothing.
use mathlib.Core.Path.{sym}
use native.Mathlib.Omega.{arith}
use lib.Seq.{length-take-le}
use Rattle.corners.proofs.Corners.{length_points}
use Rattle.corners.proofs.front.Goals as goal

pub overflow_mul-end : goal.overflow_mul-end
overflow_mul-end c = omega (arith, length_points c.args.corners.now)

pub slice_bounds-result-end : goal.slice_bounds-result-end
slice_bounds-result-end c = sym (length-take-le _ _ (omega (arith, length_points c.args.corners.now)))
