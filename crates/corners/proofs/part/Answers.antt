-- `corners::part` meets its contract: the numbers from 2 from to before 2 to. Assumes nothing.
use Prim.Native.Nat.{◌*◌}
use native.Mathlib.Omega.{arith}
use Rattle.corners.proofs.Corners.{length_points, take-drop}
use Rattle.corners.proofs.part.Goals as goal

pub overflow_mul-first : goal.overflow_mul-first
overflow_mul-first c = omega (arith, length_points c.args.corners.now)

pub overflow_mul-end : goal.overflow_mul-end
overflow_mul-end c = omega (arith, length_points c.args.corners.now)

pub offset_bounds-corners-first : goal.offset_bounds-corners-first
offset_bounds-corners-first c = omega (arith, length_points c.args.corners.now)

pub slice_bounds-result-end : goal.slice_bounds-result-end
slice_bounds-result-end c = omega (arith, length_points c.args.corners.now)

pub returns-clause-numbers : goal.returns-clause-numbers
returns-clause-numbers c = take-drop (2 * c.args.from) (2 * c.args.to) c.args.corners.now (omega arith)
