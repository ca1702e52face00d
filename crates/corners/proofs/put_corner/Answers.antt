-- `corners::put_corner` meets its contract: two numbers stored. Assumes nothing.
use native.Mathlib.Omega.{arith}
use lib.ListN.{length-set}
use Rattle.corners.proofs.Corners.{length_points}
use Rattle.corners.proofs.put_corner.Goals as goal

pub overflow_mul-i : goal.overflow_mul-i
overflow_mul-i c = omega (arith, length_points c.args.corners.now)

pub offset_bounds-corners-i : goal.offset_bounds-corners-i
offset_bounds-corners-i c = omega (arith, length_points c.args.corners.now)

pub bounds-corners-i : goal.bounds-corners-i
bounds-corners-i c = omega (arith, length_points c.args.corners.now)

pub overflow_add-i : goal.overflow_add-i
overflow_add-i c = omega (arith, length_points c.args.corners.now)

pub offset_bounds-corners-i-2 : goal.offset_bounds-corners-i-2
offset_bounds-corners-i-2 c = omega (arith, length_points c.args.corners.now)

pub bounds-corners-i-2 : goal.bounds-corners-i-2
bounds-corners-i-2 c = simp length-set (omega (arith, length_points c.args.corners.now))
