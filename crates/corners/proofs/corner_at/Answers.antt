-- `corners::corner_at` meets its contract: the numbers at 2k and 2k + 1. Assumes nothing.
use mathlib.Core.Path.{sym, ◌∙◌}
use native.Mathlib.Omega.{arith}
use lib.IntN.{pos}
use mir.Syntax.{w32}
use Rattle.integers.proofs.Bits.{got}
use Rattle.plane.specs.Plane.{O}
use Rattle.plane.proofs.Vectors.{pt_eq}
use Rattle.corners.proofs.Corners.{length_points, points_at}
use Rattle.corners.proofs.corner_at.Goals as goal

pub overflow_mul-result : goal.overflow_mul-result
overflow_mul-result c = omega (arith, length_points c.args.corners.now)

pub offset_bounds-corners-k : goal.offset_bounds-corners-k
offset_bounds-corners-k c = omega (arith, length_points c.args.corners.now)

pub bounds-corners-k : goal.bounds-corners-k
bounds-corners-k c = omega (arith, length_points c.args.corners.now)

pub overflow_mul-result-2 : goal.overflow_mul-result-2
overflow_mul-result-2 c = omega (arith, length_points c.args.corners.now)

pub overflow_add-result : goal.overflow_add-result
overflow_add-result c = omega (arith, length_points c.args.corners.now)

pub offset_bounds-corners-k-2 : goal.offset_bounds-corners-k-2
offset_bounds-corners-k-2 c = omega (arith, length_points c.args.corners.now)

pub bounds-corners-k-2 : goal.bounds-corners-k-2
bounds-corners-k-2 c = omega (arith, length_points c.args.corners.now)

pub returns : goal.returns
returns c = let l = c.args.corners.now in
    let k = c.args.k in
    pt_eq (got w32 _ c.result-1.given) (got w32 _ c.result-2-1.given) ∙ sym (points_at l k O (pos 0) (omega (arith, length_points l)))
