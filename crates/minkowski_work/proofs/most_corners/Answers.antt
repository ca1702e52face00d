-- `minkowski_work::most_corners` meets its contract: no product or sum leaves a word. Assumes
-- nothing.
use mathlib.Core.Path.{◌∙◌, ap, ap₂}
use Prim.Native.Nat.{◌+◌, ◌*◌}
use native.Mathlib.Omega.{arith}
use borrow.Author.Rules.{rules}
use Rattle.corners.proofs.Corners.{length_points}
use Rattle.table.specs.Table.{part_count}
use Rattle.table.proofs.Rules.{sound}
use Rattle.minkowski_work.proofs.Counted.{few_left, few_right}
use Rattle.minkowski_work.proofs.most_corners.Goals as goal

pub overflow_sub-l : goal.overflow_sub-l
overflow_sub-l c = omega (arith, (sound c.args.left_starts.now c.args.left_corners.now c.requires.0).some)

pub overflow_sub-r : goal.overflow_sub-r
overflow_sub-r c = omega (arith, (sound c.args.right_starts.now c.args.right_corners.now c.requires.1).some)

pub overflow_mul-result : goal.overflow_mul-result
overflow_mul-result c = let g = c.args in
    let a = ap (λ n. part_count g.right_starts.now * n) (c.corner_count.ensures ∙ length_points g.left_corners.now) in
    omega (arith, a, few_left g.left_starts.now g.left_corners.now g.right_starts.now g.right_corners.now c.requires.0 c.requires.1)

pub overflow_mul-result-2 : goal.overflow_mul-result-2
overflow_mul-result-2 c = let g = c.args in
    let b = ap (λ n. part_count g.left_starts.now * n) (c.corner_count-2.ensures ∙ length_points g.right_corners.now) in
    omega (arith, b, few_right g.left_starts.now g.left_corners.now g.right_starts.now g.right_corners.now c.requires.0 c.requires.1)

pub overflow_add-result : goal.overflow_add-result
overflow_add-result c = let g = c.args in
    let a = ap (λ n. part_count g.right_starts.now * n) (c.corner_count.ensures ∙ length_points g.left_corners.now) in
    let b = ap (λ n. part_count g.left_starts.now * n) (c.corner_count-2.ensures ∙ length_points g.right_corners.now) in
    omega (
      arith,
      a,
      b,
      few_left g.left_starts.now g.left_corners.now g.right_starts.now g.right_corners.now c.requires.0 c.requires.1,
      few_right g.left_starts.now g.left_corners.now g.right_starts.now g.right_corners.now c.requires.0 c.requires.1,
    )

pub returns : goal.returns
returns c = let g = c.args in
    let a = ap (λ n. part_count g.right_starts.now * n) (c.corner_count.ensures ∙ length_points g.left_corners.now) in
    let b = ap (λ n. part_count g.left_starts.now * n) (c.corner_count-2.ensures ∙ length_points g.right_corners.now) in
    ap₂ ◌+◌ a b
