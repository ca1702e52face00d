-- `minkowski_sizes::few_pairs` meets its contract: no product leaves 64 bits. Assumes nothing.
use mathlib.Core.Path.{◌≡◌, ◌∙◌}
use mathlib.Core.List.{List}
use Prim.Native.Nat.{ℕ, ◌+◌, ◌*◌, ◌/◌, ◌≤◌}
use native.Mathlib.Nat.{mul-le-mul}
use native.Mathlib.Omega.{arith}
use borrow.Author.Rules.{rules}
use lib.Dec.{ltb}
use lib.ListN.{length}
use lib.IntN.{ℤ}
use Rattle.corners.specs.Corners.{points_of}
use Rattle.corners.proofs.Corners.{length_points}
use Rattle.minkowski_sizes.proofs.few_pairs.Goals as goal

-- as many as half the numbers
few : {n : ℕ} (l : List ℤ) → n ≡ length (points_of l) → length l / 2 ≤ 8192 → n ≤ 8192
few l e h = omega (arith, length_points l)

pub overflow_mul-result : goal.overflow_mul-result
overflow_mul-result c = record { fits = omega (arith, mul-le-mul c.requires.right_starts (few c.args.left_corners.now c.corner_count-a.ensures c.requires.left_corners)) }

pub overflow_mul-result-2 : goal.overflow_mul-result-2
overflow_mul-result-2 c = record { fits = omega (arith, mul-le-mul c.requires.left_starts (few c.args.right_corners.now c.corner_count-b.ensures c.requires.right_corners)) }

pub overflow_add-result : goal.overflow_add-result
overflow_add-result c = record {
  fits = omega (
    arith,
    mul-le-mul c.requires.right_starts (few c.args.left_corners.now c.corner_count-a.ensures c.requires.left_corners),
    mul-le-mul c.requires.left_starts (few c.args.right_corners.now c.corner_count-b.ensures c.requires.right_corners),
  );
}

pub overflow_add-result-2 : goal.overflow_add-result-2
overflow_add-result-2 c = omega (arith, few c.args.left_corners.now c.corner_count-a.ensures c.requires.left_corners, few c.args.right_corners.now c.corner_count-b.ensures c.requires.right_corners)

pub overflow_mul-result-3 : goal.overflow_mul-result-3
overflow_mul-result-3 c = omega (arith, few c.args.left_corners.now c.corner_count-a.ensures c.requires.left_corners, few c.args.right_corners.now c.corner_count-b.ensures c.requires.right_corners)

pub returns : goal.returns
returns c = let g = c.args in
    let a = c.corner_count-a.ensures ∙ length_points g.left_corners.now in
    let b = c.corner_count-b.ensures ∙ length_points g.right_corners.now in
    λ i. ltb (length g.right_starts.now * a i + length g.left_starts.now * b i) (4 * (a i + b i))
