-- `minkowski_faults::result_bounds` meets its contract: bounds in range add and subtract within 32
-- bits. Assumes nothing.
use mathlib.Core.Path.{◌≡◌, refl}
use mathlib.Core.Bool.{Bool, true, false}
use lib.IntN.{◌+ℤ◌, ◌-ℤ◌}
use Rattle.table.specs.declared.IntRect.{IntRect}
use Rattle.corners.specs.Corners.{off_range}
use Rattle.table.specs.Table.{bounds_list}
use Rattle.minkowski.specs.Pairs.{result_bounds}
use Rattle.minkowski_faults.proofs.Range.{held, Small, bounds_small, held_sum, held_difference, fits_sum, fits_difference}
use Rattle.minkowski_faults.proofs.result_bounds.Goals as goal

module _ (l r : IntRect) (h : off_range (bounds_list l) ≡ false) (k : off_range (bounds_list r) ≡ false) where
  abbrev m : Small l
  m = bounds_small l h

  abbrev n : Small r
  n = bounds_small r k

  difference : {reflected : Bool} → reflected ≡ true
      → record { min_x = held (held l.min_x -ℤ held r.max_x); max_x = held (held l.max_x -ℤ held r.min_x); min_y = held (held l.min_y -ℤ held r.max_y); max_y = held (held l.max_y -ℤ held r.min_y) } ≡ result_bounds reflected l r
  unfolding result_bounds
  difference t = rw (t, held_difference m.min_x_lem n.max_x_lem refl, held_difference m.max_x_lem n.min_x_lem refl, held_difference m.min_y_lem n.max_y_lem refl, held_difference m.max_y_lem n.min_y_lem refl)

  sum : {reflected : Bool} → reflected ≡ false
      → record { min_x = held (held l.min_x +ℤ held r.min_x); max_x = held (held l.max_x +ℤ held r.max_x); min_y = held (held l.min_y +ℤ held r.min_y); max_y = held (held l.max_y +ℤ held r.max_y) } ≡ result_bounds reflected l r
  unfolding result_bounds
  sum t = rw (t, held_sum m.min_x_lem n.min_x_lem refl, held_sum m.max_x_lem n.max_x_lem refl, held_sum m.min_y_lem n.min_y_lem refl, held_sum m.max_y_lem n.max_y_lem refl)

pub overflow_sub-result : goal.overflow_sub-result
overflow_sub-result c = fits_difference (bounds_small c.args.left c.requires.0).min_x_lem (bounds_small c.args.right c.requires.1).max_x_lem

pub overflow_sub-result-then-reflected : goal.overflow_sub-result-then-reflected
overflow_sub-result-then-reflected c = fits_difference (bounds_small c.args.left c.requires.0).max_x_lem (bounds_small c.args.right c.requires.1).min_x_lem

pub overflow_sub-result-then-reflected-2 : goal.overflow_sub-result-then-reflected-2
overflow_sub-result-then-reflected-2 c = fits_difference (bounds_small c.args.left c.requires.0).min_y_lem (bounds_small c.args.right c.requires.1).max_y_lem

pub overflow_sub-result-then-reflected-3 : goal.overflow_sub-result-then-reflected-3
overflow_sub-result-then-reflected-3 c = fits_difference (bounds_small c.args.left c.requires.0).max_y_lem (bounds_small c.args.right c.requires.1).min_y_lem

pub returns-then-reflected : goal.returns-then-reflected
returns-then-reflected c = difference c.args.left c.args.right c.requires.0 c.requires.1 c.if-reflected.true

pub overflow_add-result : goal.overflow_add-result
overflow_add-result c = fits_sum (bounds_small c.args.left c.requires.0).min_x_lem (bounds_small c.args.right c.requires.1).min_x_lem

pub overflow_add-result-else-reflected : goal.overflow_add-result-else-reflected
overflow_add-result-else-reflected c = fits_sum (bounds_small c.args.left c.requires.0).max_x_lem (bounds_small c.args.right c.requires.1).max_x_lem

pub overflow_add-result-else-reflected-2 : goal.overflow_add-result-else-reflected-2
overflow_add-result-else-reflected-2 c = fits_sum (bounds_small c.args.left c.requires.0).min_y_lem (bounds_small c.args.right c.requires.1).min_y_lem

pub overflow_add-result-else-reflected-3 : goal.overflow_add-result-else-reflected-3
overflow_add-result-else-reflected-3 c = fits_sum (bounds_small c.args.left c.requires.0).max_y_lem (bounds_small c.args.right c.requires.1).max_y_lem

pub returns-else-reflected : goal.returns-else-reflected
returns-else-reflected c = sum c.args.left c.args.right c.requires.0 c.requires.1 c.if-reflected.false
