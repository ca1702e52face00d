-- The walks of two operands that neither 9 nor 10 is told of have edges for which keys are exact
-- (`walks_close`): no edge is longer than the bounds are wide, and the bounds of both are together
-- no wider than the result's. So such walks with their numbers can be merged by them
-- (`operands_keyed`). Assumes nothing.
use mathlib.Core.Path.{◌≡◌}
use mathlib.Core.Bool.{Bool, true, false, cond}
use mathlib.Core.List.{List, [], map}
use Prim.Native.Nat.{ℕ, ◌+◌, ◌≤◌, ◌<◌}
use native.Mathlib.Omega.{arith}
use lib.IntN.{ℤ, pos, nat_abs, ◌+ℤ◌, ◌-ℤ◌}
use lib.ListN.{length, get_or}
use lib.Signed.{◌≤ℤ◌, lt_z}
use Rattle.integers.specs.Lists.{All}
use Rattle.integers.proofs.Elements.{all_get_d, all_map, all_image}
use Rattle.integers.proofs.Order.{zarith, add_parts, sub_parts, neg_mono}
use Rattle.integers.proofs.Sizes.{abs_parts}
use Rattle.integers.proofs.Tests.{either_false, lt_z-≤}
use Rattle.plane.specs.Plane.{Pt, O, in_range}
use Rattle.plane.specs.Machine.{Coordinate}
use Rattle.plane.proofs.Size.{in_range_coordinate}
use Rattle.table.specs.declared.IntRect.{IntRect}
use Rattle.corners.specs.Corners.{points_of, off_range}
use Rattle.table.specs.Table.{table_broken, bounds_list, bounds_broken}
use Rattle.corners.proofs.Range.{was_taken}
use Rattle.pair.specs.Walk.{turned}
use Rattle.pair_points.specs.Points.{unrolled, edge_at}
use Rattle.pair_points.proofs.OnContour.{unrolled_points}
use Rattle.minkowski.specs.Pairs.{Operand, operand_parts, sum_bounds, result_bounds}
use Rattle.minkowski_pairs.proofs.Bounds.{InBounds, turned_bounds, inside_neg, parts_inside, Unrefused}
use Rattle.direction_keys.specs.Marks.{Close}

-- ---- edges within bounds

-- a difference is no wider than the bounds
span : {l h p q : ℤ} → l ≤ℤ p → p ≤ℤ h → l ≤ℤ q → q ≤ℤ h → nat_abs (p -ℤ q) ≤ nat_abs (h -ℤ l)
span {l} {h} {p} {q} a b c d = omega (zarith, sub_parts p q, sub_parts h l, abs_parts (p -ℤ q), abs_parts (h -ℤ l))

wide : {l h : ℤ} → l ≤ℤ h → pos (nat_abs (h -ℤ l)) ≤ℤ (h -ℤ l)
wide {l} {h} e = omega (zarith, sub_parts h l, abs_parts (h -ℤ l))

-- bounds in range after they were added
widths : {l h m k : ℤ} → l ≤ℤ h → m ≤ℤ k → Coordinate (l +ℤ m) → Coordinate (h +ℤ k) → nat_abs (h -ℤ l) + nat_abs (k -ℤ m) < 2147483648
widths {l} {h} {m} {k} a b c d =
    omega (zarith, wide a, wide b, sub_parts h l, sub_parts k m, add_parts l m, add_parts h k, abs_parts (l +ℤ m), abs_parts (h +ℤ k), c.abs, d.abs)

-- bounds that are not turned over
record Upright (b : IntRect) : Type 0 where
  across : b.min_x ≤ℤ b.max_x
  along : b.min_y ≤ℤ b.max_y

upright : (b : IntRect) (l : List Pt) → bounds_broken b l ≡ false → Upright b
unfolding bounds_broken
upright b l h =
    let t = either_false (lt_z b.max_x b.min_x) _ h in
    let u = either_false (lt_z b.max_y b.min_y) _ t.1 in
    record { across = lt_z-≤ _ _ t.0; along = lt_z-≤ _ _ u.0 }

-- the four numbers of bounds in range
record Ranges (b : IntRect) : Type 0 where
  least_x : Coordinate b.min_x
  greatest_x : Coordinate b.max_x
  least_y : Coordinate b.min_y
  greatest_y : Coordinate b.max_y

ranges : {b : IntRect} → off_range (bounds_list b) ≡ false → Ranges b
unfolding off_range
ranges {b} h =
    let t = was_taken (in_range b.min_x) _ h in
    let u = was_taken (in_range b.max_x) _ t.1 in
    let v = was_taken (in_range b.min_y) _ u.1 in
    let w = was_taken (in_range b.max_y) _ v.1 in
    record { least_x = in_range_coordinate _ t.0; greatest_x = in_range_coordinate _ u.0; least_y = in_range_coordinate _ v.0; greatest_y = in_range_coordinate _ w.0 }

module _ {b c : IntRect} (ub : Upright b) (uc : Upright c) (s : Ranges (sum_bounds b c)) (p q : List Pt) (i : All (InBounds b) p) (j : All (InBounds c) q) where
  abbrev width_x : IntRect → ℕ
  width_x d = nat_abs (d.max_x -ℤ d.min_x)

  abbrev width_y : IntRect → ℕ
  width_y d = nat_abs (d.max_y -ℤ d.min_y)

  across_x : width_x b + width_x c < 2147483648
  across_x = widths ub.across uc.across s.least_x s.greatest_x

  across_y : width_y b + width_y c < 2147483648
  across_y = widths ub.along uc.along s.least_y s.greatest_y

  edge_x : (d : IntRect) (a : List Pt) → All (InBounds d) a → (n : ℕ) → n + 1 < length a → nat_abs (edge_at a n).x ≤ width_x d
  edge_x d a k n h =
      let u = all_get_d (InBounds d) a O k (n + 1) h in
      let v = all_get_d (InBounds d) a O k n (omega arith) in
      span u.left u.right v.left v.right

  edge_y : (d : IntRect) (a : List Pt) → All (InBounds d) a → (n : ℕ) → n + 1 < length a → nat_abs (edge_at a n).y ≤ width_y d
  edge_y d a k n h =
      let u = all_get_d (InBounds d) a O k (n + 1) h in
      let v = all_get_d (InBounds d) a O k n (omega arith) in
      span u.low u.high v.low v.high

  close_within : Close p q
  close_within = record {
    left = λ n h. record { x_short = omega (arith, across_x, edge_x b p i n h); y_short = omega (arith, across_y, edge_y b p i n h) };
    right = λ n h. record { x_short = omega (arith, across_x, edge_x c q j n h); y_short = omega (arith, across_y, edge_y c q j n h) };
    near = λ m n h k. record { x_near = omega (arith, across_x, edge_x b p i m h, edge_x c q j n k); y_near = omega (arith, across_y, edge_y b p i m h, edge_y c q j n k) };
  }

-- ---- walks of parts

-- the bounds of an operand as its walks see it
abbrev walk_bounds : Bool → IntRect → IntRect
walk_bounds reflected b = cond reflected (turned_bounds b) b

upright_walk : (reflected : Bool) {b : IntRect} → Upright b → Upright (walk_bounds reflected b)
upright_walk true u = record { across = neg_mono u.across; along = neg_mono u.along }
upright_walk false u = u

result_walk : (reflected : Bool) (b c : IntRect) → Ranges (result_bounds reflected b c) → Ranges (sum_bounds b (walk_bounds reflected c))
unfolding result_bounds
result_walk true b c h = h
result_walk false b c h = h

walk_within : (reflected : Bool) (b : IntRect) (a : List Pt) → All (InBounds b) a → All (InBounds (walk_bounds reflected b)) (unrolled reflected a)
walk_within reflected b a h = unrolled_points (InBounds (walk_bounds reflected b)) reflected a (all_map a (as_seen reflected) h)
  where
    as_seen : (reflected : Bool) (p : Pt) → InBounds b p → InBounds (walk_bounds reflected b) (turned reflected p)
    as_seen true p i = inside_neg i
    as_seen false p i = i

walks_within : (reflected : Bool) (o : Operand) → table_broken o.starts o.corners ≡ false → bounds_broken o.bounds (points_of o.corners) ≡ false → All (All (InBounds (walk_bounds reflected o.bounds))) (map (unrolled reflected) (operand_parts o))
walks_within reflected o h k =
    (all_image (All (InBounds (walk_bounds reflected o.bounds))) (unrolled reflected) (operand_parts o)).1
    (all_map (operand_parts o) (λ a i. walk_within reflected o.bounds a i) (parts_inside o h k))

pub walks_close :
    {reflected : Bool} {l r : Operand} → Unrefused reflected l r → {p q : ℕ} → p < length (map (unrolled false) (operand_parts l)) → q < length (map (unrolled reflected) (operand_parts r)) →
    Close (get_or (map (unrolled false) (operand_parts l)) p []) (get_or (map (unrolled reflected) (operand_parts r)) q [])
walks_close {reflected} {l} {r} u {p} {q} h k =
    close_within (upright l.bounds _ u.left_bounds) (upright_walk reflected (upright r.bounds _ u.right_bounds))
    (result_walk reflected l.bounds r.bounds (ranges u.result_bounds_lem)) _ _
    (all_get_d (All (InBounds l.bounds)) (map (unrolled false) (operand_parts l)) [] (walks_within false l u.left_table u.left_bounds) p h)
    (all_get_d (All (InBounds (walk_bounds reflected r.bounds))) (map (unrolled reflected) (operand_parts r)) [] (walks_within reflected r u.right_table u.right_bounds) q k)
