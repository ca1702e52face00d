-- Every corner of the result lies within the result bounds and on the grid (`result_within`). In
-- order: what the test of bounds tells; a sum of corners within the sum of bounds; the parts of an
-- operand within its bounds; what an accepted pair of operands is; all pairs. Assumes nothing.
use mathlib.Core.Path.{◌≡◌, sym, subst}
use mathlib.Core.Bool.{Bool, true, false}
use mathlib.Core.List.{List, [], ◌∷◌, map}
use Prim.Native.Nat.{ℕ}
use native.Mathlib.Omega.{arith}
use lib.IntN.{ℤ, pos, negsuc, neg_ℤ}
use lib.Signed.{◌≤ℤ◌, le_z, lt_z}
use Rattle.integers.specs.Lists.{All, Any}
use Rattle.integers.proofs.Order.{zarith, +_mono, neg_mono}
use Rattle.integers.proofs.Tests.{either_false, both_true, le_z-≤, ≤-le_z, <-le_z, <-lt_z}
use Rattle.integers.proofs.Sizes.{abs_parts}
use Rattle.integers.proofs.Elements.{all_map, all_any, all_flatten, all_image}
use Rattle.integers.proofs.Faults.{first_none}
use Rattle.plane.specs.Plane.{Pt, ◌+ᵖ◌, negᵖ, in_range, on_grid}
use Rattle.plane.proofs.Size.{in_range_coordinate}
use Rattle.table.specs.declared.IntRect.{IntRect}
use Rattle.corners.specs.Corners.{points_of, off_range}
use Rattle.table.specs.Table.{table_broken, bounds_list, within_bounds, some_outside, bounds_broken}
use Rattle.corners.proofs.Range.{was_taken}
use Rattle.table.proofs.Rules.{flatten_whole}
use Rattle.pair.specs.Pair.{pair_contour}
use Rattle.pair.specs.Premise.{through_origin}
use Rattle.pair.specs.Demand.{second}
use Rattle.minkowski.specs.Pairs.{Operand, operand_parts, pairs_of, sum_bounds, result_bounds, pairs_fault}
use Rattle.minkowski_pairs.specs.Results.{ResultWithin}
use Rattle.minkowski_pairs.proofs.Sums.{corners_are_sums}

-- ---- a corner within bounds

pub record InBounds (b : IntRect) (p : Pt) : Type 0 where
  pub left : b.min_x ≤ℤ p.x
  pub right : p.x ≤ℤ b.max_x
  pub low : b.min_y ≤ℤ p.y
  pub high : p.y ≤ℤ b.max_y

within_inside : (b : IntRect) (p : Pt) → within_bounds b p ≡ true → InBounds b p
unfolding within_bounds
within_inside b p h =
    let u = both_true (le_z b.min_x p.x) _ h in
    let v = both_true (le_z p.x b.max_x) _ u.1 in
    let w = both_true (le_z b.min_y p.y) _ v.1 in
    record { left = le_z-≤ _ _ u.0; right = le_z-≤ _ _ v.0; low = le_z-≤ _ _ w.0; high = le_z-≤ _ _ w.1 }

inside_within : {b : IntRect} {p : Pt} → InBounds b p → within_bounds b p ≡ true
unfolding within_bounds
inside_within i = rw (≤-le_z i.left, ≤-le_z i.right, ≤-le_z i.low, ≤-le_z i.high)

-- what the test of an operand's bounds tells
bounds_hold : (b : IntRect) (l : List Pt) → bounds_broken b l ≡ false → All (InBounds b) l
unfolding bounds_broken some_outside
bounds_hold b l h = none l (either_false (lt_z b.max_y b.min_y) (some_outside b l) (either_false (lt_z b.max_x b.min_x) _ h).1).1
  where
    none : (l : List Pt) → some_outside b l ≡ false → All (InBounds b) l
    none [] h = tt
    none (p ∷ l) h = let t = was_taken (within_bounds b p) _ h in (within_inside b p t.0, none l t.1)

-- ---- a sum of corners

inside_add : {l r : IntRect} {a b : Pt} → InBounds l a → InBounds r b → InBounds (sum_bounds l r) (a +ᵖ b)
inside_add i j = record {
  left = +_mono i.left j.left;
  right = +_mono i.right j.right;
  low = +_mono i.low j.low;
  high = +_mono i.high j.high;
}

-- the bounds of an operand turned through the origin
abbrev pub turned_bounds : IntRect → IntRect
turned_bounds r = record { min_x = neg_ℤ r.max_x; max_x = neg_ℤ r.min_x; min_y = neg_ℤ r.max_y; max_y = neg_ℤ r.min_y }

pub inside_neg : {r : IntRect} {b : Pt} → InBounds r b → InBounds (turned_bounds r) (negᵖ b)
inside_neg i = record { left = neg_mono i.right; right = neg_mono i.left; low = neg_mono i.high; high = neg_mono i.low }

sum_inside : (l r : IntRect) (c : Pt) (A B : List Pt) → All (InBounds l) A → All (InBounds r) B → Any (λ a. Any (λ b. c ≡ a +ᵖ b) B) A → InBounds (sum_bounds l r) c
sum_inside l r c A B ha hb s = all_any A ha s (λ a i t. all_any B hb t (λ b j e. subst (InBounds (sum_bounds l r)) (sym e) (inside_add i j)))

-- each corner of a pair lies within the bounds of the pair
pair_inside : (reflected : Bool) (l r : IntRect) (A B : List Pt) → All (InBounds l) A → All (InBounds r) B → All (InBounds (result_bounds reflected l r)) (pair_contour reflected A B)
unfolding result_bounds second through_origin
pair_inside false l r A B ha hb = all_map (pair_contour false A B) (λ c s. sum_inside l r c A B ha hb s) (corners_are_sums false A B)
pair_inside true l r A B ha hb =
    let turned : All (InBounds (turned_bounds r)) (map negᵖ B) = (all_image (InBounds (turned_bounds r)) negᵖ B).1 (all_map B (λ b i. inside_neg i) hb) in
    all_map (pair_contour true A B) (λ c s. sum_inside l (turned_bounds r) c A (map negᵖ B) ha turned s) (corners_are_sums true A B)

-- ---- on the grid, where the bounds are

between : {a b : ℤ} {z : ℤ} → in_range a ≡ true → in_range b ≡ true → a ≤ℤ z → z ≤ℤ b → in_range z ≡ true
unfolding in_range
between {a} {b} {z} ha hb h k = rw (<-le_z {x = z} {y = negsuc 1073741823} (omega (zarith, abs_parts a, (in_range_coordinate a ha).abs)), <-lt_z {x = z} {y = pos 1073741824} (omega (zarith, abs_parts b, (in_range_coordinate b hb).abs)))

inside_grid : {b : IntRect} {p : Pt} → off_range (bounds_list b) ≡ false → InBounds b p → on_grid p ≡ true
unfolding off_range on_grid
inside_grid {b} {p} h i =
    let t = was_taken (in_range b.min_x) _ h in
    let u = was_taken (in_range b.max_x) _ t.1 in
    let v = was_taken (in_range b.min_y) _ u.1 in
    let w = was_taken (in_range b.max_y) _ v.1 in
    rw (between t.0 u.0 i.left i.right, between v.0 w.0 i.low i.high)

-- ---- all pairs of accepted operands

-- what is not refused by 7, 9 and 10
pub record Unrefused (reflected : Bool) (l r : Operand) : Type 0 where
  pub left_table : table_broken l.starts l.corners ≡ false
  pub right_table : table_broken r.starts r.corners ≡ false
  pub left_bounds : bounds_broken l.bounds (points_of l.corners) ≡ false
  pub right_bounds : bounds_broken r.bounds (points_of r.corners) ≡ false
  pub result_bounds_lem : off_range (bounds_list (result_bounds reflected l.bounds r.bounds)) ≡ false

pub unrefused : (reflected : Bool) (l r : Operand) (s c : ℕ) → pairs_fault reflected l r s c ≡ 0 → Unrefused reflected l r
unfolding pairs_fault
unrefused reflected l r s c h =
    let h1 = first_none _ _ (omega arith) h in
    let h2 = first_none _ _ (omega arith) h1.1 in
    let h3 = first_none _ _ (omega arith) h2.1 in
    let h4 = first_none _ _ (omega arith) h3.1 in
    let h5 = first_none _ _ (omega arith) h4.1 in
    let h6 = first_none _ _ (omega arith) h5.1 in
    let h7 = first_none _ _ (omega arith) h6.1 in
    let h8 = first_none _ _ (omega arith) h7.1 in
    let h9 = first_none _ _ (omega arith) h8.1 in
    record { left_table = h1.0; right_table = h2.0; left_bounds = h5.0; right_bounds = h6.0; result_bounds_lem = h9.0 }

-- the parts of an operand lie within its bounds
pub parts_inside : (o : Operand) → table_broken o.starts o.corners ≡ false → bounds_broken o.bounds (points_of o.corners) ≡ false → All (All (InBounds o.bounds)) (operand_parts o)
parts_inside o h k =
    (all_flatten (InBounds o.bounds) (operand_parts o)).0
    (subst (All (InBounds o.bounds)) (sym (flatten_whole o.starts o.corners h)) (bounds_hold o.bounds (points_of o.corners) k))

-- what holds of each pair's contour holds of all
pub pairs_all : (Q : List Pt → Type 0) (reflected : Bool) (ls rs : List (List Pt)) → All (λ a. All (λ b. Q (pair_contour reflected a b)) rs) ls → All Q (pairs_of reflected ls rs)
unfolding pairs_of
pairs_all Q reflected ls rs h =
    (all_flatten Q (map (λ a. map (pair_contour reflected a) rs) ls)).1
    ((all_image (All Q) (λ a. map (pair_contour reflected a) rs) ls).1 (all_map ls (λ a k. (all_image Q (pair_contour reflected a) rs).1 k) h))

pub result_within : ResultWithin
result_within reflected l r s c h =
    let u : Unrefused reflected l r = unrefused reflected l r s c h in
    pairs_all (All (λ p. (within_bounds (result_bounds reflected l.bounds r.bounds) p ≡ true) × (on_grid p ≡ true))) reflected (operand_parts l) (operand_parts r)
    (all_map (operand_parts l)
    (λ A ha. all_map (operand_parts r)
    (λ B hb. all_map (pair_contour reflected A B) (λ p i. (inside_within i, inside_grid u.result_bounds_lem i)) (pair_inside reflected l.bounds r.bounds A B ha hb))
    (parts_inside r u.right_table u.right_bounds))
    (parts_inside l u.left_table u.left_bounds))
