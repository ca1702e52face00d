-- All pairs of two operands (document 01): the result table, its bounds, and its refusals. Assumes
-- nothing.
use Rattle.std.specs.Prelude.{◌≡◌, Bool, true, false, cond, ℕ, ◌+◌, ◌*◌, ◌<◌, eqb, length, get_or, ℤ, pos, ◌+ℤ◌, ◌-ℤ◌}
use mathlib.Core.List.{List, [], ◌∷◌, ◌++◌, map, flatten}
use Rattle.integers.specs.Faults.{Kind, first_fault, fault_bounds, fault_empty, fault_range, fault_result, fault_rules, fault_winding}
use Rattle.plane.specs.Plane.{Pt}
use Rattle.table.specs.declared.IntRect.{IntRect}
use Rattle.corners.specs.Corners.{points_of, off_range}
use Rattle.table.specs.Table.{starts_of, corners_of, written, table_parts, table_broken, bounds_list, bounds_broken, room_kinds, part_count}
use Rattle.pair.specs.Walk.{winding_leaves}
use Rattle.pair.specs.Pair.{pair_contour}
use Rattle.minkowski.specs.declared.PairCounts.{PairCounts}

-- "An operand is a part table with bounds"
pub record Operand : Type 0 where
  pub starts : List ℕ
  pub corners : List ℤ
  pub bounds : IntRect

abbrev pub operand_parts : Operand → List (List Pt)
operand_parts o = table_parts o.starts o.corners

-- ---- the result

-- "one contour for each left part and, within it, each right part in order; a pair that emits
-- nothing has an empty contour"
unfoldable pub pairs_of : Bool → List (List Pt) → List (List Pt) → List (List Pt)
pairs_of reflected ls rs = flatten (map (λ a. map (pair_contour reflected a) rs) ls)

abbrev pub pair_contours : Bool → Operand → Operand → List (List Pt)
pair_contours reflected l r = pairs_of reflected (operand_parts l) (operand_parts r)

-- the Rust's `sum_parts`: least with least, greatest with greatest
abbrev pub sum_bounds : IntRect → IntRect → IntRect
sum_bounds l r = record {
  min_x = l.min_x +ℤ r.min_x;
  max_x = l.max_x +ℤ r.max_x;
  min_y = l.min_y +ℤ r.min_y;
  max_y = l.max_y +ℤ r.max_y;
}

-- "A difference's bounds are left least less right greatest, left greatest less right least."
abbrev pub difference_bounds : IntRect → IntRect → IntRect
difference_bounds l r = record {
  min_x = l.min_x -ℤ r.max_x;
  max_x = l.max_x -ℤ r.min_x;
  min_y = l.min_y -ℤ r.max_y;
  max_y = l.max_y -ℤ r.min_y;
}

unfoldable pub result_bounds : Bool → IntRect → IntRect → IntRect
result_bounds reflected l r = cond reflected (difference_bounds l r) (sum_bounds l r)

-- ---- the tests

-- 2: "a coordinate or bound"
abbrev pub operand_off : Operand → Bool
operand_off o = off_range (o.corners ++ bounds_list o.bounds)

-- 8, over all parts of an operand as its walks go
unfoldable pub some_winding_leaves : Bool → List (List Pt) → Bool
some_winding_leaves reflected [] = false
some_winding_leaves reflected (p ∷ ps) = cond (winding_leaves reflected p) true (some_winding_leaves reflected ps)

-- "Pairs: 7, 2, 9, 8, 10, 20, 22, 21", "left before right"; 10: "a result bound ≤ −2^30 or ≥ 2^30",
-- 20: "an operand without parts"
abbrev pub pair_kinds : Bool → Operand → Operand → List Kind
pair_kinds reflected l r =
    (fault_rules, table_broken l.starts l.corners) ∷ (fault_rules, table_broken r.starts r.corners)
    ∷ (fault_range, operand_off l) ∷ (fault_range, operand_off r)
    ∷ (fault_bounds, bounds_broken l.bounds (points_of l.corners)) ∷ (fault_bounds, bounds_broken r.bounds (points_of r.corners))
    ∷ (fault_winding, some_winding_leaves false (operand_parts l)) ∷ (fault_winding, some_winding_leaves reflected (operand_parts r))
    ∷ (fault_result, off_range (bounds_list (result_bounds reflected l.bounds r.bounds)))
    ∷ (fault_empty, eqb (part_count l.starts) 0) ∷ (fault_empty, eqb (part_count r.starts) 0)
    ∷ []

unfoldable pub pairs_fault : Bool → Operand → Operand → ℕ → ℕ → ℕ
pairs_fault reflected l r starts corners = first_fault (pair_kinds reflected l r ++ room_kinds (pair_contours reflected l r) starts corners)

-- ---- the answer

abbrev pub no_bounds : IntRect
no_bounds = record { min_x = pos 0; max_x = pos 0; min_y = pos 0; max_y = pos 0 }

-- "A refusal returns the number and zero counts"; f is the fault number
abbrev pub pair_counts_of : ℕ → List (List Pt) → IntRect → PairCounts
pair_counts_of f ps b =
    cond (eqb f 0) (record { fault = 0; contours = length ps; corners = length (flatten ps); bounds = b })
    (record { fault = f; contours = 0; corners = 0; bounds = no_bounds })

-- what a call answers and leaves in the lent starts and corners, which held s and c
abbrev pub pairs_counts : Bool → Operand → Operand → List ℕ → List ℤ → PairCounts
pairs_counts reflected l r s c =
    pair_counts_of (pairs_fault reflected l r (length s) (length c)) (pair_contours reflected l r) (result_bounds reflected l.bounds r.bounds)

abbrev pub pairs_starts : Bool → Operand → Operand → List ℕ → List ℤ → List ℕ
pairs_starts reflected l r s c = written (pairs_fault reflected l r (length s) (length c)) (starts_of (pair_contours reflected l r)) s

abbrev pub pairs_corners : Bool → Operand → Operand → List ℕ → List ℤ → List ℤ
pairs_corners reflected l r s c = written (pairs_fault reflected l r (length s) (length c)) (corners_of (pair_contours reflected l r)) c

-- ---- demand 3 of the table: "Take any left and any right contour of an accepted pair .. Whatever
-- the other parts are, the whole contour emitted"

-- contour i · R + j of the result is that of left part i and right part j
abbrev pub EachPair : Type 0
EachPair =
    (reflected : Bool) (ls rs : List (List Pt)) (i j : ℕ) → i < length ls → j < length rs →
    get_or (pairs_of reflected ls rs) (i * length rs + j) [] ≡ pair_contour reflected (get_or ls i []) (get_or rs j [])
