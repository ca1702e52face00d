-- What a walk begun, its point, a walk stepped and a pair stepped answer, refusals first (document
-- 01, "Faults that come from the state"). Contours are lists of numbers, x, y in turn, as they are
-- lent. Assumes nothing.
use Rattle.std.specs.Prelude.{Bool, true, false, not, cond, List, [], ◌∷◌, ℕ, ◌/◌, ◌%◌, eqb, leb, ltb, length, ℤ}
use Rattle.integers.specs.Faults.{first_fault, fault_empty, fault_place, fault_range, fault_rules, fault_winding}
use Rattle.plane.specs.Plane.{Pt, on_grid}
use Rattle.plane.specs.Machine.{point, vector}
use Rattle.plane.specs.declared.IntPoint.{IntPoint}
use Rattle.plane.specs.declared.IntVector.{IntVector}
use Rattle.corners.specs.Corners.{points_of, off_range}
use Rattle.table.specs.Table.{max_contour}
use Rattle.pair.specs.declared.Place.{Place}
use Rattle.pair.specs.declared.ConvexSum.{ConvexSum}
use Rattle.pair.specs.Walk.{corner_at, winding_leaves, begin, next_index, edge_of, advance}
use Rattle.pair.specs.Walk as walk
use Rattle.pair.specs.Pair.{Emitted, corner, end, pair_step, start_of}
use Rattle.walk.specs.declared.Begun.{Begun}
use Rattle.walk.specs.declared.Begun.TheVariants as begun
use Rattle.walk.specs.declared.Pointed.{Pointed}
use Rattle.walk.specs.declared.Pointed.TheVariants as pointed
use Rattle.walk.specs.declared.Edged.{Edged}
use Rattle.walk.specs.declared.Edged.TheVariants as edged
use Rattle.walk.specs.declared.Advanced.{Advanced}
use Rattle.walk.specs.declared.Advanced.TheVariants as advanced
use Rattle.walk.specs.declared.Stepped.{Stepped}
use Rattle.walk.specs.declared.Stepped.TheVariants as stepped
use Rattle.walk.specs.declared.Paired.{Paired}
use Rattle.walk.specs.declared.Paired.TheVariants as paired
use Rattle.walk.specs.declared.Next.{Next}
use Rattle.walk.specs.declared.Next.TheVariants as next

-- ---- the tests

-- "7 for length (odd, or over 1,026 corners)"
unfoldable pub length_broken : List ℤ → Bool
length_broken l = cond (eqb (length l % 2) 0) (ltb max_contour (length l / 2)) true

-- "whose place or either segment end isn't a corner of its contour", of n corners; the ends count
-- where it walks a segment
unfoldable pub misplaced : ℕ → Place → Bool
misplaced n w = cond (leb n w.index) true (cond w.segment (cond (leb n w.start) true (leb n w.end)) false)

-- "a walk with no step left"
abbrev pub finished : Place → Bool
finished w = eqb w.remaining 0

abbrev pub off_at : List Pt → ℕ → Bool
off_at l i = not (on_grid (corner_at l i))

abbrev pub either : Bool → Bool → Bool
either s t = cond s true t

-- ---- "Walk begun: 7 for length (odd, or over 1,026 corners), 2, 8, 20"

unfoldable pub begin_fault : List ℤ → Bool → ℕ
begin_fault l reflected =
    first_fault ((fault_rules, length_broken l) ∷ (fault_range, off_range l) ∷ (fault_winding, winding_leaves reflected (points_of l)) ∷ (fault_empty, eqb (length l) 0) ∷ [])

unfoldable pub begun_of : List ℤ → Bool → Begun
begun_of l reflected = cond (eqb (begin_fault l reflected) 0) (begun.At (begin reflected (points_of l))) (begun.Refused (begin_fault l reflected))

-- ---- "Its point alone needs no step left, and 2 only at its place."

unfoldable pub point_fault : List ℤ → Place → ℕ
point_fault l w = first_fault ((fault_rules, length_broken l) ∷ (fault_place, misplaced (length (points_of l)) w) ∷ (fault_range, off_at (points_of l) w.index) ∷ [])

abbrev pub int_point : Pt → IntPoint
int_point p = record { x = p.x; y = p.y }

abbrev pub int_vector : Pt → IntVector
int_vector p = record { x = p.x; y = p.y }

unfoldable pub pointed_of : List ℤ → Place → Pointed
pointed_of l w = cond (eqb (point_fault l w) 0) (pointed.Point (int_point (walk.point_of (points_of l) w))) (pointed.Refused (point_fault l w))

-- ---- "stepped: 7 for length, 23, then 2 for the corner at its place or at the next"

unfoldable pub step_fault : List ℤ → Place → ℕ
step_fault l w =
    first_fault (
    (fault_rules, length_broken l)
    ∷ (fault_place, either (finished w) (misplaced (length (points_of l)) w))
    ∷ (fault_range, either (off_at (points_of l) w.index) (off_at (points_of l) (next_index (length (points_of l)) w)))
    ∷ []
    )

unfoldable pub stepped_of : List ℤ → Place → Stepped
stepped_of l w =
    cond (eqb (step_fault l w) 0) (stepped.Edge (int_vector (edge_of (points_of l) w)) (advance (length (points_of l)) w)) (stepped.Refused (step_fault l w) w)

-- its edge alone and its advance alone: refused as a step is

unfoldable pub edged_of : List ℤ → Place → Edged
edged_of l w = cond (eqb (step_fault l w) 0) (edged.Edge (int_vector (edge_of (points_of l) w))) (edged.Refused (step_fault l w))

unfoldable pub advanced_of : List ℤ → Place → Advanced
advanced_of l w = cond (eqb (step_fault l w) 0) (advanced.At (advance (length (points_of l)) w)) (advanced.Refused (step_fault l w) w)

-- ---- a pair begun: the kinds of a walk begun, each "over the whole input, left before right"

unfoldable pub pair_begin_fault : Bool → List ℤ → List ℤ → ℕ
pair_begin_fault reflected l r =
    first_fault (
    (fault_rules, length_broken l) ∷ (fault_rules, length_broken r)
    ∷ (fault_range, off_range l) ∷ (fault_range, off_range r)
    ∷ (fault_winding, winding_leaves false (points_of l)) ∷ (fault_winding, winding_leaves reflected (points_of r))
    ∷ (fault_empty, eqb (length l) 0) ∷ (fault_empty, eqb (length r) 0)
    ∷ []
    )

unfoldable pub paired_of : Bool → List ℤ → List ℤ → Paired
paired_of reflected l r =
    cond (eqb (pair_begin_fault reflected l r) 0) (paired.At (start_of reflected (points_of l) (points_of r))) (paired.Refused (pair_begin_fault reflected l r))

-- ---- "A pair's step: 7, 23, 2 likewise over both walks, but 23 only for a place or segment end ..
-- and 2 for any corner", left before right

unfoldable pub pair_step_fault : List ℤ → List ℤ → ConvexSum → ℕ
pair_step_fault l r s =
    first_fault (
    (fault_rules, length_broken l) ∷ (fault_rules, length_broken r)
    ∷ (fault_place, misplaced (length (points_of l)) s.a) ∷ (fault_place, misplaced (length (points_of r)) s.b)
    ∷ (fault_range, off_range l) ∷ (fault_range, off_range r)
    ∷ []
    )

-- "with no nonzero edge left it tells the end, no fault"
abbrev pub next_of : Emitted → Next
next_of (corner p t) = next.Corner (int_point p) t
next_of (end t) = next.End t

unfoldable pub pair_stepped_of : List ℤ → List ℤ → ConvexSum → Next
pair_stepped_of l r s = cond (eqb (pair_step_fault l r s) 0) (next_of (pair_step (points_of l) (points_of r) s)) (next.Refused (pair_step_fault l r s) s)

-- ---- the paper's number and values for each case of an answer: 0 where there is no fault

abbrev pub begun_number : Begun → ℕ
begun_number (begun.At w) = 0
begun_number (begun.Refused f) = f

-- the place begun; none where it is refused
abbrev pub begun_place : Begun → List Place
begun_place (begun.At w) = w ∷ []
begun_place (begun.Refused f) = []

abbrev pub pointed_number : Pointed → ℕ
pointed_number (pointed.Point p) = 0
pointed_number (pointed.Refused f) = f

abbrev pub pointed_point : Pointed → List Pt
pointed_point (pointed.Point p) = point p ∷ []
pointed_point (pointed.Refused f) = []

abbrev pub edged_number : Edged → ℕ
edged_number (edged.Edge e) = 0
edged_number (edged.Refused f) = f

abbrev pub edged_edge : Edged → List Pt
edged_edge (edged.Edge e) = vector e ∷ []
edged_edge (edged.Refused f) = []

abbrev pub advanced_number : Advanced → ℕ
advanced_number (advanced.At w) = 0
advanced_number (advanced.Refused f w) = f

abbrev pub advanced_place : Advanced → Place
advanced_place (advanced.At w) = w
advanced_place (advanced.Refused f w) = w

abbrev pub stepped_number : Stepped → ℕ
stepped_number (stepped.Edge e w) = 0
stepped_number (stepped.Refused f w) = f

abbrev pub stepped_edge : Stepped → List Pt
stepped_edge (stepped.Edge e w) = vector e ∷ []
stepped_edge (stepped.Refused f w) = []

-- where the walk stands: a refusal "hands a walk back as it came"
abbrev pub stepped_place : Stepped → Place
stepped_place (stepped.Edge e w) = w
stepped_place (stepped.Refused f w) = w

abbrev pub paired_number : Paired → ℕ
paired_number (paired.At t) = 0
paired_number (paired.Refused f) = f

abbrev pub paired_places : Paired → List ConvexSum
paired_places (paired.At t) = t ∷ []
paired_places (paired.Refused f) = []

abbrev pub next_number : Next → ℕ
next_number (next.Corner p t) = 0
next_number (next.End t) = 0
next_number (next.Refused f t) = f

abbrev pub next_places : Next → ConvexSum
next_places (next.Corner p t) = t
next_places (next.End t) = t
next_places (next.Refused f t) = t

-- the corner emitted; none at the end and where it is refused
abbrev pub next_corner : Next → List Pt
next_corner (next.Corner p t) = point p ∷ []
next_corner (next.End t) = []
next_corner (next.Refused f t) = []
