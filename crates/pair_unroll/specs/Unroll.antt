-- A walk's points put one after another (`with_point`), in a buffer (`Adding`, `PointAdded`), and
-- what unrolling a contour answers (`UnrolledBy`). Assumes nothing.
use Rattle.std.specs.Prelude.{◌≡◌, Bool, true, false, cond, List, [], ◌∷◌, ℕ, ◌+◌, ◌-◌, ◌≤◌, ◌<◌, ltb, length, ℤ, Option, Some, None}
use Rattle.plane.specs.Plane.{Pt, ◌-ᵖ◌, eq_pt, angle_cmp, is_equal}
use Rattle.plane.specs.Machine.{Coordinate}
use Rattle.corners.specs.Corners.{points_of, off_range}
use Rattle.pair.specs.declared.Place.{Place}
use Rattle.pair.specs.Walk.{winding_leaves, point_of}
use Rattle.pair.specs.Demand.{handed, live}
use Rattle.pair.specs.EdgeLists.{grouped}
use Rattle.pair_points.specs.Points.{points_along, unrolled}
use Rattle.walk.specs.Calls.{length_broken, misplaced}
use Rattle.points.specs.Points.{corner_in, Appended}

-- ---- one point more

-- whether r lies straight on from q after p
unfoldable pub straight_on : Pt → Pt → Pt → Bool
straight_on p q r = is_equal (angle_cmp (q -ᵖ p) (r -ᵖ q))

-- a repeated point goes, and one straight on takes the last one's place
unfoldable pub with_point : List Pt → Pt → List Pt
with_point [] r = r ∷ []
with_point (p ∷ []) r = cond (eq_pt p r) (p ∷ []) (p ∷ r ∷ [])
with_point (p ∷ q ∷ []) r = cond (eq_pt q r) (p ∷ q ∷ []) (cond (straight_on p q r) (p ∷ r ∷ []) (p ∷ q ∷ r ∷ []))
with_point (p ∷ q ∷ s ∷ l) r = p ∷ with_point (q ∷ s ∷ l) r

-- both coordinates in range
abbrev pub Ranged : Pt → Type 0
Ranged p = Coordinate p.x × Coordinate p.y

-- what adding a point asks of the points from one place up to another: there is one, they are in
-- range, and one more has room
pub record Adding (points : List (List ℤ)) (from count : ℕ) : Type 0 where
  pub some : from < count
  pub room : count < length points
  pub ranged : (i : ℕ) → from ≤ i → i < count → Ranged (corner_in points i)

-- whether the point r lies straight on from the last two of them; it does not where there is one
-- only
unfoldable pub goes_on : List (List ℤ) → ℕ → ℕ → Pt → Bool
goes_on points from count r =
    cond (ltb (count - from) 2) false (straight_on (corner_in points (count - 2)) (corner_in points (count - 1)) r)

-- the point r was added, whichever points they are
pub record PointAdded (r : Pt) (from : ℕ) (points : List (List ℤ)) (count : ℕ) (points' : List (List ℤ)) (count' : ℕ) : Type 0 where
  pub added :
      (points₀ : List (List ℤ)) (new : List Pt) → Appended new points₀ from points count →
      Appended (with_point new r) points₀ from points' count'

-- ---- a walk

-- the points of the walk from a place: its zero edges dropped, its edges of one direction in a row
-- made one
abbrev pub points_from : List Pt → Place → List Pt
points_from l w = points_along (point_of l w) (grouped (live (handed w.remaining l w)))

-- what walking a contour from a place asks: judged already, with room for a point a step and the
-- first
pub record Walkable (l : List ℤ) (w : Place) (points : List (List ℤ)) (from : ℕ) : Type 0 where
  pub short : length_broken l ≡ false
  pub ranged : off_range l ≡ false
  pub placed : misplaced (length (points_of l)) w ≡ false
  pub room : from + w.remaining < length points

-- what unrolling it asks
pub record Unrollable (l : List ℤ) (points : List (List ℤ)) (from : ℕ) : Type 0 where
  pub short : length_broken l ≡ false
  pub ranged : off_range l ≡ false
  pub room : from + length (points_of l) < length points

-- the walk's points were put after the first `from`, up to n
pub record UnrolledTo (reflected : Bool) (l : List Pt) (points : List (List ℤ)) (from : ℕ) (points' : List (List ℤ)) (n : ℕ) : Type 0 where
  pub stays : winding_leaves reflected l ≡ false
  pub appended : Appended (unrolled reflected l) points from points' n

-- that, or the winding leaves 64 bits (fault 8), and what is there is of no matter
pub record UnrolledBy (reflected : Bool) (l : List Pt) (points : List (List ℤ)) (from : ℕ) (points' : List (List ℤ)) (r : Option ℕ) : Type 0 where
  pub to : (n : ℕ) → r ≡ Some n → UnrolledTo reflected l points from points' n
  pub leaves : r ≡ None → winding_leaves reflected l ≡ true
