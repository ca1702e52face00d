-- Paths from the drawing program (document 02, P1): the points reached, the order of items, grid
-- coordinates and corners, the faults in their order, and what the call answers. Assumes nothing.
use Rattle.std.specs.Prelude.{Bool, true, false, cond, not, ◌&&◌, List, [], ◌∷◌, map, ℕ, ◌/◌, eqb, ltb, ℤ, pos, length}
use Rattle.std.specs.Float.{fin, binary64}
use Rattle.std.specs.Float.Ieee.{add}
use Rattle.std.specs.Float.Ieee.Scale.{finite}
use Rattle.integers.specs.Faults.{Kind, first_fault, fault_path, fault_rules, fault_range, fault_corner_room}
use Rattle.plane.specs.Plane.{Pt}
use Rattle.corners.specs.Corners.{numbers_of}
use Rattle.table.specs.Table.{max_contour, written}
use Rattle.floats.specs.Floats.{number}
use Rattle.grid.specs.Grid.{within_range, step_count, on_grid, scaled, coordinate}
use Rattle.path.specs.declared.PathItem.{PathItem}
use Rattle.path.specs.declared.PathItem.TheVariants.{Move, Line, Horizontal, Vertical, RelativeLine, Close}
use Rattle.path.specs.declared.Point.{Point}
use Rattle.path.specs.declared.Frame.{Frame}
use Rattle.path.specs.declared.PathCounts.{PathCounts}

-- f passes at each element
unfoldable pub every : {A : Type 0} → (A → Bool) → List A → Bool
every f [] = true
every f (x ∷ l) = f x && every f l

-- ---- the points reached

-- "each with its meaning from W3C SVG 2: absolute move, line, horizontal and vertical, relative
-- line, close"; "Relative lines add in f64, one rounding each". A close goes back to the first
-- point there, which no answer tells from staying, as nothing may follow it
abbrev pub reach : Point → PathItem → Point
reach p (Move x y) = record { x = x; y = y }
reach p (Line x y) = record { x = x; y = y }
reach p (Horizontal x) = record { x = x; y = p.y }
reach p (Vertical y) = record { x = p.x; y = y }
reach p (RelativeLine x y) = record { x = add binary64 p.x x; y = add binary64 p.y y }
reach p Close = p

abbrev pub closes : PathItem → Bool
closes (Move x y) = false
closes (Line x y) = false
closes (Horizontal x) = false
closes (Vertical y) = false
closes (RelativeLine x y) = false
closes Close = true

-- "the close writes no corner": one point for each item but a close
unfoldable pub points_from : Point → List PathItem → List Point
points_from p [] = []
points_from p (i ∷ is) = cond (closes i) (points_from p is) (reach p i ∷ points_from (reach p i) is)

-- before the first item; a path opens with a move, which reaches its own point from anywhere
abbrev pub initial_point : Point
initial_point = record { x = fin false 0 (pos 0); y = fin false 0 (pos 0) }

abbrev pub path_points : List PathItem → List Point
path_points is = points_from initial_point is

-- ---- "The path opens with its only move and ends with its only close"

-- lines, and then the close
unfoldable pub lines_then_close : List PathItem → Bool
lines_then_close [] = false
lines_then_close (Move x y ∷ is) = false
lines_then_close (Line x y ∷ is) = lines_then_close is
lines_then_close (Horizontal x ∷ is) = lines_then_close is
lines_then_close (Vertical y ∷ is) = lines_then_close is
lines_then_close (RelativeLine x y ∷ is) = lines_then_close is
lines_then_close (Close ∷ []) = true
lines_then_close (Close ∷ i ∷ is) = false

unfoldable pub in_order : List PathItem → Bool
in_order [] = false
in_order (Move x y ∷ is) = lines_then_close is
in_order (Line x y ∷ is) = false
in_order (Horizontal x ∷ is) = false
in_order (Vertical y ∷ is) = false
in_order (RelativeLine x y ∷ is) = false
in_order (Close ∷ is) = false

-- ---- "Origin is subtracted, the step count multiplied, and the result rounded to the nearest
-- whole number, halves away from zero"

abbrev pub corner_of : Frame → Point → Pt
corner_of f p = record { x = coordinate p.x f.x f.steps; y = coordinate p.y f.y f.steps }

unfoldable pub path_contour : Frame → List PathItem → List Pt
path_contour f is = map (corner_of f) (path_points is)

-- ---- "Refused: 14 for a step count that isn't such a power, a given number that isn't finite, a
-- point past that range or an item missing or out of place; then 7 for more than 1,026 corners;
-- then 2 for a grid coordinate; then 21"

-- the numbers that an item carries are finite
abbrev pub is_given : PathItem → Bool
is_given (Move x y) = finite x && finite y
is_given (Line x y) = finite x && finite y
is_given (Horizontal x) = finite x
is_given (Vertical y) = finite y
is_given (RelativeLine x y) = finite x && finite y
is_given Close = true

-- "a step count per millimetre, a power of two from 1 to 1,024"; an origin of finite numbers
abbrev pub framed : Frame → Bool
framed f = step_count f.steps && (number f.x && number f.y)

-- "Each coordinate of a current point may lie within 1,048,576 of zero", ends included
abbrev pub is_within : Point → Bool
is_within p = within_range p.x && within_range p.y

-- both grid coordinates are strictly between -2^30 and 2^30
abbrev pub is_on_grid : Frame → Point → Bool
is_on_grid f p = on_grid (scaled p.x f.x f.steps) && on_grid (scaled p.y f.y f.steps)

abbrev pub is_path : Frame → List PathItem → Bool
is_path f is = framed f && (every is_given is && (in_order is && every is_within (path_points is)))

abbrev pub path_kinds : Frame → List PathItem → ℕ → List Kind
path_kinds f is room =
    (fault_path, not (is_path f is))
    ∷ (fault_rules, ltb max_contour (length (path_points is)))
    ∷ (fault_range, not (every (is_on_grid f) (path_points is)))
    ∷ (fault_corner_room, ltb (room / 2) (length (path_points is)))
    ∷ []

-- of a path written into `room` numbers, "two numbers each"; 0 for none
unfoldable pub path_fault : Frame → List PathItem → ℕ → ℕ
path_fault f is room = first_fault (path_kinds f is room)

-- ---- the answer: a refusal tells its number and no corners and changes nothing; places past the
-- corners keep what they held

abbrev pub counts_of : ℕ → ℕ → PathCounts
counts_of fault corners = cond (eqb fault 0) (record { fault = 0; corners = corners }) (record { fault = fault; corners = 0 })

unfoldable pub path_counts : Frame → List PathItem → ℕ → PathCounts
path_counts f is room = counts_of (path_fault f is room) (length (path_contour f is))

unfoldable pub corners_left : Frame → List PathItem → List ℤ → List ℤ
corners_left f is old = written (path_fault f is (length old)) (numbers_of (path_contour f is)) old
