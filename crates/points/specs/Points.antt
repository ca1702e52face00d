-- The points of a work buffer, two numbers each, and points appended to the first of them. Assumes
-- nothing.
use Rattle.std.specs.Prelude.{◌≡◌, true, List, [], ◌∷◌, ◌++◌, map, ℕ, ◌+◌, length, get_or, take, ℤ, pos}
use Rattle.plane.specs.Plane.{Pt, on_grid}

-- a point of two numbers, and the numbers of a point
abbrev pub corner_of : List ℤ → Pt
corner_of r = record { x = get_or r 0 (pos 0); y = get_or r 1 (pos 0) }

abbrev pub pair_of : Pt → List ℤ
pair_of p = p.x ∷ p.y ∷ []

-- the corner at place i
abbrev pub corner_in : List (List ℤ) → ℕ → Pt
corner_in points i = corner_of (get_or points i [])

-- the corners of a whole buffer
abbrev pub corners_in : List (List ℤ) → List Pt
corners_in points = map corner_of points

-- every corner of the buffer is on the grid
pub record Grid (points : List (List ℤ)) : Type 0 where
  pub at : (i : ℕ) → on_grid (corner_in points i) ≡ true

-- ---- points gathered: the first n of a buffer

abbrev pub first_points : ℕ → List (List ℤ) → List Pt
first_points n points = map corner_of (take n points)

-- some points were put after the first n
pub record Appended (new : List Pt) (points : List (List ℤ)) (n : ℕ) (points' : List (List ℤ)) (n' : ℕ) : Type 0 where
  pub size : length points' ≡ length points
  pub count : n' ≡ n + length new
  pub written : first_points n' points' ≡ first_points n points ++ new
