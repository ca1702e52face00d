-- Corners in turn past the end of a contour, where its first one comes again. Assumes nothing.
use Rattle.std.specs.Prelude.{List, [], ◌∷◌, ◌++◌, ℕ, take, drop, ℤ}
use Rattle.plane.specs.Plane.{Pt}
use Rattle.points.specs.Points.{corner_in, corners_in}

-- the corners, and the first once more
abbrev pub closed_of : List (List ℤ) → List Pt
closed_of contour = corners_in contour ++ (corner_in contour 0 ∷ [])

-- n of these from corner i on
abbrev pub arc_of : List (List ℤ) → ℕ → ℕ → List Pt
arc_of contour i n = take n (drop i (closed_of contour))
