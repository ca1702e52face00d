-- Corners of a contour in turn. Assumes nothing.
use Rattle.std.specs.Prelude.{List, ℕ, take, drop, ℤ}
use Rattle.plane.specs.Plane.{Pt}
use Rattle.points.specs.Points.{corners_in}

-- n corners of a contour, from corner i on
abbrev pub run_of : List (List ℤ) → ℕ → ℕ → List Pt
run_of contour i n = take n (drop i (corners_in contour))
