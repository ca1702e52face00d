-- Corners put into lent numbers, x and y in turn, one after another (`CornersPut`), how far that
-- has come (`Reached`), and what merging asks of a list of points (`Mergeable`). Assumes nothing.
use Rattle.std.specs.Prelude.{◌≡◌, List, ◌++◌, map, ℕ, ◌+◌, ◌*◌, ◌≤◌, length, ℤ}
use Rattle.integers.specs.Lists.{overlay}
use Rattle.plane.specs.Plane.{Pt}
use Rattle.corners.specs.Corners.{numbers_of}
use Rattle.points.specs.Points.{corner_of, Grid}
use Rattle.pair_points.specs.Points.{Turning}

-- the points of a buffer
abbrev pub points_in : List (List ℤ) → List Pt
points_in points = map corner_of points

-- points of the grid, with an edge of another direction from each to the next
pub record Mergeable (points : List (List ℤ)) : Type 0 where
  pub grid : Grid points
  pub turning : Turning (points_in points)

-- there is room for the corners `new` after the first n
abbrev pub RoomAfter : List Pt → List ℤ → ℕ → Type 0
RoomAfter new out n = 2 * (n + length new) ≤ length out

-- the corners `new` were put after the first n, whatever those are
pub record CornersPut (new : List Pt) (out : List ℤ) (n : ℕ) (out' : List ℤ) (n' : ℕ) : Type 0 where
  pub size : length out' ≡ length out
  pub count : n' ≡ n + length new
  pub written : (done : List Pt) (old : List ℤ) → length done ≡ n → out ≡ overlay (numbers_of done) old → out' ≡ overlay (numbers_of (done ++ new)) old

-- the corners `whole` are being put after the first n: `left` is still to come
pub record Reached (whole left : List Pt) (out : List ℤ) (n : ℕ) (out' : List ℤ) (n' : ℕ) : Type 0 where
  pub done : List Pt
  pub split : whole ≡ done ++ left
  pub put : CornersPut done out n out' n'
