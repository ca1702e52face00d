-- What is sure of an accepted path: `AcceptedSure`, proved in proofs/Accepted.antt. Assumes
-- nothing.
use Rattle.std.specs.Prelude.{◌≡◌, false, List, [], ◌∷◌, ℕ, ◌≤◌, length}
use Rattle.integers.specs.Lists.{All}
use Rattle.corners.specs.Corners.{off_range}
use Rattle.table.specs.Table.{max_contour, starts_of, corners_of, table_broken}
use Rattle.grid.specs.Grid.{Placed}
use Rattle.path.specs.declared.PathItem.{PathItem}
use Rattle.path.specs.declared.Point.{Point}
use Rattle.path.specs.declared.Frame.{Frame}
use Rattle.path.specs.Path.{corner_of, path_points, path_contour, path_fault}

-- "on an accepted path each grid coordinate lies within one half plus 2^-23 of the exact difference
-- times the step count"; "the bound speaks of the point so reached"
pub record Near (f : Frame) (p : Point) : Type 0 where
  pub x_near : Placed p.x f.x f.steps (corner_of f p).x
  pub y_near : Placed p.y f.y f.steps (corner_of f p).y

-- at each point reached; and the contour is a part that neither 7 nor 2 refuses
pub record Accepted (f : Frame) (is : List PathItem) : Type 0 where
  pub near : All (Near f) (path_points is)
  pub short : length (path_contour f is) ≤ max_contour
  pub rules : table_broken (starts_of (path_contour f is ∷ [])) (corners_of (path_contour f is ∷ [])) ≡ false
  pub range : off_range (corners_of (path_contour f is ∷ [])) ≡ false

abbrev pub AcceptedSure : Type 0
AcceptedSure = (f : Frame) (is : List PathItem) (room : ℕ) → path_fault f is room ≡ 0 → Accepted f is
