-- A path's corners written item by item, as the code does it. Assumes nothing.
use Rattle.std.specs.Prelude.{List, [], ◌∷◌, ℕ, ◌+◌, ◌≤◌, T, length, take, ℤ}
use Rattle.corners.specs.Corners.{points_of, with_corner}
use Rattle.path.specs.declared.PathItem.{PathItem}
use Rattle.path.specs.declared.Point.{Point}
use Rattle.path.specs.declared.Frame.{Frame}
use Rattle.path.specs.Path.{every, reach, is_on_grid, corner_of}

-- the point that each of the items reaches, a close too
unfoldable pub reached_from : Point → List PathItem → List Point
reached_from p [] = []
reached_from p (i ∷ is) = reach p i ∷ reached_from (reach p i) is

-- the corners of those points, the first at place k
unfoldable pub write_from : Frame → List PathItem → Point → ℕ → List ℤ → List ℤ
write_from f [] p k out = out
write_from f (i ∷ is) p k out = write_from f is (reach p i) (k + 1) (with_corner out k (corner_of f (reach p i)))

-- the first n items can be written into a list, from a point on: there are as many, each point has
-- a corner on the grid, and each corner a place
pub record Writable (f : Frame) (is : List PathItem) (p : Point) (n : ℕ) (out : List ℤ) : Type 0 where
  pub items : n ≤ length is
  pub placeable : T (every (is_on_grid f) (reached_from p (take n is)))
  pub room : n ≤ length (points_of out)
